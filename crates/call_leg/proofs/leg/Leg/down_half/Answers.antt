use Rattle.std.proofs.Common.{sym, subst, ap, ◌∙◌, ℕ, List, ◌∷◌}
use Rattle.call_leg.specs.Settings.{settings_later, period_with}
use Rattle.call_leg.specs.Memory.{DownMemory, LegMemory}
use Rattle.call_leg.specs.Stands.{Stands}
use Rattle.call_leg.specs.Step.{with_down, down_worked}
use Rattle.call_leg.proofs.HalfSteps.{half-keeps}
use Rattle.call_leg.proofs.LegLaws.{down-stands}
use Rattle.call_leg.proofs.leg.Leg.down_half.Goals as goal

pub invariant_of-self : goal.invariant_of-self
invariant_of-self c =
    c.self.invariant ∙ sym (ap (λ (w : List ℕ × DownMemory). w.1.bridged) (sym c.half.ensures) ∙ half-keeps c.self.inside.down c.args.pcm.now)

pub returns-clause-step : goal.returns-clause-step
returns-clause-step c = ap (λ (m : LegMemory). with_down m c.half.new.self) c.self.view_is

pub returns-clause-bits : goal.returns-clause-bits
returns-clause-bits c = ap (λ (m : LegMemory). down_worked m.down c.args.pcm.now) (sym c.self.view_is) ∙ c.half.ensures

pub returns-clause-history : goal.returns-clause-history
returns-clause-history c = λ who ts now up handed b h.
    subst (Stands who (period_with now up c.args.pcm.now handed ∷ ts) (settings_later now))
    (ap (λ (l : List ℕ × DownMemory). with_down c.args.self.now l.1) (returns-clause-bits c) ∙ sym (returns-clause-step c))
    (down-stands who ts now up c.args.pcm.now handed c.args.self.now c.told-pcm b h).0

pub returns-clause-down : goal.returns-clause-down
returns-clause-down c = λ who ts now up handed b h.
    sym (ap (λ (l : List ℕ × DownMemory). l.0) (returns-clause-bits c)) ∙ (down-stands who ts now up c.args.pcm.now handed c.args.self.now c.told-pcm b h).1

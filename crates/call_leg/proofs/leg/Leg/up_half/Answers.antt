use Rattle.std.proofs.Common.{sym, ap, ◌∙◌, subst, ℕ, List, None}
use Rattle.rx_handler.specs.Origin.{EffectiveFields}
use Rattle.call_leg.specs.Memory.{LegMemory}
use Rattle.call_leg.specs.Stands.{Midway}
use Rattle.call_leg.specs.Halves.{joined, Note}
use Rattle.call_leg.proofs.HalfSteps.{leg-step}
use Rattle.call_leg.proofs.LegLaws.{up-stands, up-effective, up-plays}
use Rattle.call_leg.proofs.leg.Leg.up_half.Goals as goal

pub returns-clause-step : goal.returns-clause-step
returns-clause-step c =
    leg-step c.self.inside.up c.turn-period.new.self c.self.inside.down c.note.new.self c.args.self.now c.args.up.now c.turn-period.new.out
    c.turn-period.result c.self.view_is c.self.invariant c.turn-period.ensures.step c.note.ensures
    ∙ ap (λ (n : Note). (n.eff, c.turn-period.new.out, joined c.turn-period.new.self c.note.new.self)) (sym c.period.view_is)

pub returns-clause-history : goal.returns-clause-history
returns-clause-history c = λ who ts now h.
    subst (Midway who ts now c.args.up.now None) (ap (λ (r : EffectiveFields × List ℕ × LegMemory). r.2) (returns-clause-step c))
    (up-stands who ts now c.args.up.now c.args.self.now c.told-up h)

pub returns-clause-effective : goal.returns-clause-effective
returns-clause-effective c = λ pcm handed who ts now h.
    sym (ap (λ (r : EffectiveFields × List ℕ × LegMemory). r.0) (returns-clause-step c)) ∙ up-effective who ts now c.args.up.now pcm handed c.args.self.now
    c.told-up h

pub returns-clause-out : goal.returns-clause-out
returns-clause-out c = λ pcm handed who ts now h b.
    sym (ap (λ (r : EffectiveFields × List ℕ × LegMemory). r.1) (returns-clause-step c))
    ∙ up-plays who ts now c.args.up.now pcm handed c.args.self.now c.told-up b h

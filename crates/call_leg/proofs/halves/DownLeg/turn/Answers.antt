use Rattle.std.proofs.Common.{sym, subst, ap, ◌∙◌, ℕ, List, ◌∷◌}
use Rattle.std.specs.Prelude.{option_copied}
use Rattle.call_leg.specs.Settings.{settings_later, period_with}
use Rattle.call_leg.specs.Memory.{DownMemory}
use Rattle.call_leg.specs.Places.{Between}
use Rattle.call_leg.specs.Halves.{item_of, handed_bits}
use Rattle.call_leg.proofs.HalfLaws.{down_turn-stands}
use Rattle.call_leg.proofs.HalfSteps.{is_some-item, down_turn-step, down-keeps}
use Rattle.call_leg.proofs.halves.DownLeg.turn.Goals as goal

pub returns-clause-step : goal.returns-clause-step
returns-clause-step c =
    down_turn-step c.args.self.now c.note.new.self c.hand_item.new.self c.args.note.now (item_of (option_copied c.args.item)) c.args.pcm.now _ _
    c.note.ensures c.hand_item.ensures c.half.ensures

pub returns-clause-history : goal.returns-clause-history
returns-clause-history c = λ who ts now up h e b.
    let item = item_of (option_copied c.args.item) in
    subst (Between who (period_with now up c.args.pcm.now (handed_bits item) ∷ ts) (settings_later now))
    (ap (λ (w : List ℕ × DownMemory). w.1) (returns-clause-step c))
    (down_turn-stands who ts now up c.args.pcm.now c.args.note.now item c.args.self.now c.told-pcm h e (is_some-item c.args.item ∙ b)).0

pub returns-clause-down : goal.returns-clause-down
returns-clause-down c = λ who ts now up h e b.
    sym (ap (λ (w : List ℕ × DownMemory). w.0) (returns-clause-step c))
    ∙ (down_turn-stands who ts now up c.args.pcm.now c.args.note.now (item_of (option_copied c.args.item)) c.args.self.now c.told-pcm h e
    (is_some-item c.args.item ∙ b)).1

pub returns-clause-bridged : goal.returns-clause-bridged
returns-clause-bridged c =
    ap (λ (w : List ℕ × DownMemory). w.1.bridged) (sym (returns-clause-step c)) ∙ down-keeps c.args.self.now c.args.note.now
    (item_of (option_copied c.args.item)) c.args.pcm.now

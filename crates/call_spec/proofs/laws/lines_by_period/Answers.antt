use Rattle.std.specs.Prelude.{◌∷◌, ◌++◌}
use Rattle.call_spec.specs.Out.{out}
use Rattle.call_spec.specs.Down.{down}
use Rattle.call_spec.specs.History.{call_of_history}
use Rattle.call_spec.proofs.ByPeriod.{out-place, down-place}
use Rattle.call_spec.proofs.laws.lines_by_period.Goals as goal

pub returns-clause-out : goal.returns-clause-out
returns-clause-out c = λ who later past t h.
    out-place who later past t (out (call_of_history who (later ++ t ∷ past))) (c.lines_of_a_call.ensures.out who (later ++ t ∷ past) h)

pub returns-clause-down : goal.returns-clause-down
returns-clause-down c = λ who later past t h.
    down-place who later past t (down (call_of_history who (later ++ t ∷ past))) (c.lines_of_a_call.ensures.down who (later ++ t ∷ past) h)

use Rattle.std.proofs.Common.{ap, ◌∙◌}
use Rattle.call_spec.specs.Out.{out}
use Rattle.call_spec.specs.Down.{down}
use Rattle.call_spec.specs.Whole.{periods_of_call}
use Rattle.call_spec.proofs.Whole.{history-whole, call-whole}
use Rattle.call_spec.proofs.laws.a_call_by_its_periods.Goals as goal

pub returns-clause-history : goal.returns-clause-history
returns-clause-history c = history-whole

pub returns-clause-same : goal.returns-clause-same
returns-clause-same c = call-whole

pub returns-clause-out : goal.returns-clause-out
returns-clause-out c = λ call h. c.lines_of_a_call.ensures.out call.who (periods_of_call call) (history-whole call h) ∙ ap out (call-whole call h)

pub returns-clause-down : goal.returns-clause-down
returns-clause-down c = λ call h. c.lines_of_a_call.ensures.down call.who (periods_of_call call) (history-whole call h) ∙ ap down (call-whole call h)

use Rattle.call_spec.proofs.OutLine.{out-whole}
use Rattle.call_spec.proofs.DownLine.{down-whole}
use Rattle.call_spec.proofs.laws.lines_of_a_call.Goals as goal

pub returns-clause-out : goal.returns-clause-out
returns-clause-out c = out-whole (record { newest = c.the_newest_is_the_last.ensures; table = c.steps_give_effectives.ensures })

pub returns-clause-down : goal.returns-clause-down
returns-clause-down c = down-whole (record { newest = c.the_newest_is_the_last.ensures; table = c.steps_give_effectives.ensures })

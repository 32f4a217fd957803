use Rattle.std.proofs.Common.{◌∙◌, arith}
use Rattle.call_leg.proofs.NotedRuns.{run-notes, run-outs, run-downs}
use Rattle.call_leg.proofs.laws.the_runs_are_the_call.Goals as goal

pub returns-clause-notes : goal.returns-clause-notes
returns-clause-notes c = run-notes

pub returns-clause-out : goal.returns-clause-out
returns-clause-out c = run-outs

pub returns-clause-down : goal.returns-clause-down
returns-clause-down c = λ h ups pcms items n notes downs a d. d.down ∙ run-downs h ups pcms items n notes a n (omega arith)

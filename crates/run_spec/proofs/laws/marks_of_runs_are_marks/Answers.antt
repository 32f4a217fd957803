use Rattle.run_spec.proofs.Parts.Marks.{mark-is}
use Rattle.run_spec.proofs.laws.marks_of_runs_are_marks.Goals as goal

pub returns : goal.returns
returns c = mark-is

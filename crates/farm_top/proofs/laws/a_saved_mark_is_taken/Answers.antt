use Rattle.run_spec.specs.Mark.{mark_of}
use Rattle.farm_top.proofs.laws.a_saved_mark_is_taken.Goals as goal

pub returns : goal.returns
returns c = λ r rest orders desk some most within spelled told.
    c.marks_leave_room.ensures (mark_of r) rest orders desk (c.marks_of_runs_are_marks.ensures r some most) within spelled told

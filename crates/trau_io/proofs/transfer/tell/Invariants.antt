use Rattle.std.proofs.Common.{◌-◌, length}
use Rattle.trau_io.proofs.Runs.{Told}
use Rattle.trau_io.proofs.transfer.tell.Given as goal

abbrev pub invariant-loop-sent : goal.invariant-loop-sent
invariant-loop-sent g l = Told (g.D.Desk.desk l.initial.desk) (g.D.Desk.desk l.desk) l.sent l.text

abbrev pub decreases-loop-sent : goal.decreases-loop-sent
decreases-loop-sent g l = length l.text - l.sent

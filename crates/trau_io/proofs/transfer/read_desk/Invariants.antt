use Rattle.std.proofs.Common.{◌≡◌, ◌-◌, length}
use Rattle.trau_io.proofs.Filling.{Filled}
use Rattle.trau_io.proofs.transfer.read_desk.Given as goal

abbrev pub invariant-loop-filled : goal.invariant-loop-filled
invariant-loop-filled g l = record {
  this : Filled (g.D.Desk.desk l.initial.desk) (g.D.Desk.desk l.desk) l.filled l.block;
  same : length l.block ≡ length l.initial.block;
}

abbrev pub decreases-loop-filled : goal.decreases-loop-filled
decreases-loop-filled g l = length l.initial.block - l.filled

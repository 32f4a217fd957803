use Rattle.std.proofs.Common.{◌≡◌, ◌-◌, length}
use Rattle.trau_io.specs.Lines.{OthersStay}
use Rattle.trau_io.proofs.Runs.{Filled}
use Rattle.trau_io.proofs.transfer.read_block.Given as goal

abbrev pub invariant-loop-filled : goal.invariant-loop-filled
invariant-loop-filled g l = record {
  this : Filled (g.T.Trunk.lines l.initial.trunk l.line.call l.line.side) (g.T.Trunk.lines l.trunk l.line.call l.line.side) l.filled l.block;
  others : OthersStay (g.T.Trunk.lines l.initial.trunk) (g.T.Trunk.lines l.trunk) l.line.call l.line.side;
  same : length l.block ≡ length l.initial.block;
}

abbrev pub decreases-loop-filled : goal.decreases-loop-filled
decreases-loop-filled g l = length l.initial.block - l.filled

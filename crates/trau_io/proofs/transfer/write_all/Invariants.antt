use Rattle.std.proofs.Common.{◌-◌, length}
use Rattle.trau_io.specs.Lines.{OthersStay}
use Rattle.trau_io.proofs.Runs.{Sent}
use Rattle.trau_io.proofs.transfer.write_all.Given as goal

abbrev pub invariant-loop-sent : goal.invariant-loop-sent
invariant-loop-sent g l = record {
  this : Sent (g.T.Trunk.lines l.initial.trunk l.line.call l.line.side) (g.T.Trunk.lines l.trunk l.line.call l.line.side) l.sent l.bytes;
  others : OthersStay (g.T.Trunk.lines l.initial.trunk) (g.T.Trunk.lines l.trunk) l.line.call l.line.side;
}

abbrev pub decreases-loop-sent : goal.decreases-loop-sent
decreases-loop-sent g l = length l.bytes - l.sent

use Rattle.std.proofs.Common.{take}
use Rattle.block_lines.proofs.Writing.{WrittenSoFar}
use Rattle.block_lines.proofs.run.write_lines.Given as goal

abbrev pub invariant-loop-j : goal.invariant-loop-j
invariant-loop-j g l = WrittenSoFar l.fn.shape (g.T.Trunk.lines l.initial.trunk) (g.T.Trunk.lines l.trunk) l.call (λ j. take l.count (g.M.BlockMachine.holds l.machine j)) l.j

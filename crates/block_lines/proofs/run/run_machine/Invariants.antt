use Rattle.block_lines.specs.Runs.{OthersStay, around}
use Rattle.block_lines.proofs.Rounds.{SoFar}
use Rattle.block_lines.proofs.run.run_machine.Given as goal

abbrev pub invariant-loop-blocks : goal.invariant-loop-blocks
invariant-loop-blocks g l = record {
  so_far : SoFar g.M.BlockMachine.about (g.M.BlockMachine.stands l.machine)
      (around g.M.BlockMachine.about (g.T.Trunk.lines l.initial.trunk) (g.D.Desk.desk l.initial.desk) l.call)
      (around g.M.BlockMachine.about (g.T.Trunk.lines l.trunk) (g.D.Desk.desk l.desk) l.call) l.blocks;
  others : OthersStay g.M.BlockMachine.about (g.T.Trunk.lines l.initial.trunk) (g.T.Trunk.lines l.trunk) l.call;
}

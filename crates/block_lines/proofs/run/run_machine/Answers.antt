use Rattle.std.proofs.Common.{◌∙◌, subst, arith, refl, rules}
use Rattle.block_lines.specs.Runs.{around}
use Rattle.block_lines.specs.Step.{IsTaken}
use Rattle.block_lines.proofs.Rounds.{at_last, at_start, ended, taken}
use Rattle.block_lines.proofs.run.run_machine.Goals as goal

pub loop-blocks-init : goal.loop-blocks-init
loop-blocks-init g c = record {
  so_far = at_start g.M.BlockMachine.about (g.M.BlockMachine.stands c.args.machine.now)
      (around g.M.BlockMachine.about (g.T.Trunk.lines c.args.trunk.now) (g.D.Desk.desk c.args.desk.now) c.args.call) c.shape-octets.ensures.law c.requires.home;
  others = λ n s e f. refl;
}

pub run_block-end-requires-clause-room : goal.run_block-end-requires-clause-room
run_block-end-requires-clause-room g c =
    let so_far = c.loop-blocks.invariant.so_far in
    record { blocks = so_far.blocks; now = so_far.now; fewer = omega (arith, so_far.count, c.loop-blocks-test.true) }

pub loop-blocks-preserved : goal.loop-blocks-preserved
loop-blocks-preserved g c = record {
  so_far = taken g.M.BlockMachine.about _ _ _ _ _ _ c.loop-blocks.invariant.so_far c.run_block-end.result c.run_block-end.ensures.goes
      (subst (λ s. IsTaken c.run_block-end.result s.octets) c.shape-octets.ensures.value (search rules));
  others = λ n s e f. c.run_block-end.ensures.others n s e f ∙ c.loop-blocks.invariant.others n s e f;
}

pub returns-then-not-is_taken-clause-runs : goal.returns-then-not-is_taken-clause-runs
returns-then-not-is_taken-clause-runs g c =
    ended g.M.BlockMachine.about _ _ _ _ _ _ c.loop-blocks.invariant.so_far (omega arith) c.run_block-end.result c.run_block-end.ensures.goes
    (subst (λ s. IsTaken c.run_block-end.result s.octets → ⊥) c.shape-octets.ensures.value (search rules))

pub returns-clause-runs : goal.returns-clause-runs
returns-clause-runs g c = at_last g.M.BlockMachine.about _ _ _ _ c.shape-octets.ensures.law c.loop-blocks.invariant.so_far (omega arith)

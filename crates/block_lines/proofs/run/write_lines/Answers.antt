use Rattle.std.proofs.Common.{◌+◌, Ok, Err, arith, subst, take}
use Rattle.trau_io.specs.Transfer.{WritesAll}
use Rattle.block_lines.proofs.Writing.{fails, one_more, stay}
use Rattle.block_lines.proofs.run.write_lines.Goals as goal

pub returns-in-Err-clause-lines : goal.returns-in-Err-clause-lines
returns-in-Err-clause-lines g c =
    fails c.args.shape (g.T.Trunk.lines c.args.trunk.now) (g.T.Trunk.lines c.loop-j.trunk) (g.T.Trunk.lines c.write_all.new.trunk) c.args.call
    (λ j. take c.args.count (g.M.BlockMachine.holds c.args.machine.now j)) c.loop-j.j (omega arith) c.loop-j.invariant c.in-Err.ensures.others
    (subst (λ l. WritesAll (g.T.Trunk.lines c.loop-j.trunk (c.args.call + c.loop-j.j) c.args.shape.to)
    (g.T.Trunk.lines c.write_all.new.trunk (c.args.call + c.loop-j.j) c.args.shape.to) (Err (record {})) (take c.args.count l)) c.held.ensures c.in-Err.ensures.this)

pub returns-in-Err-clause-others : goal.returns-in-Err-clause-others
returns-in-Err-clause-others g c =
    stay c.args.shape (g.T.Trunk.lines c.args.trunk.now) (g.T.Trunk.lines c.loop-j.trunk) (g.T.Trunk.lines c.write_all.new.trunk) c.args.call
    (λ j. take c.args.count (g.M.BlockMachine.holds c.args.machine.now j)) c.loop-j.j (omega arith) c.loop-j.invariant c.in-Err.ensures.others

pub loop-j-preserved : goal.loop-j-preserved
loop-j-preserved g c =
    one_more c.args.shape (g.T.Trunk.lines c.args.trunk.now) (g.T.Trunk.lines c.loop-j.trunk) (g.T.Trunk.lines c.write_all.new.trunk) c.args.call
    (λ j. take c.args.count (g.M.BlockMachine.holds c.args.machine.now j)) c.loop-j.j (omega arith) c.loop-j.invariant c.in-Ok.ensures.others
    (subst (λ l. WritesAll (g.T.Trunk.lines c.loop-j.trunk (c.args.call + c.loop-j.j) c.args.shape.to)
    (g.T.Trunk.lines c.write_all.new.trunk (c.args.call + c.loop-j.j) c.args.shape.to) (Ok tt) (take c.args.count l)) c.held.ensures c.in-Ok.ensures.this)

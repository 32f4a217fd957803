use Rattle.std.proofs.Common.{◌+◌, ◌<◌, ℕ, ◌∙◌, subst, take, Ok, Err}
use Rattle.trau_io.specs.Transfer.{Tells}
use Rattle.block_lines.specs.Runs.{All_of_it}
use Rattle.block_lines.specs.Step.{LineGains, LinesStay, write_stage}
use Rattle.block_lines.proofs.Putting.{desk_failed, done, write_failed}
use Rattle.block_lines.proofs.run.put.Goals as goal

pub returns-in-Err-clause-puts : goal.returns-in-Err-clause-puts
returns-in-Err-clause-puts g c =
    write_failed g.M.BlockMachine.about _ _ c.args.next.now (g.T.Trunk.lines c.args.trunk.now) (g.T.Trunk.lines c.write_lines.new.trunk)
    (g.D.Desk.desk c.args.desk.now) c.args.call (g.M.BlockMachine.holds c.make.new.self) (g.M.BlockMachine.says c.make.new.self) c.in-Some.count c.in-Some.ensures.makes c.in-Err.failed
    (subst (λ shape. (j : ℕ) → j < shape.lines → LineGains (write_stage (Err c.in-Err.failed) j)
    (g.T.Trunk.lines c.args.trunk.now (c.args.call + j) shape.to)
    (g.T.Trunk.lines c.write_lines.new.trunk (c.args.call + j) shape.to)
    (take c.in-Some.count (g.M.BlockMachine.holds c.make.new.self j))) c.shape.ensures.value c.in-Err.ensures.lines)

pub returns-in-Err-clause-others : goal.returns-in-Err-clause-others
returns-in-Err-clause-others g c =
    subst (λ shape. LinesStay shape (g.T.Trunk.lines c.args.trunk.now)
    (g.T.Trunk.lines c.write_lines.new.trunk) c.args.call) c.shape.ensures.value c.in-Err.ensures.others

pub returns-in-Ok-clause-puts : goal.returns-in-Ok-clause-puts
returns-in-Ok-clause-puts g c =
    done g.M.BlockMachine.about _ _ c.args.next.now (g.T.Trunk.lines c.args.trunk.now) (g.T.Trunk.lines c.write_lines.new.trunk)
    (g.D.Desk.desk c.args.desk.now) c.args.call (g.M.BlockMachine.holds c.make.new.self) (g.M.BlockMachine.says c.make.new.self) c.in-Some.count c.in-Some.ensures.makes
    (g.D.Desk.desk c.tell.new.desk)
    (subst (λ shape. (j : ℕ) → j < shape.lines → LineGains All_of_it (g.T.Trunk.lines c.args.trunk.now (c.args.call + j) shape.to)
    (g.T.Trunk.lines c.write_lines.new.trunk (c.args.call + j) shape.to) (take c.in-Some.count (g.M.BlockMachine.holds c.make.new.self j))) c.shape.ensures.value
    c.in_default-write_lines.ensures.lines) c.args.blocks _
    (subst (Tells (g.D.Desk.desk c.args.desk.now) (g.D.Desk.desk c.tell.new.desk) (Ok tt)) (c.as_bytes.ensures.value ∙ c.text.ensures) c.in-Ok.ensures)

pub returns-in-Ok-clause-others : goal.returns-in-Ok-clause-others
returns-in-Ok-clause-others g c =
    subst (λ shape. LinesStay shape (g.T.Trunk.lines c.args.trunk.now) (g.T.Trunk.lines c.write_lines.new.trunk) c.args.call) c.shape.ensures.value
    c.in_default-write_lines.ensures.others

pub returns-in-Err-tell-clause-puts : goal.returns-in-Err-tell-clause-puts
returns-in-Err-tell-clause-puts g c =
    desk_failed g.M.BlockMachine.about _ _ c.args.next.now (g.T.Trunk.lines c.args.trunk.now) (g.T.Trunk.lines c.write_lines.new.trunk)
    (g.D.Desk.desk c.args.desk.now) c.args.call (g.M.BlockMachine.holds c.make.new.self) (g.M.BlockMachine.says c.make.new.self) c.in-Some.count c.in-Some.ensures.makes
    (g.D.Desk.desk c.tell.new.desk)
    (subst (λ shape. (j : ℕ) → j < shape.lines → LineGains All_of_it (g.T.Trunk.lines c.args.trunk.now (c.args.call + j) shape.to)
    (g.T.Trunk.lines c.write_lines.new.trunk (c.args.call + j) shape.to) (take c.in-Some.count (g.M.BlockMachine.holds c.make.new.self j))) c.shape.ensures.value
    c.in_default-write_lines.ensures.lines)
    (subst (Tells (g.D.Desk.desk c.args.desk.now) (g.D.Desk.desk c.tell.new.desk) (Err (record {}))) (c.as_bytes.ensures.value ∙ c.text.ensures)
    c.in-Err-tell.ensures)

pub returns-in-Err-tell-clause-others : goal.returns-in-Err-tell-clause-others
returns-in-Err-tell-clause-others g c =
    subst (λ shape. LinesStay shape (g.T.Trunk.lines c.args.trunk.now) (g.T.Trunk.lines c.write_lines.new.trunk) c.args.call) c.shape.ensures.value
    c.in_default-write_lines.ensures.others

use Rattle.std.proofs.Common.{◌≡◌, ℕ, List, ap, subst, rules}
use Rattle.trau_io.specs.declared.transfer.Filled.TheVariants.{Whole, Ended, Failed}
use Rattle.trau_io.specs.declared.line.Side.{Side}
use Rattle.trau_io.specs.Lines.{LineState, OthersStay}
use Rattle.trau_io.specs.Transfer.{ReadsBlock}
use Rattle.block_lines.specs.declared.machine.Shape.{Shape}
use Rattle.block_lines.proofs.Putting.{part, read_failed, whole}
use Rattle.block_lines.proofs.run.run_block.Goals as goal

pub returns-in-Whole-clause-goes : goal.returns-in-Whole-clause-goes
returns-in-Whole-clause-goes g c =
    let M = g.M.BlockMachine.about in
    let side : c.shape-shape.result.from ≡ M.shape.from = ap (λ (s : Shape). s.from) c.shape-shape.ensures.value in
    whole M c.shape-shape.ensures.law _ _ c.args.blocks (g.T.Trunk.lines c.args.trunk.now) (g.T.Trunk.lines c.read_block.new.trunk)
    (g.D.Desk.desk c.args.desk.now) c.args.call c.read_block.new.block (search rules)
    (subst (λ s. OthersStay (g.T.Trunk.lines c.args.trunk.now) (g.T.Trunk.lines c.read_block.new.trunk) c.args.call s) side c.in-Whole.ensures.others)
    (g.T.Trunk.lines c.put.new.trunk) (g.D.Desk.desk c.put.new.desk) c.put.ensures.others c.put.result
    (subst (λ s. ReadsBlock (g.T.Trunk.lines c.args.trunk.now c.args.call s)
    (g.T.Trunk.lines c.read_block.new.trunk c.args.call s) Whole c.read_block.new.block)
    side c.in-Whole.ensures.this)
    c.put.ensures.puts c.put.ensures.ends

pub returns-in-Ended-clause-goes : goal.returns-in-Ended-clause-goes
returns-in-Ended-clause-goes g c =
    let M = g.M.BlockMachine.about in
    let side : c.shape-shape.result.from ≡ M.shape.from = ap (λ (s : Shape). s.from) c.shape-shape.ensures.value in
    part M c.shape-shape.ensures.law _ _ c.args.blocks (g.T.Trunk.lines c.args.trunk.now) (g.T.Trunk.lines c.read_block.new.trunk)
    (g.D.Desk.desk c.args.desk.now) c.args.call c.read_block.new.block (search rules)
    (subst (λ s. OthersStay (g.T.Trunk.lines c.args.trunk.now) (g.T.Trunk.lines c.read_block.new.trunk) c.args.call s) side c.in-Ended.ensures.others)
    (g.T.Trunk.lines c.put-in-Ended.new.trunk) (g.D.Desk.desk c.put-in-Ended.new.desk) c.put-in-Ended.ensures.others c.put-in-Ended.result c.in-Ended.count
    (subst (λ s. ReadsBlock (g.T.Trunk.lines c.args.trunk.now c.args.call s) (g.T.Trunk.lines c.read_block.new.trunk c.args.call s)
    (Ended c.in-Ended.count) c.read_block.new.block) side c.in-Ended.ensures.this)
    c.put-in-Ended.ensures.puts c.put-in-Ended.ensures.ends

-- the side by its name in the machine
read_at : {block : List ℕ} {a b : Side} (m : ℕ) (before now : Side → LineState) → a ≡ b → ReadsBlock (before a) (now a) (Failed m) block →
    ReadsBlock (before b) (now b) (Failed m) block
read_at {block} m before now same reads = subst (λ s. ReadsBlock (before s) (now s) (Failed m) block) same reads

pub returns-in-Failed-clause-goes : goal.returns-in-Failed-clause-goes
returns-in-Failed-clause-goes g c =
    let M = g.M.BlockMachine.about in
    let side : c.shape-shape.result.from ≡ M.shape.from = ap (λ (s : Shape). s.from) c.shape-shape.ensures.value in
    read_failed M c.shape-shape.ensures.law _ _ c.args.blocks (g.T.Trunk.lines c.args.trunk.now) (g.T.Trunk.lines c.read_block.new.trunk)
    (g.D.Desk.desk c.args.desk.now) c.args.call c.read_block.new.block (search rules)
    (subst (λ s. OthersStay (g.T.Trunk.lines c.args.trunk.now) (g.T.Trunk.lines c.read_block.new.trunk) c.args.call s) side c.in-Failed.ensures.others) _
    (read_at _ (g.T.Trunk.lines c.args.trunk.now c.args.call) (g.T.Trunk.lines c.read_block.new.trunk c.args.call) side c.in-Failed.ensures.this)

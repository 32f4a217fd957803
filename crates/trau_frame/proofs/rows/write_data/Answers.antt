use Rattle.std.proofs.Common.{◌+◌, ◌*◌, arith}
use Rattle.trau_frame.proofs.WrittenRows.{written_to, written_one}
use Rattle.trau_frame.proofs.rows.write_data.Goals as goal

pub loop-row-preserved : goal.loop-row-preserved
loop-row-preserved c = λ control before.
    written_to control c.args.d.now c.write_row.new.bits (32 + 16 * c.loop-row.row + 16) (32 + 16 * (c.loop-row.row + 1)) (omega arith)
    (c.write_row.ensures control (written_one control c.args.d.now c.loop-row.bits (c.loop-row.row + 2) (32 + 16 * c.loop-row.row)
    (32 + 16 * c.loop-row.row + 1) (omega arith) (omega arith) (omega arith) (omega arith) (c.loop-row.invariant control before)))

pub returns : goal.returns
returns c = λ control before.
    written_to control c.args.d.now c.loop-row.bits (32 + 16 * c.loop-row.row) 304 (omega arith) (c.loop-row.invariant control before)

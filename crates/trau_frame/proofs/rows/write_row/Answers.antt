use Rattle.std.proofs.Common.{arith, rules}
use Rattle.trau_frame.proofs.WrittenRows.{written_part}
use Rattle.trau_frame.proofs.rows.write_row.Goals as goal

pub returns : goal.returns
returns c = λ control before.
    written_part control c.args.d.now c.args.bits.now c.copy_from_slice.new.self c.args.row _ (omega arith) (omega arith) (omega arith)
    (search rules) (search rules) before

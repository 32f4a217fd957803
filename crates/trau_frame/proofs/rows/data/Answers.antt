use Rattle.std.proofs.Common.{◌*◌, sym, subst, arith, rules}
use Rattle.trau_bits.specs.Bits.{AreBits}
use Rattle.trau_frame.proofs.ReadRows.{read_row, read_last, read_to, read_all, data_of-below}
use Rattle.trau_frame.proofs.rows.data.Goals as goal

pub loop-row-preserved : goal.loop-row-preserved
loop-row-preserved c =
    read_row c.args.bits.now c.loop-row.d c.copy_from_slice.new.self c.loop-row.row _ (omega arith) (omega arith) (omega arith)
    (search rules) (search rules) c.loop-row.invariant

pub returns-clause-value : goal.returns-clause-value
returns-clause-value c =
    read_all c.args.bits.now _ (read_last c.args.bits.now c.loop-row.d c.copy_from_slice-2.new.self (omega arith)
    (search rules) (search rules) (read_to c.args.bits.now c.loop-row.d (15 * c.loop-row.row) 255 (omega arith) c.loop-row.invariant))

pub returns-clause-are_bits : goal.returns-clause-are_bits
returns-clause-are_bits c = subst AreBits (sym (returns-clause-value c)) (data_of-below c.args.bits.now c.requires)

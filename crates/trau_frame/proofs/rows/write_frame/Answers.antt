use Rattle.std.proofs.Common.{◌≡◌, sym, subst}
use Rattle.trau_bits.specs.Bits.{AreBits}
use Rattle.trau_frame.specs.Frame.{frame_bits}
use Rattle.trau_frame.proofs.WrittenRows.{written_all, frame_bits-below}
use Rattle.trau_frame.proofs.rows.write_frame.Goals as goal

pub returns-clause-bits : goal.returns-clause-bits
returns-clause-bits c =
    written_all c.args.control.now c.args.d.now c.write_tail.new.bits
    (c.write_tail.ensures (c.write_data.ensures c.args.control.now (c.write_head.ensures c.args.d.now)))

pub returns-clause-are_bits : goal.returns-clause-are_bits
returns-clause-are_bits c =
    let all : c.write_tail.new.bits ≡ frame_bits c.args.control.now c.args.d.now =
    written_all c.args.control.now c.args.d.now c.write_tail.new.bits
    (c.write_tail.ensures (c.write_data.ensures c.args.control.now (c.write_head.ensures c.args.d.now))) in
    subst AreBits (sym all) (frame_bits-below c.args.control.now c.args.d.now c.requires.control c.requires.data_bits)

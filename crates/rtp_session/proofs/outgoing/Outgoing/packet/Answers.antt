use Rattle.std.proofs.Common.{rules}
use Rattle.rtp_session.proofs.Written.{carried}
use Rattle.rtp_session.proofs.outgoing.Outgoing.packet.Goals as goal

pub returns-clause-carries : goal.returns-clause-carries
returns-clause-carries c =
    carried c.written_is_read-header.result c.copy_from_slice.new.self c.args.payload.now c.copy_from_slice-2.new.self c.args.datagram.now c.header.result _
    (search rules) c.copy_from_slice.ensures.after c.copy_from_slice-2.ensures.after c.header.ensures (c.written_is_read-header.ensures c.args.payload.now)

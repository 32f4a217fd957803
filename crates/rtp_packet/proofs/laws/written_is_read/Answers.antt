use Rattle.std.proofs.Common.{rules}
use Rattle.rtp_packet.proofs.Plain as plain
use Rattle.rtp_packet.proofs.laws.written_is_read.Goals as goal

pub returns : goal.returns
returns c payload = plain.plain_packet c.octets.result payload c.args.header.now (search rules) c.octets.ensures.first c.octets.ensures.value c.requires.media

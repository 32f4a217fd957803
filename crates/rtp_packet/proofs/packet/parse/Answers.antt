use Rattle.rtp_packet.proofs.Taken as proofs
use Rattle.rtp_packet.proofs.packet.parse.Goals as goal

pub returns-clause-taken : goal.returns-clause-taken
returns-clause-taken c = proofs.if_packet c.args.octets.now c.parsed.result c.parsed.ensures.value

pub returns-clause-only : goal.returns-clause-only
returns-clause-only c p h = proofs.only_packet c.args.octets.now c.parsed.result p c.parsed.ensures.value h

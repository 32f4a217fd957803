use Rattle.rtp_packet.proofs.Taken as proofs
use Rattle.rtp_packet.proofs.laws.one_packet.Goals as goal

pub returns-clause-taken : goal.returns-clause-taken
returns-clause-taken c = proofs.taken

pub returns-clause-only : goal.returns-clause-only
returns-clause-only c = proofs.only

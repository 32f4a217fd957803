use Rattle.rtp_call.proofs.Pauses.{one_in_24}
use Rattle.rtp_call.proofs.laws.one_in_24_is_sent.Goals as goal

pub returns : goal.returns
returns c = one_in_24

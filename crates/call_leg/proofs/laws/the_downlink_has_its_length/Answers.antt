use Rattle.call_leg.proofs.Downlink.Numbered.{length-made}
use Rattle.call_leg.proofs.laws.the_downlink_has_its_length.Goals as goal

pub returns : goal.returns
returns c = length-made

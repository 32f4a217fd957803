use Rattle.trau_submux.proofs.Channels.{one_slot}
use Rattle.trau_submux.proofs.laws.the_channels_are_the_slot.Goals as goal

pub returns : goal.returns
returns c = one_slot

use Rattle.call_sides.proofs.Sending.{frame-same}
use Rattle.call_sides.proofs.laws.the_transmit_side_gives_each_frame.Goals as goal

pub returns : goal.returns
returns c = frame-same

use Rattle.down_framer.proofs.FrameLaws.{in_time}
use Rattle.down_framer.proofs.laws.frames_in_time.Goals as goal

pub returns : goal.returns
returns c = in_time

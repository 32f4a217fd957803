use Rattle.down_framer.proofs.FrameLaws.{line-numbered}
use Rattle.down_framer.proofs.Numbers.{made-numbered}
use Rattle.down_framer.proofs.laws.frames_by_number.Goals as goal

pub returns-clause-frames : goal.returns-clause-frames
returns-clause-frames c = made-numbered

pub returns-clause-line : goal.returns-clause-line
returns-clause-line c = line-numbered

use Rattle.call_sides.proofs.Unshifted.{frames-same}
use Rattle.call_sides.proofs.Contents.{contents-same}
use Rattle.call_sides.proofs.DownLine.{line-same}
use Rattle.call_sides.proofs.laws.the_transmit_side_gives_the_down_line.Goals as goal

pub returns-clause-frames : goal.returns-clause-frames
returns-clause-frames c = frames-same

pub returns-clause-contents : goal.returns-clause-contents
returns-clause-contents c = contents-same

pub returns-clause-line : goal.returns-clause-line
returns-clause-line c = line-same

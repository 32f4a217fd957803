use Rattle.call_sides.proofs.Frames.{sent-frame, handed-same, idle-same}
use Rattle.call_sides.proofs.laws.written_frames_are_those_of_the_line.Goals as goal

pub returns-clause-sent : goal.returns-clause-sent
returns-clause-sent c = sent-frame

pub returns-clause-handed : goal.returns-clause-handed
returns-clause-handed c = handed-same

pub returns-clause-idle : goal.returns-clause-idle
returns-clause-idle c = idle-same

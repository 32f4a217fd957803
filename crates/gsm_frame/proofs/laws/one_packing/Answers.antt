use Rattle.gsm_frame.proofs.OneFrame as frames
use Rattle.gsm_frame.proofs.laws.one_packing.Goals as goal

pub returns : goal.returns
returns c = frames.one_packing

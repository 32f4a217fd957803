use Rattle.gsm_frame.proofs.OneFrame as frames
use Rattle.gsm_frame.proofs.laws.one_frame.Goals as goal

pub returns : goal.returns
returns c octets a b = frames.one_frame c.args.one c.args.other c.has_shape.ensures c.has_shape-2.ensures octets a b

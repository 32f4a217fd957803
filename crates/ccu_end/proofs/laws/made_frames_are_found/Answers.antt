use Rattle.ccu_end.proofs.Lines.{made-found}
use Rattle.ccu_end.proofs.laws.made_frames_are_found.Goals as goal

pub returns : goal.returns
returns c = made-found

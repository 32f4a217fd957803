use Rattle.trau_frame.proofs.WrittenRows.{ones-below}
use Rattle.ccu_end.proofs.asking.answer_with.Goals as goal

pub up_frame-requires-in-None-clause-bits : goal.up_frame-requires-in-None-clause-bits
up_frame-requires-in-None-clause-bits c = ones-below

use Rattle.std.proofs.Common.{rules}
use Rattle.call_leg.proofs.down_frames.own_frame.Goals as goal

pub returns-then-quiet-clause-step : goal.returns-then-quiet-clause-step
returns-then-quiet-clause-step c = search rules

use Rattle.std.proofs.Common.{rules}
use Rattle.frame_sync.proofs.advance.after_miss.Goals as goal

pub returns-then-misses-eq-MISSES_TO_HUNT : goal.returns-then-misses-eq-MISSES_TO_HUNT
returns-then-misses-eq-MISSES_TO_HUNT c = search rules

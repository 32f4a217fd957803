use Rattle.std.proofs.Common.{rules}
use Rattle.drill_run.proofs.whole.orders_of.Goals as goal

pub unreachable-requires-in-Err-Line : goal.unreachable-requires-in-Err-Line
unreachable-requires-in-Err-Line c = c.requires.good c.in-Err-Line.field-0-0 (c.parse.ensures.bad c.in-Err-Line.field-0-0 (search rules)).1

use Rattle.std.proofs.Common.{sym, ◌∙◌, ap}
use Rattle.ccu_end.specs.Tool.{last_text}
use Rattle.ccu_end.proofs.text.last_line.Goals as goal

pub returns-in-Done : goal.returns-in-Done
returns-in-Done c = c.left_line.ensures ∙ ap (last_text c.args.call) (sym c.in-Done.is)

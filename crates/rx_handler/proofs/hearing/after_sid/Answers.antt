use Rattle.std.proofs.Common.{rules}
use Rattle.rx_handler.proofs.hearing.after_sid.Goals.{then-pause-eq0, else-pause-eq0}
use Rattle.rx_handler.proofs.hearing.after_sid.Goals as goal

pub returns-after-pause-eq0 : goal.returns-after-pause-eq0
returns-after-pause-eq0 c = elim c.if-pause-eq0.branch [ then-pause-eq0 w ↦ search rules | else-pause-eq0 w ↦ search rules ]

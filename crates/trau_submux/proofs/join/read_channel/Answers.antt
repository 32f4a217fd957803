use Rattle.std.proofs.Common.{rules}
use Rattle.trau_submux.proofs.Reading.{gives_front, gives_whole}
use Rattle.trau_submux.proofs.join.read_channel.Goals as goal

pub returns-in-Whole-clause-ok : goal.returns-in-Whole-clause-ok
returns-in-Whole-clause-ok g c = gives_whole _ _ c.read_block.new.block (search rules) c.in-Whole.ensures.this

pub returns-in-Ended-clause-ok : goal.returns-in-Ended-clause-ok
returns-in-Ended-clause-ok g c = gives_front _ _ c.read_block.new.block c.in-Ended.count (search rules) c.in-Ended.ensures.this

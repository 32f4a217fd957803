use Rattle.farm_checkpoint.specs.Text.{call_text}
use Rattle.farm_checkpoint.proofs.write.put_call.Goals as goal

pub returns-clause-text : goal.returns-clause-text
unfolding call_text
returns-clause-text c = c.write.ensures.bytes

use Rattle.std.proofs.Common.{rules}
use Rattle.frame_listing.proofs.text.word.Goals as goal

pub returns-in-Miss-clause-word : goal.returns-in-Miss-clause-word
returns-in-Miss-clause-word c = search rules

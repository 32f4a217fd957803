use Rattle.std.proofs.lemmas.Option.{IfSome_then}
use Rattle.farm_checkpoint.proofs.Fields.{save_field, save_text}
use Rattle.farm_checkpoint.proofs.line.read_period.Goals as goal

pub returns-clause-some : goal.returns-clause-some
returns-clause-some c = IfSome_then c.number_behind.result c.number_behind.ensures.some
    (λ read is. (is.at_least, is.at_most, save_text read.0 c.args.text.now read.1.now is))

pub returns-clause-none : goal.returns-clause-none
returns-clause-none c = λ none period rest low high e. c.number_behind.ensures.none none period rest (save_field period c.args.text.now rest low high e)

use Rattle.std.proofs.lemmas.Bool.Decides.{Decides-eqb}
use Rattle.std.proofs.lemmas.Slice.Eq.{strip_prefix_is}
use Rattle.farm_checkpoint.proofs.Fields.{some_of, none_of}
use Rattle.farm_checkpoint.proofs.line.behind.Goals as goal

pub returns-clause-some : goal.returns-clause-some
returns-clause-some c = some_of c.strip_prefix.result _ _
    (strip_prefix_is Decides-eqb c.args.text.now c.args.words.now c.strip_prefix.result c.strip_prefix.ensures.cases)

pub returns-clause-none : goal.returns-clause-none
returns-clause-none c = none_of c.strip_prefix.result _ _
    (strip_prefix_is Decides-eqb c.args.text.now c.args.words.now c.strip_prefix.result c.strip_prefix.ensures.cases)

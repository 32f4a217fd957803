use Rattle.std.proofs.Common.{ap, subst, ◌∙◌, arith}
use Rattle.fr_long.specs.Lag.{correlation_of, AreSigned16}
use Rattle.fr_long.proofs.Lanes.{plain_correlation}
use Rattle.fr_long.proofs.correlations.correlate.Goals as goal

pub returns : goal.returns
returns c = λ lag a b.
    let words : AreSigned16 c.args.past.now = subst AreSigned16 c.copied.ensures.value c.copied.ensures.words in
    c.correlations.ensures.value lag a b ∙ ap (λ xs. correlation_of c.args.wt.now xs lag) c.copied.ensures.value ∙
    plain_correlation c.args.wt.now c.args.past.now lag (omega arith) (omega arith) b c.requires words

use Rattle.std.proofs.Common.{◌∙◌, ap, FitsSigned, w16, rules}
use Rattle.std.proofs.lemmas.Int.{to_z-of_z}
use Rattle.fr_short.specs.Deemphasis.{deemphasised, last_of}
use Rattle.fr_short.specs.Reflection.{coefficients_at}
use Rattle.fr_short.specs.Synthesis.{filtered_samples}
use Rattle.fr_short.proofs.Runs.{stepped_deemphasis}
use Rattle.fr_short.proofs.synthesis.filter_deemphasised.Goals as goal

pub returns-clause-samples : goal.returns-clause-samples
returns-clause-samples c =
    let out = (filtered_samples (coefficients_at c.args.old.now c.args.new.now) 0 c.args.sections.now c.args.d.now).0 in
    c.filter_by.ensures.samples ∙ stepped_deemphasis _ out ∙ ap (λ b. deemphasised b out) (to_z-of_z w16 c.args.before c.ranges.before)

pub returns-clause-last : goal.returns-clause-last
returns-clause-last c =
    let out = (filtered_samples (coefficients_at c.args.old.now c.args.new.now) 0 c.args.sections.now c.args.d.now).0 in
    let fits : FitsSigned w16 c.filter_by.result = search rules in
    to_z-of_z w16 c.filter_by.result fits ∙ c.filter_by.ensures.last ∙ ap (last_of _) (stepped_deemphasis _ out) ∙
    ap (λ b. last_of b (deemphasised b out)) (to_z-of_z w16 c.args.before c.ranges.before)

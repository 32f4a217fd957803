use Rattle.std.proofs.Common.{◌≡◌, ◌++◌, drop, ap, ◌∙◌}
use Rattle.fr_long.specs.Prediction.{reconstructed_of}
use Rattle.fr_long.specs.Step.{updated}
use Rattle.fr_long.proofs.Predictions.{one_update}
use Rattle.fr_long.proofs.Words.{updated-words}
use Rattle.fr_long.proofs.encoder.LtpHistory.update.Goals as goal

pub returns-clause-step : goal.returns-clause-step
unfolding updated
returns-clause-step c =
    rw (← c.self.view_is) (c.remember.ensures ∙ ap (λ block. drop 40 c.self.inside.dp ++ block) c.reconstructed.ensures)

pub returns-clause-history : goal.returns-clause-history
unfolding updated
returns-clause-history c =
    let next : c.remember.new.residuals ≡ updated c.self.inside.dp c.args.dpp.now c.args.ep.now =
    c.remember.ensures ∙ ap (λ block. drop 40 c.self.inside.dp ++ block) c.reconstructed.ensures in
    rw (← c.self.view_is) (λ past h. one_update past c.self.inside.dp c.args.dpp.now c.args.ep.now c.remember.new.residuals h next)

pub invariant_of-self : goal.invariant_of-self
invariant_of-self c =
    let next : c.remember.new.residuals ≡ drop 40 c.self.inside.dp ++ reconstructed_of c.args.dpp.now c.args.ep.now =
    c.remember.ensures ∙ ap (λ block. drop 40 c.self.inside.dp ++ block) c.reconstructed.ensures in
    rw next (updated-words c.self.inside.dp c.args.dpp.now c.args.ep.now c.self.invariant)

use Rattle.std.proofs.Common.{◌≡◌, ap, sym, subst, ◌∙◌, unsigned_abs, FitsSigned, w16, w32, rules}
use Rattle.std.proofs.lemmas.Int.{to_z-of_z}
use Rattle.fr_long.specs.Scaling.{block_scaling_of, scaling_of_block_peak}
use Rattle.fr_long.specs.Prediction.{Prediction, prediction_of, IsPrediction}
use Rattle.fr_long.specs.Stands.{after_zeros}
use Rattle.fr_long.proofs.Lags.{lag_is}
use Rattle.fr_long.proofs.Predictions.{predicts, is_prediction, prediction_is, by_history}
use Rattle.fr_long.proofs.encoder.LtpHistory.predict.Goals as goal

told : (c : goal.After-result-1) → Prediction
told c = record { nc = c.search-best.result.lag; bc = c.gain_code-bc.result; dpp = c.predicted-dpp.result; e = c.rest-e.result }

step : (c : goal.After-result-1) → IsPrediction c.args.d.now c.self.inside.dp (told c)
unfolding told
step c =
    let p : FitsSigned w16 c.peak-peak.result = search rules in
    let g : FitsSigned w32 c.search-best.result.correlation = search rules in
    let m : FitsSigned w32 c.unscaled-l_max.result = search rules in
    let w : FitsSigned w32 c.power.result = search rules in
    let scal : c.scaling-scal.result ≡ block_scaling_of c.args.d.now =
    simp to_z-of_z at c.scaling-scal.ensures.value ∙ ap (λ x. scaling_of_block_peak (unsigned_abs x)) c.peak-peak.ensures.value in
    predicts c.args.d.now c.self.inside.dp c.scaled.result c.scaling-scal.result c.search-best.result.correlation c.unscaled-l_max.result c.power.result
    (told c)
    c.scaled.ensures.value scal c.search-best.ensures.lag c.search-best.ensures.correlation
    (simp to_z-of_z at c.unscaled-l_max.ensures) c.power.ensures.value (simp to_z-of_z at c.gain_code-bc.ensures.value) c.predicted-dpp.ensures c.rest-e.ensures

pub returns-clause-lag : goal.returns-clause-lag
unfolding told
returns-clause-lag c = rw (← c.self.view_is) (lag_is _ c.search-best.result.lag (step c).lag)

pub returns-clause-step : goal.returns-clause-step
unfolding told
returns-clause-step c = rw (← c.self.view_is) (prediction_is c.args.d.now c.self.inside.dp (told c) (step c))

pub returns-clause-prediction : goal.returns-clause-prediction
unfolding told
returns-clause-prediction c = rw (← c.self.view_is) (step c)

pub returns-clause-history : goal.returns-clause-history
unfolding told
returns-clause-history c =
    rw (← c.self.view_is)
    (λ past h.
    let now : told c ≡ prediction_of c.args.d.now (after_zeros past) =
    prediction_is c.args.d.now c.self.inside.dp (told c) (step c) ∙ by_history past c.self.inside.dp c.args.d.now h in
    (now, subst (IsPrediction c.args.d.now (after_zeros past)) (sym now) (is_prediction c.args.d.now (after_zeros past))))

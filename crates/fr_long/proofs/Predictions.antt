-- For crates above: the last 120 residuals predict a block as all earlier ones do (`by_history`), also after one block
-- more (`one_update`).
-- A block has one prediction, and that by the last 120 residuals is that by all earlier residuals.
use Rattle.std.proofs.Common.{◌≡◌, ℕ, ℤ, ◌-◌, ◌≤◌, pos, ◌+ℤ◌, int_lt, if◌then◌else◌, List, ◌++◌, length, drop, map, fold, replicate, refl, sym, ap, subst, ◌∙◌}
use Rattle.std.proofs.Common.{inl, inr, ⊎_elim, append_assoc, arith}
use Rattle.std.specs.List.{range_with_len}
use Rattle.std.proofs.lemmas.Int.{ints}
use Rattle.std.proofs.lemmas.List.{length-append, length-replicate}
use Rattle.std.proofs.lemmas.List.FromFn.{length-map-range_with_len}
use Rattle.trau_num.specs.Num.{add_of, mult_r_of, l_mult_of, floor_shr, entry}
use Rattle.fr_long.specs.Gain.{gain_of}
use Rattle.fr_long.specs.Stands.{last_120, after_zeros, HistoryStands}
use Rattle.fr_long.specs.Scaling.{block_scaling_of, scaled_block}
use Rattle.fr_long.specs.Lag.{correlation_of, lag_of, IsBest, IsChosen, IsLag, greatest_of}
use Rattle.fr_long.specs.GainCode.{energy_of, power_of, gain_code_of}
use Rattle.fr_long.specs.Prediction.{correlation_of_block, l_max_of, predicted_of, rest_of, Prediction, prediction_of, IsPrediction, reconstructed_of}
use Rattle.fr_long.specs.Step.{updated}
use Rattle.fr_long.proofs.Lags.{lag_is, has_lag}
use Rattle.fr_long.proofs.Histories.{sample_before-last_120, last_120-append}

-- what the code computes is a prediction
pub predicts : (d earlier wt : List ℤ) (scal : ℕ) (correlation l_max l_power : ℤ) (p : Prediction) →
    wt ≡ scaled_block d scal → scal ≡ block_scaling_of d → IsLag (correlation_of wt earlier) p.nc → correlation ≡ greatest_of (correlation_of wt earlier) p.nc →
    l_max ≡ floor_shr correlation (6 - scal) → l_power ≡ power_of earlier p.nc → p.bc ≡ gain_code_of l_max l_power →
    p.dpp ≡ predicted_of earlier p.nc p.bc → p.e ≡ rest_of d p.dpp → IsPrediction d earlier p
predicts d earlier wt scal correlation l_max l_power p ew es lag ec em ep eb predicted rest =
    let nc = p.nc in
    let w : wt ≡ scaled_block d (block_scaling_of d) = ew ∙ ap (scaled_block d) es in
    let greatest : correlation ≡ greatest_of (correlation_of_block d earlier) nc = ec ∙ ap (λ x. greatest_of (correlation_of x earlier) nc) w in
    let most : l_max ≡ l_max_of d earlier nc =
    em ∙ ap (λ x. floor_shr x (6 - scal)) greatest ∙ ap (λ s. floor_shr (greatest_of (correlation_of_block d earlier) nc) (6 - s)) es in
    record {
      lag = subst (λ x. IsLag (correlation_of x earlier) nc) w lag;
      gain = eb ∙ ap (λ x. gain_code_of x l_power) most ∙ ap (gain_code_of (l_max_of d earlier nc)) ep;
      predicted = predicted;
      rest = rest;
    }

-- and all predictions are the one of the definition
pub is_prediction : (d earlier : List ℤ) → IsPrediction d earlier (prediction_of d earlier)
unfolding prediction_of
is_prediction d earlier = record { lag = has_lag (correlation_of_block d earlier); gain = refl; predicted = refl; rest = refl }

-- what has the property is the prediction, so there is one
pub prediction_is : (d earlier : List ℤ) (p : Prediction) → IsPrediction d earlier p → p ≡ prediction_of d earlier
unfolding prediction_of
prediction_is d earlier p h =
    let nc = lag_of (correlation_of_block d earlier) in
    let lag : p.nc ≡ nc = lag_is (correlation_of_block d earlier) p.nc h.lag in
    let gain = h.gain ∙ ap (λ n. gain_code_of (l_max_of d earlier n) (power_of earlier n)) lag in
    let predicted = h.predicted ∙ ap (λ n. predicted_of earlier n p.bc) lag ∙ ap (predicted_of earlier nc) gain in
    let rest = h.rest ∙ ap (rest_of d) predicted in
    λ i. record { nc = lag i; bc = gain i; dpp = predicted i; e = rest i }

pub same : (d earlier : List ℤ) (p q : Prediction) → IsPrediction d earlier p → IsPrediction d earlier q → p ≡ q
same d earlier p q h k = prediction_is d earlier p h ∙ sym (prediction_is d earlier q k)

-- correlation, power and prediction look back over the last 120 residuals alone
correlation-last_120 : (wt xs : List ℤ) (lag : ℕ) → 120 ≤ length xs → lag ≤ 120 → correlation_of wt (last_120 xs) lag ≡ correlation_of wt xs lag
unfolding correlation_of
correlation-last_120 wt xs lag l h =
    λ i. fold ◌+ℤ◌ (pos 0) (map (λ k. l_mult_of (entry wt k) (sample_before-last_120 xs lag k l h i)) (range_with_len 0 40))

power-last_120 : (xs : List ℤ) (lag : ℕ) → 120 ≤ length xs → lag ≤ 120 → power_of (last_120 xs) lag ≡ power_of xs lag
unfolding power_of
power-last_120 xs lag l h = λ i. fold ◌+ℤ◌ (pos 0) (map (λ k. energy_of (sample_before-last_120 xs lag k l h i)) (range_with_len 0 40))

predicted-last_120 : (xs : List ℤ) (lag bc : ℕ) → 120 ≤ length xs → lag ≤ 120 → predicted_of (last_120 xs) lag bc ≡ predicted_of xs lag bc
unfolding predicted_of
predicted-last_120 xs lag bc l h = λ i. map (λ k. mult_r_of (gain_of bc) (sample_before-last_120 xs lag k l h i)) (range_with_len 0 40)

-- the lag rests on the correlations up to 120 alone
same_best : (f g : ℕ → ℤ) (lag : ℕ) → ((m : ℕ) → m ≤ 120 → f m ≡ g m) → lag ≤ 120 → IsBest f lag → IsBest g lag
same_best f g lag e l h =
    let here = e lag l in
    let more = h.positive in
    record {
      positive = omega (arith, ints);
      greatest = λ m a b. let there = e m b in let above = h.greatest m a b in omega (arith, ints);
    }

-- a lag by correlations that agree
same_lag : (f g : ℕ → ℤ) (lag : ℕ) → ((m : ℕ) → m ≤ 120 → f m ≡ g m) → IsLag f lag → IsLag g lag
same_lag f g lag e h =
    let here = e lag h.at_most in
    let most = h.at_most in
    let chosen : IsChosen g lag = ⊎_elim
    (λ p. inl (same_best f g lag e h.at_most p.0, λ m a b. let there = e m (omega arith) in let below = p.1 m a b in omega (arith, ints)))
    (λ p. inr (p.0, λ m a b. let there = e m b in let none = p.1 m a b in omega (arith, ints)))
    h.chosen in
    record {
      at_least = h.at_least;
      at_most = h.at_most;
      chosen = chosen;
    }

-- no prediction looks back further than the last 120
by_all : (d xs : List ℤ) (p : Prediction) → 120 ≤ length xs → IsPrediction d (last_120 xs) p → IsPrediction d xs p
by_all d xs p l h =
    let nc = p.nc in
    let most = h.lag.at_most in
    let scal = block_scaling_of d in
    let wt = scaled_block d scal in
    record {
      lag = same_lag (correlation_of wt (last_120 xs)) (correlation_of wt xs) nc (λ m b. correlation-last_120 wt xs m l b) h.lag;
      gain = h.gain ∙
          ap (λ x. gain_code_of (floor_shr (if int_lt (pos 0) x then x else pos 0) (6 - scal)) (power_of (last_120 xs) nc))
          (correlation-last_120 wt xs nc l most) ∙
          ap (gain_code_of (l_max_of d xs nc)) (power-last_120 xs nc l most);
      predicted = h.predicted ∙ predicted-last_120 xs nc p.bc l most;
      rest = h.rest;
    }

length-after_zeros : (past : List ℤ) → 120 ≤ length (after_zeros past)
length-after_zeros past = omega (arith, length-append (replicate 120 (pos 0)) past, length-replicate 120 (pos 0))

-- a history that stands has the prediction of all earlier residuals
pub by_history : (past residuals d : List ℤ) → HistoryStands past residuals → prediction_of d residuals ≡ prediction_of d (after_zeros past)
by_history past residuals d h =
    let all = after_zeros past in
    ap (prediction_of d) h.residuals_are ∙
    prediction_is d all (prediction_of d (last_120 all))
    (by_all d all (prediction_of d (last_120 all)) (length-after_zeros past) (is_prediction d (last_120 all)))

length-reconstructed : (dpp ep : List ℤ) → length (reconstructed_of dpp ep) ≡ 40
unfolding reconstructed_of
length-reconstructed dpp ep = length-map-range_with_len {X = ℤ} (λ k. add_of (entry ep k) (entry dpp k)) 0 40

-- one block more
pub one_update : (past residuals dpp ep next : List ℤ) → HistoryStands past residuals → next ≡ updated residuals dpp ep →
    HistoryStands (past ++ reconstructed_of dpp ep) next
unfolding updated
one_update past residuals dpp ep next h e = record {
  residuals_are = e ∙ ap (λ xs. drop 40 xs ++ reconstructed_of dpp ep) h.residuals_are ∙
      sym (last_120-append (after_zeros past) (reconstructed_of dpp ep) (length-after_zeros past) (length-reconstructed dpp ep)) ∙
      ap last_120 (append_assoc (replicate 120 (pos 0)) past (reconstructed_of dpp ep));
}

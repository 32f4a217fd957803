-- The prediction of a block, and the residual that is reconstructed from it (GSM 06.10, sections 4.2.11, 4.2.12 and
-- 4.2.18).
use Rattle.std.specs.Prelude.{ℕ, ◌-◌, ◌≡◌, ℤ, List, map}
use Rattle.fr_long.specs.Synthesis.{sample_before}
use Rattle.std.specs.List.{range_with_len}
use Rattle.trau_num.specs.Num.{add_of, sub_of, mult_r_of, floor_shr, entry}
use Rattle.fr_long.specs.Gain.{gain_of}
use Rattle.fr_long.specs.Scaling.{block_scaling_of, scaled_block}
use Rattle.fr_long.specs.declared.ltp.Ltp.{Ltp}
use Rattle.fr_long.specs.Lag.{correlation_of, lag_of, IsLag, greatest_of}
use Rattle.fr_long.specs.GainCode.{power_of, gain_code_of}

-- the correlation of a block at each lag, the block shifted down by scal
abbrev pub correlation_of_block : List ℤ → List ℤ → ℕ → ℤ
correlation_of_block d earlier = correlation_of (scaled_block d (block_scaling_of d)) earlier

-- L_max: the greatest correlation, or 0 if none is positive, shifted down by 6 - scal
abbrev pub l_max_of : List ℤ → List ℤ → ℕ → ℤ
l_max_of d earlier nc = floor_shr (greatest_of (correlation_of_block d earlier) nc) (6 - block_scaling_of d)

-- dpp[0] to dpp[39]: the gain times the residual a lag earlier
unfoldable pub predicted_of : List ℤ → ℕ → ℕ → List ℤ
predicted_of earlier nc bc = map (λ k. mult_r_of (gain_of bc) (sample_before earlier nc k)) (range_with_len 0 40)

-- e[0] to e[39]: the block less its prediction
unfoldable pub rest_of : List ℤ → List ℤ → List ℤ
rest_of d dpp = map (λ k. sub_of (entry d k) (entry dpp k)) (range_with_len 0 40)

-- the prediction of a block: its lag, its coded gain, the predicted samples, and the remainder
pub record Prediction : Type 0 where
  pub nc : ℕ
  pub bc : ℕ
  pub dpp : List ℤ
  pub e : List ℤ

-- the same, from the encoder's result
abbrev pub fields_of_ltp : Ltp → Prediction
fields_of_ltp ltp = record { nc = ltp.nc; bc = ltp.bc; dpp = ltp.dpp; e = ltp.e }

-- the prediction of block d after the earlier residuals
unfoldable pub prediction_of : List ℤ → List ℤ → Prediction
prediction_of d earlier =
    let nc = lag_of (correlation_of_block d earlier) in
    let bc = gain_code_of (l_max_of d earlier nc) (power_of earlier nc) in
    let dpp = predicted_of earlier nc bc in
    record { nc = nc; bc = bc; dpp = dpp; e = rest_of d dpp }

-- the same as properties of a prediction
pub record IsPrediction (d earlier : List ℤ) (p : Prediction) : Type 0 where
  pub lag : IsLag (correlation_of_block d earlier) p.nc
  pub gain : p.bc ≡ gain_code_of (l_max_of d earlier p.nc) (power_of earlier p.nc)
  pub predicted : p.dpp ≡ predicted_of earlier p.nc p.bc
  pub rest : p.e ≡ rest_of d p.dpp

-- dp[0] to dp[39]: the sums of the pulses of a block and its prediction
unfoldable pub reconstructed_of : List ℤ → List ℤ → List ℤ
reconstructed_of dpp ep = map (λ k. add_of (entry ep k) (entry dpp k)) (range_with_len 0 40)

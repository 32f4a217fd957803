-- Long-term synthesis of all blocks from the home state (GSM 06.10, section 4.3.2). A history has the newest block
-- first.
use Rattle.std.specs.Prelude.{ℕ, ◌+◌, ◌-◌, Bool, ◌&&◌, nat_le, if◌then◌else◌, ℤ, pos, List, [], ◌∷◌, ◌++◌, length, map, replicate}
use Rattle.std.specs.List.{range_with_len}
use Rattle.trau_num.specs.Num.{add_of, mult_r_of, entry}
use Rattle.fr_long.specs.Gain.{gain_of}

-- a block as it is received: its lag, its coded gain, and the 40 samples of its pulses
pub record LtpBlock : Type 0 where
  pub nc : ℕ
  pub bc : ℕ
  pub erp : List ℤ

abbrev pub block : ℕ → ℕ → List ℤ → LtpBlock
block nc bc erp = record { nc = nc; bc = bc; erp = erp }

-- whether a received lag can be used
abbrev pub is_lag : ℕ → Bool
is_lag nc = nat_le 40 nc && nat_le nc 120

-- Nr: the latest lag that can be used, or 40 if there is none
unfoldable pub lag_in_force : List LtpBlock → ℕ
lag_in_force [] = 40
lag_in_force (b ∷ past) = if is_lag b.nc then b.nc else lag_in_force past

-- drp[k - lag], where drp[-1] is the last of the earlier residuals
abbrev pub sample_before : List ℤ → ℕ → ℕ → ℤ
sample_before earlier lag k = entry earlier (length earlier + k - lag)

-- drp[0] to drp[39]: each sample of the pulses, plus the gain times the sample a lag earlier
unfoldable pub residual_after : List ℤ → ℕ → ℕ → List ℤ → List ℤ
residual_after earlier lag bc erp =
    map (λ k. add_of (entry erp k) (mult_r_of (gain_of bc) (sample_before earlier lag k))) (range_with_len 0 40)

-- all residuals, the oldest first: 120 zeros, and then those of each block
unfoldable pub residuals_of : List LtpBlock → List ℤ
residuals_of [] = replicate 120 (pos 0)
residuals_of (b ∷ past) =
    let earlier = residuals_of past in earlier ++ residual_after earlier (lag_in_force (b ∷ past)) b.bc b.erp

-- the residual of one block after the blocks of the past
unfoldable pub residual_of : LtpBlock → List LtpBlock → List ℤ
residual_of b past = residual_after (residuals_of past) (lag_in_force (b ∷ past)) b.bc b.erp

-- The lag of a block (GSM 06.10, section 4.2.11).
use Rattle.std.specs.Prelude.{◌≡◌, ℕ, ◌+◌, ◌-◌, ◌<◌, ◌≤◌, ℤ, pos, ◌+ℤ◌, ◌*ℤ◌, ◌<ℤ◌, ◌≤ℤ◌, ◌⊎◌, Bool, ◌&&◌, if◌then◌else◌, int_lt, int_le, List, map, fold}
use Rattle.std.specs.Prelude.{FitsSigned}
use Rattle.std.specs.Int.{w16}
use Rattle.std.specs.List.{range_with_len, find, list_all}
use Rattle.std.specs.Option.{unwrap_or}
use Rattle.trau_num.specs.Num.{l_mult_of, entry}
use Rattle.fr_long.specs.Synthesis.{sample_before}

-- the correlation of a scaled block with the 40 residuals at a lag: the sum over k = 0 to 39 of L_mult(wt[k], dp[k -
-- lag])
unfoldable pub correlation_of : List ℤ → List ℤ → ℕ → ℤ
correlation_of wt earlier lag = fold ◌+ℤ◌ (pos 0) (map (λ k. l_mult_of (entry wt k) (sample_before earlier lag k)) (range_with_len 0 40))

-- the same as a plain sum, which is equal if no product is clamped: over k = 0 to 39 of 2 * wt[k] * past[120 - lag + k]
abbrev pub sum_of_products : List ℤ → List ℤ → ℕ → ℤ
sum_of_products wt past lag = fold ◌+ℤ◌ (pos 0) (map (λ k. entry wt k *ℤ entry past (120 - lag + k) *ℤ pos 2) (range_with_len 0 40))

-- each residual is a word of 16 bits
abbrev pub AreSigned16 : List ℤ → Type 0
AreSigned16 earlier = (k : ℕ) → FitsSigned w16 (entry earlier k)

-- the lags that a block can have: 40 to 120
unfoldable pub lags : List ℕ
lags = range_with_len 40 81

-- the correlation at this lag is positive, and none is greater
unfoldable pub is_best : (ℕ → ℤ) → ℕ → Bool
is_best correlation lag =
    int_lt (pos 0) (correlation lag) && list_all (λ other. int_le (correlation other) (correlation lag)) lags

-- Nc: the least of the best lags, or 40 if no correlation is positive
unfoldable pub lag_of : (ℕ → ℤ) → ℕ
lag_of correlation = unwrap_or (find (is_best correlation) lags) 40

-- the lag is one of the best
pub record IsBest (correlation : ℕ → ℤ) (lag : ℕ) : Type 0 where
  pub positive : pos 0 <ℤ correlation lag
  pub greatest : (other : ℕ) → 40 ≤ other → other ≤ 120 → correlation other ≤ℤ correlation lag

-- the lag is the least of the best, or 40 if no correlation is positive
abbrev pub IsChosen : (ℕ → ℤ) → ℕ → Type 0
IsChosen correlation lag =
    (IsBest correlation lag × ((other : ℕ) → 40 ≤ other → other < lag → correlation other <ℤ correlation lag)) ⊎
    ((lag ≡ 40) × ((other : ℕ) → 40 ≤ other → other ≤ 120 → correlation other ≤ℤ pos 0))

-- the lag is 40 to 120, and the chosen one
pub record IsLag (correlation : ℕ → ℤ) (lag : ℕ) : Type 0 where
  pub at_least : 40 ≤ lag
  pub at_most : lag ≤ 120
  pub chosen : IsChosen correlation lag

-- the correlation at the lag of a block, or 0 if none is positive
abbrev pub greatest_of : (ℕ → ℤ) → ℕ → ℤ
greatest_of correlation lag = if int_lt (pos 0) (correlation lag) then correlation lag else pos 0

-- the greatest of the first n numbers, or 0 if none is positive
pub record IsTop (xs : List ℤ) (n : ℕ) (top : ℤ) : Type 0 where
  pub not_negative : pos 0 ≤ℤ top
  pub bound : (k : ℕ) → k < n → entry xs k ≤ℤ top
  pub reached : (top ≡ pos 0) ⊎ ((k : ℕ) × (k < n) × (entry xs k ≡ top))

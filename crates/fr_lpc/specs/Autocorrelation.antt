-- The autocorrelation of a frame (GSM 06.10, section 4.2.4).
use Rattle.std.specs.Prelude.{ℕ, ◌-◌, ◌<◌, ℤ, pos, ◌+ℤ◌, ◌*ℤ◌, ◌≤ℤ◌, List, map, fold, length, unsigned_abs}
use Rattle.std.specs.List.{range_with_len}
use Rattle.trau_num.specs.Num.{l_mult_of, entry}
use Rattle.fr_lpc.specs.Scaling.{scaling_of, scaled_down}

-- L_ACF[k]: the sum over i = k to 159 of twice the product of s[i] and s[i - k]
unfoldable pub autocorrelation_of : List ℤ → ℕ → ℤ
autocorrelation_of s k = fold ◌+ℤ◌ (pos 0) (map (λ i. l_mult_of (entry s i) (entry s (i - k))) (range_with_len k (160 - k)))

-- the same as a plain sum, which is equal if no product is clamped: over i = k to 159 of 2 * s[i] * s[i - k]
abbrev pub plain_autocorrelation : List ℤ → ℕ → ℤ
plain_autocorrelation s k = fold ◌+ℤ◌ (pos 0) (map (λ i. entry s i *ℤ entry s (i - k) *ℤ pos 2) (range_with_len k (160 - k)))

-- L_ACF[0] to L_ACF[8]
unfoldable pub autocorrelations_of : List ℤ → List ℤ
autocorrelations_of s = map (autocorrelation_of s) (range_with_len 0 9)

-- the autocorrelations of a frame, from its samples shifted down
abbrev pub autocorrelations_of_frame : List ℤ → List ℤ
autocorrelations_of_frame s = autocorrelations_of (scaled_down (scaling_of s) s)

-- no magnitude is above the first entry
abbrev pub IsGreatestFirst : List ℤ → Type 0
IsGreatestFirst acf = (k : ℕ) → k < length acf → pos (unsigned_abs (entry acf k)) ≤ℤ entry acf 0

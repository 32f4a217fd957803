-- The scaling of a frame around its autocorrelation (GSM 06.10, section 4.2.4).
use Rattle.std.specs.Prelude.{ℕ, ◌-◌, ◌*◌, ◌^◌, ◌<◌, ◌≤◌, ◌==◌, ℤ, pos, if◌then◌else◌, List, map, fold, length, unsigned_abs}
use Rattle.std.specs.Int.{int_max}
use Rattle.trau_num.specs.Num.{abs_of, mult_r_of, shl_of, norm_of, floor_shr, entry}

-- no entry's magnitude is above the bound
abbrev pub AreWithin : ℕ → List ℤ → Type 0
AreWithin bound xs = (i : ℕ) → i < length xs → unsigned_abs (entry xs i) ≤ bound

-- smax: the greatest magnitude of the samples
unfoldable pub peak_of : List ℤ → ℤ
peak_of s = fold int_max (pos 0) (map abs_of s)

-- scalauto, by smax: the number of places by which the samples are shifted down; `-` of natural numbers gives at least
-- 0
unfoldable pub scaling_of_peak : ℕ → ℕ
scaling_of_peak smax = if smax == 0 then 0 else 4 - norm_of (smax * 2 ^ 16)

-- scalauto of a frame
abbrev pub scaling_of : List ℤ → ℕ
scaling_of s = scaling_of_peak (unsigned_abs (peak_of s))

-- a sample shifted down by scalauto places, 1 or more, and rounded to the nearest
unfoldable pub scaled_sample : ℕ → ℤ → ℤ
scaled_sample scalauto x = mult_r_of x (floor_shr (pos 16384) (scalauto - 1))

-- the samples shifted down, from which the sums are computed
unfoldable pub scaled_down : ℕ → List ℤ → List ℤ
scaled_down scalauto s = if scalauto == 0 then s else map (scaled_sample scalauto) s

-- the samples shifted up again
unfoldable pub scaled_up : ℕ → List ℤ → List ℤ
scaled_up scalauto s = if scalauto == 0 then s else map (λ x. shl_of x scalauto) s

-- the samples for all later steps: shifted down and up again, and so rounded to multiples of 2^scalauto (but 32768,
-- which doesn't fit a word, is clamped to 32767)
abbrev pub samples_after : List ℤ → List ℤ
samples_after s = let scalauto = scaling_of s in scaled_up scalauto (scaled_down scalauto s)

-- The scaling of a block before the search for its lag (GSM 06.10, section 4.2.11).
use Rattle.std.specs.Prelude.{ℕ, ◌-◌, ◌*◌, ◌^◌, ◌<◌, ◌≤◌, ◌==◌, ℤ, pos, if◌then◌else◌, List, map, fold, unsigned_abs}
use Rattle.std.specs.Int.{int_max}
use Rattle.std.specs.List.{range_with_len}
use Rattle.trau_num.specs.Num.{abs_of, norm_of, floor_shr, entry}

-- dmax: the greatest magnitude of d[0] to d[39]
unfoldable pub block_peak_of : List ℤ → ℤ
block_peak_of d = fold int_max (pos 0) (map (λ k. abs_of (entry d k)) (range_with_len 0 40))

-- scal, by dmax: 6 - norm(dmax * 2^16) if norm is at most 6; 0 if it is greater or dmax is 0
unfoldable pub scaling_of_block_peak : ℕ → ℕ
scaling_of_block_peak dmax = if dmax == 0 then 0 else 6 - norm_of (dmax * 2 ^ 16)

-- scal of a block
abbrev pub block_scaling_of : List ℤ → ℕ
block_scaling_of d = scaling_of_block_peak (unsigned_abs (block_peak_of d))

-- wt[0] to wt[39]: the samples shifted down by scal
unfoldable pub scaled_block : List ℤ → ℕ → List ℤ
scaled_block d scal = map (λ k. floor_shr (entry d k) scal) (range_with_len 0 40)

-- no magnitude is above 512
abbrev pub AreScaled : List ℤ → Type 0
AreScaled wt = (k : ℕ) → k < 40 → unsigned_abs (entry wt k) ≤ 512

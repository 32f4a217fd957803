-- The block filter that weights the residual of long-term prediction (GSM 06.10, section 4.2.13).
use Rattle.std.specs.Prelude.{ℕ, ◌+◌, ◌-◌, ℤ, pos, neg_ℤ, ◌+ℤ◌, ◌*ℤ◌, if◌then◌else◌, nat_lt, List, [], ◌∷◌, map, fold}
use Rattle.std.specs.List.{range_with_len}
use Rattle.trau_num.specs.Num.{clamp16, floor_shr, entry}

-- H: the filter's impulse response (table 4.4)
abbrev pub impulse_response : List ℤ
impulse_response =
    neg_ℤ (pos 134) ∷ neg_ℤ (pos 374) ∷ pos 0 ∷ pos 2054 ∷ pos 5741 ∷ pos 8192 ∷ pos 5741 ∷ pos 2054 ∷ pos 0 ∷ neg_ℤ (pos 374) ∷
    neg_ℤ (pos 134) ∷ []

-- e[p - 5], which is 0 outside of the block
abbrev pub sample_around : List ℤ → ℕ → ℤ
sample_around e p = if nat_lt p 5 then pos 0 else entry e (p - 5)

-- the block with five zeros on both sides
unfoldable pub padded_block : List ℤ → List ℤ
padded_block e = map (sample_around e) (range_with_len 0 50)

-- the sum of e[k + i - 5] * H[i] over i = 0 to 10, for a padded block, plus the rounding for the shift that follows
unfoldable pub weighted_sum : List ℤ → ℕ → ℤ
weighted_sum padded k =
    fold ◌+ℤ◌ (pos 4096) (map (λ i. entry impulse_response i *ℤ entry padded (k + i)) (range_with_len 0 11))

-- x: the weighted block of 40 samples
unfoldable pub weighted_block : List ℤ → List ℤ
weighted_block e = map (λ k. clamp16 (floor_shr (weighted_sum (padded_block e) k) 13)) (range_with_len 0 40)

-- The choice of the coded gain of a block (GSM 06.10, section 4.2.11).
use Rattle.std.specs.Prelude.{ℕ, ◌^◌, Bool, ℤ, pos, ◌+ℤ◌, ◌*ℤ◌, if◌then◌else◌, int_le, List, [], ◌∷◌, map, fold, unsigned_abs}
use Rattle.std.specs.List.{range_with_len}
use Rattle.trau_num.specs.Num.{mult_of, l_mult_of, norm_of, floor_shr, entry}
use Rattle.fr_long.specs.Synthesis.{sample_before}

-- the energy of one residual, shifted down by 3
abbrev pub energy_of : ℤ → ℤ
energy_of x = let v = floor_shr x 3 in l_mult_of v v

-- L_power: the energy of the 40 residuals at this lag
unfoldable pub power_of : List ℤ → ℕ → ℤ
power_of earlier lag = fold ◌+ℤ◌ (pos 0) (map (λ k. energy_of (sample_before earlier lag k)) (range_with_len 0 40))

-- DLB[0] to DLB[2]: the decision levels between the gains (table 4.3a)
abbrev pub decision_levels : List ℤ
decision_levels = pos 6554 ∷ pos 16384 ∷ pos 26214 ∷ []

-- R <= mult(S, DLB[bc])
abbrev pub is_within : ℤ → ℤ → ℕ → Bool
is_within r s bc = int_le r (mult_of s (entry decision_levels bc))

-- the first of 0, 1 and 2 with R within its level, or 3 if there is none
unfoldable pub gain_code_of_words : ℤ → ℤ → ℕ
gain_code_of_words r s = if is_within r s 0 then 0 else if is_within r s 1 then 1 else if is_within r s 2 then 2 else 3

-- the upper 16 bits of a long word shifted up
unfoldable pub high_word_of : ℤ → ℕ → ℤ
high_word_of v shifts = floor_shr (v *ℤ pos (2 ^ shifts)) 16

-- bc, from L_max and L_power: both are shifted up by the norm of L_power, and their upper words are compared
unfoldable pub gain_code_of : ℤ → ℤ → ℕ
gain_code_of l_max l_power =
    if int_le l_max (pos 0) then 0
    else if int_le l_power l_max then 3
    else let shifts = norm_of (unsigned_abs l_power) in gain_code_of_words (high_word_of l_max shifts) (high_word_of l_power shifts)

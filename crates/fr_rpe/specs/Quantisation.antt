-- Quantisation of a block's maximum and of its pulses (GSM 06.10, section 4.2.15).
use Rattle.std.specs.Prelude.{ℕ, ◌+◌, ◌*◌, ◌/◌, ◌^◌, ◌<◌, zero, suc, ℤ, pos, ◌+ℤ◌, ◌*ℤ◌, unsigned_abs, if◌then◌else◌, ◌==◌, List, [], ◌∷◌, map, fold}
use Rattle.std.specs.Int.{int_max}
use Rattle.std.specs.List.{range_with_len}
use Rattle.trau_num.specs.Num.{abs_of, mult_of, floor_shr, entry}
use Rattle.fr_rpe.specs.declared.scale.Scale.{Scale}
use Rattle.fr_rpe.specs.Scale.{scale_of, scale_shift}

-- xmax: the greatest magnitude of the pulses
unfoldable pub maximum_of : List ℤ → ℤ
maximum_of pulses = fold int_max (pos 0) (map abs_of pulses)

-- the number of halvings, at most `limit`, that bring n to 0
abbrev pub halvings_of : ℕ → ℕ → ℕ
halvings_of zero n = 0
halvings_of (suc limit) n = if n == 0 then 0 else halvings_of limit (n / 2) + 1

-- xmaxc: the coded maximum, of 6 bits, of a maximum that isn't negative
unfoldable pub coded_maximum : ℕ → ℕ
coded_maximum xmax = let e = halvings_of 6 (xmax / 2 ^ 9) in xmax / 2 ^ (e + 5) + 8 * e

-- NRFAC: the inverse of each mantissa (table 4.5)
abbrev pub mantissa_inverses : List ℤ
mantissa_inverses = pos 29128 ∷ pos 26215 ∷ pos 23832 ∷ pos 21846 ∷ pos 20165 ∷ pos 18725 ∷ pos 17476 ∷ pos 16384 ∷ []

abbrev pub inverse_of : ℕ → ℤ
inverse_of mantissa = entry mantissa_inverses mantissa

-- xM << (6 - exp): a pulse at the level of its scale
abbrev pub levelled : Scale → ℤ → ℤ
levelled scale pulse = pulse *ℤ pos (2 ^ scale_shift scale)

-- xMc: the code of a pulse at a scale, of 3 bits
unfoldable pub pulse_code_of : Scale → ℤ → ℕ
pulse_code_of scale pulse = unsigned_abs (floor_shr (mult_of (levelled scale pulse) (inverse_of scale.mantissa)) 12 +ℤ pos 4)

-- the codes of the thirteen pulses of a block with this coded maximum
unfoldable pub pulse_codes_of : ℕ → List ℤ → List ℕ
pulse_codes_of xmaxc pulses = map (λ i. pulse_code_of (scale_of xmaxc) (entry pulses i)) (range_with_len 0 13)

-- a scale has room for a magnitude: at its level, the magnitude is below the mantissa's next step
abbrev pub IsBelowScale : Scale → ℕ → Type 0
IsBelowScale scale magnitude = magnitude * 2 ^ scale_shift scale < (scale.mantissa + 9) * 2 ^ 11

-- Exponent and mantissa of a block maximum (GSM 06.10, sections 4.2.15 and 4.2.16).
use Rattle.std.specs.Prelude.{ℕ, ◌+◌, ◌-◌, ◌*◌, ◌/◌, zero, suc, ℤ, pos, neg_ℤ, ◌-ℤ◌, unsigned_abs, if◌then◌else◌, nat_le, ◌==◌, List, [], ◌∷◌}
use Rattle.trau_num.specs.Num.{entry}
use Rattle.fr_rpe.specs.declared.scale.Scale.{Scale}

-- FAC: the factor of each mantissa (table 4.6)
abbrev pub factors : List ℤ
factors = pos 18431 ∷ pos 20479 ∷ pos 22527 ∷ pos 24575 ∷ pos 26623 ∷ pos 28671 ∷ pos 30719 ∷ pos 32767 ∷ []

abbrev pub factor_of : ℕ → ℤ
factor_of mantissa = entry factors mantissa

-- While the mantissa is at most 7, and at most n times, it is replaced by 2 * mantissa + 1 and the exponent falls by
-- one. Then 8 is subtracted.
abbrev pub normalised_scale : ℕ → ℤ → ℕ → Scale
normalised_scale zero exponent mantissa = record { exponent = exponent; mantissa = mantissa - 8 }
normalised_scale (suc n) exponent mantissa =
    if nat_le mantissa 7 then normalised_scale n (exponent -ℤ pos 1) (2 * mantissa + 1)
    else record { exponent = exponent; mantissa = mantissa - 8 }

-- the scale that a coded maximum stands for
unfoldable pub scale_of : ℕ → Scale
scale_of xmaxc =
    if xmaxc == 0 then record { exponent = neg_ℤ (pos 4); mantissa = 7 }
    else if nat_le xmaxc 15 then normalised_scale 3 (pos 0) xmaxc
    else normalised_scale 3 (pos (xmaxc / 8 - 1)) (xmaxc - 8 * (xmaxc / 8 - 1))

-- 6 - exp: the number of places by which a pulse of this scale is shifted
abbrev pub scale_shift : Scale → ℕ
scale_shift scale = unsigned_abs (pos 6 -ℤ scale.exponent)

-- The pulses of a block of 40 samples (GSM 06.10, sections 4.2.16 and 4.2.17).
use Rattle.std.specs.Prelude.{ℕ, ◌-◌, ◌*◌, ◌/◌, ◌%◌, ◌^◌, ℤ, pos, ◌-ℤ◌, ◌*ℤ◌, if◌then◌else◌, nat_lt, nat_le, ◌==◌, ◌&&◌, List, map, slice_index}
use Rattle.std.specs.List.{range_with_len}
use Rattle.trau_num.specs.Num.{add_of, mult_r_of, floor_shr}
use Rattle.fr_rpe.specs.declared.scale.Scale.{Scale}
use Rattle.fr_rpe.specs.Scale.{scale_of, factor_of, scale_shift}

-- half of the last place that a shift keeps: 2^(5 - exp), and 0 if the exponent is 6
abbrev pub rounding_of : ℕ → ℕ
rounding_of shift = if shift == 0 then 0 else 2 ^ (shift - 1)

-- the level of a code of 0 to 7: 2 xMc - 7, moved up by 12 places
abbrev pub level_of : ℕ → ℤ
level_of code = (pos (2 * code) -ℤ pos 7) *ℤ pos (2 ^ 12)

-- xMp: the pulse that a code stands for at a scale
unfoldable pub pulse_of : Scale → ℕ → ℤ
pulse_of scale code =
    let size = mult_r_of (factor_of scale.mantissa) (level_of code) in
    floor_shr (add_of size (pos (rounding_of (scale_shift scale)))) (scale_shift scale)

-- sample k of a block with the pulses on the grid from mc on: pulse i if k is mc + 3 i with i below 13, and 0 elsewhere
abbrev pub on_grid : ℕ → (ℕ → ℤ) → ℕ → ℤ
on_grid mc pulse k = if nat_le mc k && ((k - mc) % 3 == 0 && nat_lt ((k - mc) / 3) 13) then pulse ((k - mc) / 3) else pos 0

-- ep: the 40 samples of the block that the parameters stand for
unfoldable pub block_of : ℕ → ℕ → List ℕ → List ℤ
block_of mc xmaxc xmc = map (on_grid mc (λ i. pulse_of (scale_of xmaxc) (slice_index xmc i))) (range_with_len 0 40)

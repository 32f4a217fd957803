-- Reflection coefficients in force at each sample of a frame (GSM 06.10, section 4.2.9).
use Rattle.std.specs.Prelude.{ℕ, ℤ, pos, neg_ℤ, ◌+ℤ◌, ◌*ℤ◌, ◌==◌, if◌then◌else◌, nat_lt, int_lt, List, map}
use Rattle.std.specs.List.{range_with_len}
use Rattle.std.specs.Int.{is_negative}
use Rattle.trau_num.specs.Num.{add_of, abs_of, floor_shr, entry}

-- the part of a frame that sample k lies in: samples 0 to 12, 13 to 26, 27 to 39, 40 to 159
unfoldable pub part_of : ℕ → ℕ
part_of k = if nat_lt k 13 then 0 else if nat_lt k 27 then 1 else if nat_lt k 40 then 2 else 3

-- the first sample of a part, or the end of the frame for part 4
unfoldable pub part_start : ℕ → ℕ
part_start part = if part == 0 then 0 else if part == 1 then 13 else if part == 2 then 27 else if part == 3 then 40 else 160

-- LARp: the ratio in force in a part, between the previous frame's and this frame's
unfoldable pub interpolated_ratio : ℕ → ℤ → ℤ → ℤ
interpolated_ratio part old new =
    if part == 0 then add_of (add_of (floor_shr old 2) (floor_shr new 2)) (floor_shr old 1)
    else if part == 1 then add_of (floor_shr old 1) (floor_shr new 1)
    else if part == 2 then add_of (add_of (floor_shr old 2) (floor_shr new 2)) (floor_shr new 1)
    else new

-- the magnitude of a coefficient, in three pieces by the magnitude of its ratio
unfoldable pub coefficient_magnitude : ℤ → ℤ
coefficient_magnitude t =
    if int_lt t (pos 11059) then t *ℤ pos 2
    else if int_lt t (pos 20070) then t +ℤ pos 11059
    else add_of (floor_shr t 2) (pos 26112)

-- rp: the reflection coefficient of a ratio, with the ratio's sign
unfoldable pub reflection_of : ℤ → ℤ
reflection_of ratio =
    let magnitude = coefficient_magnitude (abs_of ratio) in if is_negative ratio then neg_ℤ magnitude else magnitude

-- the eight coefficients in a part, from the previous frame's and this frame's decoded ratios
unfoldable pub coefficients_of : List ℤ → List ℤ → ℕ → List ℤ
coefficients_of old new part =
    map (λ i. reflection_of (interpolated_ratio part (entry old i) (entry new i))) (range_with_len 0 8)

-- the eight coefficients in force at sample k
abbrev pub coefficients_at : List ℤ → List ℤ → ℕ → List ℤ
coefficients_at old new k = coefficients_of old new (part_of k)

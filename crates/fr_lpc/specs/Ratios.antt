-- Log area ratios and their codes (GSM 06.10, sections 4.2.6 and 4.2.7).
use Rattle.std.specs.Prelude.{ℕ, ℤ, pos, neg_ℤ, ◌-ℤ◌, ◌*ℤ◌, if◌then◌else◌, int_lt, List, [], ◌∷◌, map, unsigned_abs}
use Rattle.std.specs.List.{range_with_len}
use Rattle.std.specs.Int.{is_negative, int_max, int_min}
use Rattle.trau_num.specs.Num.{add_of, mult_of, abs_of, floor_shr, entry}
use Rattle.trau_params.specs.Ratios.{offsets, least_ratios}
use Rattle.fr_lpc.specs.Autocorrelation.{autocorrelations_of_frame}
use Rattle.fr_lpc.specs.Reflection.{reflection_coefficients}

-- the magnitude of a ratio, in three pieces by the magnitude of its coefficient
unfoldable pub ratio_magnitude : ℤ → ℤ
ratio_magnitude t =
    if int_lt t (pos 22118) then floor_shr t 1
    else if int_lt t (pos 31130) then t -ℤ pos 11059
    else (t -ℤ pos 26112) *ℤ pos 4

-- LAR: the ratio of a reflection coefficient, with the coefficient's sign
unfoldable pub ratio_of : ℤ → ℤ
ratio_of r = let magnitude = ratio_magnitude (abs_of r) in if is_negative r then neg_ℤ magnitude else magnitude

-- LAR 1 to 8 of the reflection coefficients
unfoldable pub ratios_of : List ℤ → List ℤ
ratios_of rs = map (λ i. ratio_of (entry rs i)) (range_with_len 0 8)

-- LAR 1 to 8 of a frame
abbrev pub ratios_of_frame : List ℤ → List ℤ
ratios_of_frame s = ratios_of (reflection_coefficients (autocorrelations_of_frame s))

-- A of table 4.1
abbrev pub gains : List ℤ
gains = pos 20480 ∷ pos 20480 ∷ pos 20480 ∷ pos 20480 ∷ pos 13964 ∷ pos 15360 ∷ pos 8534 ∷ pos 9036 ∷ []

-- MAC of table 4.1, the greatest value of a quantised ratio
abbrev pub most : List ℤ
most = pos 31 ∷ pos 31 ∷ pos 15 ∷ pos 15 ∷ pos 7 ∷ pos 7 ∷ pos 3 ∷ pos 3 ∷ []

-- a ratio times A / 2^15, rounded down, plus B, in whole steps of 2^9, rounded to the nearest
unfoldable pub quantised_ratio : ℤ → ℤ → ℤ → ℤ
quantised_ratio a b lar = floor_shr (add_of (add_of (mult_of a lar) b) (pos 256)) 9

-- LARc of a ratio, by A, B, MIC and MAC of its place: the quantised ratio, limited to MIC to MAC, less MIC
unfoldable pub ratio_code : ℤ → ℤ → ℤ → ℤ → ℤ → ℕ
ratio_code a b mic mac lar = unsigned_abs (int_max mic (int_min (quantised_ratio a b lar) mac) -ℤ mic)

-- LARc 1 to 8 of eight ratios
unfoldable pub ratio_codes : List ℤ → List ℕ
ratio_codes lar =
    map (λ i. ratio_code (entry gains i) (entry offsets i) (entry least_ratios i) (entry most i) (entry lar i)) (range_with_len 0 8)

-- Decoded log area ratios (GSM 06.10, sections 4.2.8 and 4.3.3).
use Rattle.std.specs.Prelude.{ℕ, ℤ, pos, ◌+ℤ◌, ◌*ℤ◌, List, [], ◌∷◌, map, slice_index}
use Rattle.std.specs.List.{range_with_len}
use Rattle.trau_num.specs.Num.{add_of, sub_of, mult_r_of, entry}
use Rattle.trau_params.specs.Ratios.{offsets, least_ratios}

-- INVA of table 4.2
abbrev pub inverses : List ℤ
inverses = pos 13107 ∷ pos 13107 ∷ pos 13107 ∷ pos 13107 ∷ pos 19223 ∷ pos 17476 ∷ pos 31454 ∷ pos 29708 ∷ []

-- LARpp of a code, by MIC, B and INVA of its place: 2 * (INVA / 2^15) * ((LARc + MIC) * 2^10 - 2 * B), clamped and
-- rounded at each step
unfoldable pub decoded_ratio : ℤ → ℤ → ℤ → ℕ → ℤ
decoded_ratio mic b inva code =
    let half = mult_r_of inva (sub_of ((pos code +ℤ mic) *ℤ pos 1024) (b *ℤ pos 2)) in add_of half half

-- LARpp 1 to 8 of eight codes
unfoldable pub decoded_ratios : List ℕ → List ℤ
decoded_ratios codes =
    map (λ i. decoded_ratio (entry least_ratios i) (entry offsets i) (entry inverses i) (slice_index codes i)) (range_with_len 0 8)

-- Table 4.1, place by place.
use Rattle.std.proofs.Common.{◌≡◌, ℕ, ◌-◌, ◌^◌, ◌<◌, pos, ◌-ℤ◌, ◌≤ℤ◌, get_or, refl, arith}
use Rattle.trau_num.specs.Num.{entry}
use Rattle.trau_num.proofs.Eight.{by_place}
use Rattle.trau_params.specs.Ratios.{least_ratios}
use Rattle.trau_params.specs.Widths.{larc_widths}
use Rattle.fr_lpc.specs.Ratios.{most}

-- MIC isn't above MAC
pub least-most : (i : ℕ) → i < 8 → entry least_ratios i ≤ℤ entry most i
least-most =
    by_place (λ i. entry least_ratios i ≤ℤ entry most i) (record { le = tt }) (record { le = tt }) (record { le = tt }) (record { le = tt })
    (record { le = tt })
    (record { le = tt }) (record { le = tt }) (record { le = tt })

-- the values from MIC to MAC are as many as a code of the place's width can tell apart
pub span : (i : ℕ) → i < 8 → entry most i -ℤ entry least_ratios i ≡ pos (2 ^ get_or larc_widths i 0 - 1)
span = by_place (λ i. entry most i -ℤ entry least_ratios i ≡ pos (2 ^ get_or larc_widths i 0 - 1)) refl refl refl refl refl refl refl refl

-- a width is 3 to 6 bits
pub width_bound : (i : ℕ) → i < 8 → 2 ^ get_or larc_widths i 0 - 1 < 64
width_bound = by_place (λ i. 2 ^ get_or larc_widths i 0 - 1 < 64) (omega arith) (omega arith) (omega arith) (omega arith) (omega arith) (omega arith)
    (omega arith) (omega arith)

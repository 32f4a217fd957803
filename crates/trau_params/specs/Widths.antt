-- The widths and offsets of the fields of a frame, in bits, in the order of the fields (GSM 06.10, table 1.1).
use Rattle.std.specs.Prelude.{ℕ, ◌+◌, ◌^◌, ◌<◌, List, [], ◌∷◌, replicate, sum, All, slice_index}

-- LARc 1 to 8
abbrev pub larc_widths : List ℕ
larc_widths = 6 ∷ 6 ∷ 5 ∷ 5 ∷ 4 ∷ 4 ∷ 3 ∷ 3 ∷ []

-- then, for each of the four blocks: Nc, bc, Mc, xmaxc, thirteen xMc
abbrev pub nc_width : ℕ
nc_width = 7

abbrev pub bc_width : ℕ
bc_width = 2

abbrev pub mc_width : ℕ
mc_width = 2

abbrev pub xmaxc_width : ℕ
xmaxc_width = 6

abbrev pub xmc_width : ℕ
xmc_width = 3

abbrev pub pulse_widths : List ℕ
pulse_widths = replicate 13 xmc_width

abbrev pub block_widths : List ℕ
block_widths = nc_width ∷ bc_width ∷ mc_width ∷ xmaxc_width ∷ pulse_widths

-- the number of bits of the eight LARc, and of each block
abbrev pub larc_size : ℕ
larc_size = sum larc_widths

abbrev pub block_size : ℕ
block_size = sum block_widths

-- the offsets of the fields of the first block: each field follows the one before it, and the first follows the LARc
abbrev pub nc_offset : ℕ
nc_offset = larc_size

abbrev pub bc_offset : ℕ
bc_offset = nc_offset + nc_width

abbrev pub mc_offset : ℕ
mc_offset = bc_offset + bc_width

abbrev pub xmaxc_offset : ℕ
xmaxc_offset = mc_offset + mc_width

abbrev pub xmc_offset : ℕ
xmc_offset = xmaxc_offset + xmaxc_width

-- each LARc fits its width
abbrev pub FitLarc : List ℕ → Type 0
FitLarc larc = (i : ℕ) → i < 8 → slice_index larc i < 2 ^ slice_index larc_widths i

-- each value fits the width
abbrev pub FitWidth : ℕ → List ℕ → Type 0
FitWidth width values = All (λ v. v < 2 ^ width) values

-- the pulses of each block fit their width
abbrev pub FitPulses : List (List ℕ) → Type 0
FitPulses xmc = All (λ pulses. FitWidth xmc_width pulses) xmc

-- Short-term synthesis (GSM 06.10, section 4.3.4): one frame from the memory before it, and all frames from the home
-- state.
use Rattle.std.specs.Prelude.{ℕ, ◌+◌, ℤ, pos, List, [], ◌∷◌, replicate, take}
use Rattle.trau_num.specs.Num.{add_of, mult_r_of, sub_of}
use Rattle.fr_short.specs.Ratios.{decoded_ratios}
use Rattle.fr_short.specs.Reflection.{coefficients_at}

-- a sample through the sections, from last to first: the sample that the first gives, and the value that each section
-- stores
abbrev pub synthesis_lattice : List ℤ → List ℤ → ℤ → ℤ × List ℤ
synthesis_lattice [] vs s = (s, [])
synthesis_lattice (r ∷ rs) [] s = (s, [])
synthesis_lattice (r ∷ rs) (v ∷ vs) s =
    let above = synthesis_lattice rs vs s in
    let out = sub_of above.0 (mult_r_of r v) in
    (out, add_of v (mult_r_of r out) ∷ above.1)

-- v[0] to v[7] after a sample: the filtered sample, and the values that the sections stored; v[8] is never read
abbrev pub sections_after : ℤ × List ℤ → List ℤ
sections_after x = take 8 (x.0 ∷ x.1)

-- the residual of a frame from sample k on, with the coefficients at each sample: the samples, and the sections at the
-- end
unfoldable pub filtered_samples : (ℕ → List ℤ) → ℕ → List ℤ → List ℤ → List ℤ × List ℤ
filtered_samples rs k vs [] = ([], vs)
filtered_samples rs k vs (d ∷ ds) =
    let x = synthesis_lattice (rs k) vs d in
    let rest = filtered_samples rs (k + 1) (sections_after x) ds in
    (x.0 ∷ rest.0, rest.1)

-- the input of synthesis for one frame: the ratio codes, and the 160 samples of the reconstructed residual
pub record ResidualFrame : Type 0 where
  pub codes : List ℕ
  pub residual : List ℤ

-- the frame with these codes and this residual
abbrev pub residual_frame : List ℕ → List ℤ → ResidualFrame
residual_frame codes residual = record { codes = codes; residual = residual }

-- the decoded ratios of the newest frame, the first in the list; in the home state all are 0
unfoldable pub newest_ratios : List ResidualFrame → List ℤ
newest_ratios [] = replicate 8 (pos 0)
newest_ratios (f ∷ past) = decoded_ratios f.codes

-- all frames from the home state, the newest first: the samples of the newest, and the sections after it
unfoldable pub synthesis_of : List ResidualFrame → List ℤ × List ℤ
synthesis_of [] = ([], replicate 8 (pos 0))
synthesis_of (f ∷ past) =
    filtered_samples (coefficients_at (newest_ratios past) (decoded_ratios f.codes)) 0 (synthesis_of past).1 f.residual

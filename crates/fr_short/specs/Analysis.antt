-- Short-term analysis (GSM 06.10, section 4.2.10): one frame from the memory before it, and all frames from the home
-- state.
use Rattle.std.specs.Prelude.{ℕ, ◌+◌, ℤ, pos, List, [], ◌∷◌, replicate}
use Rattle.trau_num.specs.Num.{add_of, mult_r_of}
use Rattle.fr_short.specs.Ratios.{decoded_ratios}
use Rattle.fr_short.specs.Reflection.{coefficients_at}

-- d and sav through the sections, from first to last: the d that the last gives, and the sav that each section keeps as
-- its u
abbrev pub analysis_lattice : List ℤ → List ℤ → ℤ → ℤ → ℤ × List ℤ
analysis_lattice [] us d sav = (d, [])
analysis_lattice (r ∷ rs) [] d sav = (d, [])
analysis_lattice (r ∷ rs) (u ∷ us) d sav =
    let beyond = analysis_lattice rs us (add_of d (mult_r_of r u)) (add_of u (mult_r_of r d)) in
    (beyond.0, sav ∷ beyond.1)

-- the samples of a frame from sample k on, with the coefficients at each sample: the residual, and the sections at the
-- end
unfoldable pub analysed_samples : (ℕ → List ℤ) → ℕ → List ℤ → List ℤ → List ℤ × List ℤ
analysed_samples rs k us [] = ([], us)
analysed_samples rs k us (s ∷ ss) =
    let x = analysis_lattice (rs k) us s s in
    let rest = analysed_samples rs (k + 1) x.1 ss in
    (x.0 ∷ rest.0, rest.1)

-- the input of analysis for one frame: the ratio codes, and the 160 preprocessed samples
pub record SampleFrame : Type 0 where
  pub codes : List ℕ
  pub samples : List ℤ

-- the frame with these codes and these samples
abbrev pub sample_frame : List ℕ → List ℤ → SampleFrame
sample_frame codes samples = record { codes = codes; samples = samples }

-- the decoded ratios of the newest frame, the first in the list; in the home state all are 0
unfoldable pub newest_sample_ratios : List SampleFrame → List ℤ
newest_sample_ratios [] = replicate 8 (pos 0)
newest_sample_ratios (f ∷ past) = decoded_ratios f.codes

-- all frames from the home state, the newest first: the residual of the newest, and the sections after it
unfoldable pub analysis_of : List SampleFrame → List ℤ × List ℤ
analysis_of [] = ([], replicate 8 (pos 0))
analysis_of (f ∷ past) =
    analysed_samples (coefficients_at (newest_sample_ratios past) (decoded_ratios f.codes)) 0 (analysis_of past).1 f.samples

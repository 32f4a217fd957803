-- One section of the analysis lattice over the samples of a frame (GSM 06.10, section 4.2.10).
use Rattle.std.specs.Prelude.{ℕ, ℤ, List, [], ◌∷◌, slice_index_or}
use Rattle.trau_num.specs.Num.{add_of, mult_r_of, entry}
use Rattle.fr_short.specs.Reflection.{part_of}

-- the coefficient of section i in force at sample k, from the coefficients in each part
abbrev pub coefficient_at : List (List ℤ) → ℕ → ℕ → ℤ
coefficient_at parts i k = entry (slice_index_or parts (part_of k) []) i

-- u at sample k: the sav of the sample before, or for the first sample the u from the previous frame
abbrev pub u_at : ℤ → List ℤ → ℕ → ℤ
u_at first savs k = entry (first ∷ savs) k

-- d of sample k after the section; `rs` gives the section's coefficient at each sample
abbrev pub next_d : (ℕ → ℤ) → ℤ → List ℤ → List ℤ → ℕ → ℤ
next_d rs first ds savs k = add_of (entry ds k) (mult_r_of (rs k) (u_at first savs k))

-- sav of sample k after the section
abbrev pub next_sav : (ℕ → ℤ) → ℤ → List ℤ → List ℤ → ℕ → ℤ
next_sav rs first ds savs k = add_of (u_at first savs k) (mult_r_of (rs k) (entry ds k))

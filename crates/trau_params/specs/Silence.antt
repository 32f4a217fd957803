-- The frame that stands for silence (this project's profile).
use Rattle.std.specs.Prelude.{ℕ, List, [], ◌∷◌, replicate}
use Rattle.trau_params.specs.Fields.{Fields}

-- the thirteen pulses of each of its blocks
abbrev pub silent_pulses : List ℕ
silent_pulses = 3 ∷ 4 ∷ 3 ∷ 4 ∷ 4 ∷ 3 ∷ 3 ∷ 3 ∷ 3 ∷ 4 ∷ 4 ∷ 3 ∷ 3 ∷ []

-- its fields
abbrev pub silent_fields : Fields
silent_fields = record {
  larc = 42 ∷ 39 ∷ 21 ∷ 10 ∷ 9 ∷ 4 ∷ 3 ∷ 2 ∷ [];
  nc = replicate 4 40;
  bc = replicate 4 0;
  mc = replicate 4 1;
  xmaxc = replicate 4 0;
  xmc = replicate 4 silent_pulses;
}

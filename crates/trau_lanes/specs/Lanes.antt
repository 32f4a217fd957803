-- Eight words in the lanes of a vector.
use Rattle.std.specs.Prelude.{◌≡◌, ◌≤◌, ℤ, ◌+ℤ◌, List, [], ◌∷◌, length, unsigned_abs, FitsSigned}
use Rattle.std.specs.Int.{w16}
use Rattle.std.specs.Simd.Lanes.{Each1}

-- eight words of 16 bits
pub record EightWords (xs : List ℤ) : Type 0 where
  pub eight : length xs ≡ 8
  pub words : Each1 (FitsSigned w16) xs

-- eight factors from -32767 to 32767, whose rounded products with words are words
pub record EightFactors (xs : List ℤ) : Type 0 where
  pub eight : length xs ≡ 8
  pub factors : Each1 (λ x. unsigned_abs x ≤ 32767) xs

-- the sums of entries 0 and 1, of entries 2 and 3, and so on
abbrev pub sums_of_pairs : List ℤ → List ℤ
sums_of_pairs [] = []
sums_of_pairs (x ∷ []) = []
sums_of_pairs (x ∷ y ∷ zs) = (x +ℤ y) ∷ sums_of_pairs zs

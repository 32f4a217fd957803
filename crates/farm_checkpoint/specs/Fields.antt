-- Numbers in a text of a mark.
use Rattle.std.specs.Prelude.{◌≡◌, ℕ, ◌≤◌, List, ◌∷◌, ◌++◌, decimal}

-- a text is these words, a decimal number in this range, this octet and the rest
pub record IsField (low high : ℕ) (words : List ℕ) (stop : ℕ) (text : List ℕ) (n : ℕ) (rest : List ℕ) : Type 0 where
  pub at_least : low ≤ n
  pub at_most : n ≤ high
  pub spelled : text ≡ words ++ (decimal n ++ stop ∷ rest)

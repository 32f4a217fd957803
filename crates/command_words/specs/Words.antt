-- The words of a tool (this project's profile).
use Rattle.std.specs.Prelude.{◌≡◌, ℕ, ◌≤◌, List, [], ◌∷◌, decimal}

-- a command's word and a call, 1 to 4,096, in decimal digits without leading zeros
pub record Names (words : List (List ℕ)) (name : List ℕ) (call : ℕ) : Type 0 where
  pub low : 1 ≤ call
  pub high : call ≤ 4096
  pub spelled : words ≡ name ∷ decimal call ∷ []

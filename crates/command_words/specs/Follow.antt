-- The words of the base station's end (this project's profile).
use Rattle.std.specs.Prelude.{◌≡◌, ℕ, ◌≤◌, ◌%◌, List, [], ◌∷◌, codes, decimal}

-- a text is a wanted place: 0 to 316, a multiple of 4, in decimal digits without leading zeros
pub record IsWanted (text : List ℕ) (want : ℕ) : Type 0 where
  pub high : want ≤ 316
  pub fours : want % 4 ≡ 0
  pub spelled : text ≡ decimal want

-- `follow`, a call, 1 to 4,096, in decimal digits without leading zeros, and a wanted place
pub record NamesFollow (words : List (List ℕ)) (call want : ℕ) : Type 0 where
  pub low : 1 ≤ call
  pub high : call ≤ 4096
  pub want_text : List ℕ
  pub wanted : IsWanted want_text want
  pub spelled : words ≡ codes "follow" ∷ decimal call ∷ want_text ∷ []

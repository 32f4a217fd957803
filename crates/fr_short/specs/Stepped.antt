-- A list that is made step by step.
use Rattle.std.specs.Prelude.{ℤ, List, [], ◌∷◌}

-- each element is `next` of the same element of the other list and of the element before
abbrev pub stepped_through : (ℤ → ℤ → ℤ) → ℤ → List ℤ → List ℤ
stepped_through next before [] = []
stepped_through next before (s ∷ ss) = let made = next s before in made ∷ stepped_through next made ss

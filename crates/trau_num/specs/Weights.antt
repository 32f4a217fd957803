-- The weight of a list: the sum of the weights of its items.
use Rattle.std.specs.Prelude.{ℕ, ◌+◌, List, [], ◌∷◌}

abbrev pub weigh : {X : Type 0} → (X → ℕ) → List X → ℕ
weigh h [] = 0
weigh h (x ∷ xs) = h x + weigh h xs

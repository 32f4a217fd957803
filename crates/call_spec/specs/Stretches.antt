-- A list cut into stretches.
use Rattle.std.specs.Prelude.{Bool, if◌then◌else◌, List, [], ◌∷◌}

-- an item in front of a list that is cut
abbrev pub put_before : {A : Type 0} → (A → A → Bool) → A → List (List A) → List (List A)
put_before goes_on x [] = (x ∷ []) ∷ []
put_before goes_on x ([] ∷ others) = (x ∷ []) ∷ others
put_before goes_on x ((y ∷ ys) ∷ others) = if goes_on x y then (x ∷ y ∷ ys) ∷ others else (x ∷ []) ∷ (y ∷ ys) ∷ others

-- the list, cut wherever an item doesn't continue the one before it, so into the longest parts in which each item
-- continues the one before it
abbrev pub stretches : {A : Type 0} → (A → A → Bool) → List A → List (List A)
stretches goes_on [] = []
stretches goes_on (x ∷ xs) = put_before goes_on x (stretches goes_on xs)

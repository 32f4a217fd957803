-- Lists of numbers in rising order.
use Rattle.std.specs.Prelude.{ℕ, ◌<◌, ◌==◌, Bool, List, length, slice_index}
use Rattle.std.specs.List.{list_any}

-- each number is below those after it
abbrev pub IsRising : List ℕ → Type 0
IsRising xs = (i j : ℕ) → i < j → j < length xs → slice_index xs i < slice_index xs j

-- whether a number is in the list
abbrev pub is_among : List ℕ → ℕ → Bool
is_among xs c = list_any (λ x. x == c) xs

-- Numbers in a line.
use Rattle.std.specs.Prelude.{ℕ, List, [], ◌∷◌, ◌++◌, decimal}
use Rattle.std.specs.Borrow.{Bor}

-- numbers, each after its words, and then the words of the end
abbrev pub numbers_told : List (Bor (List ℕ) × ℕ) → List ℕ → List ℕ
numbers_told [] end = end
numbers_told (number ∷ numbers) end = number.0.now ++ (decimal number.1 ++ numbers_told numbers end)

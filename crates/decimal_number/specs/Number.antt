-- Decimal numbers as texts (this project's profile).
use Rattle.std.specs.Prelude.{◌≡◌, ℕ, ◌^◌, ◌<◌, ◌≤◌, List, [], ◌∷◌, decimal}

-- a text is a number of the range, in its digits: without a sign, a space or a leading zero
pub record IsNumber (low high : ℕ) (text : List ℕ) (n : ℕ) : Type 0 where
  pub at_least : low ≤ n
  pub at_most : n ≤ high
  pub spelled : text ≡ decimal n

-- no text spells two numbers of 32 bits, in any ranges
abbrev pub SpellsOneNumber : Type 0
SpellsOneNumber = (text : List ℕ) (low high m low' high' n : ℕ) → high < 2 ^ 32 → high' < 2 ^ 32 → IsNumber low high text m → IsNumber low' high' text n → m ≡ n

-- a text begins as a number does: its first octet isn't below `0`, and is `0` only if nothing follows
abbrev pub IsPlain : List ℕ → Type 0
IsPlain [] = ⊥
IsPlain (b ∷ []) = 48 ≤ b
IsPlain (b ∷ c ∷ bs) = 48 < b

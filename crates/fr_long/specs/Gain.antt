-- The gain that a code stands for, on both sides (GSM 06.10, sections 4.2.12 and 4.3.2).
use Rattle.std.specs.Prelude.{ℕ, ℤ, pos, List, [], ◌∷◌}
use Rattle.trau_num.specs.Num.{entry}

-- QLB: the gain that each code stands for (table 4.3b)
abbrev pub quantised_gains : List ℤ
quantised_gains = pos 3277 ∷ pos 11469 ∷ pos 21299 ∷ pos 32767 ∷ []

abbrev pub gain_of : ℕ → ℤ
gain_of bc = entry quantised_gains bc

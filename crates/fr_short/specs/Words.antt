-- Ranges of the numbers that the filters compute with (GSM 06.10, section 4).
use Rattle.std.specs.Prelude.{ℕ, ◌<◌, ◌≤◌, ℤ, List, unsigned_abs}
use Rattle.trau_num.specs.Num.{entry}

-- each of eight numbers is a factor from -32767 to 32767, so that its rounded product with a word is a word
abbrev pub AreEightFactors : List ℤ → Type 0
AreEightFactors xs = (i : ℕ) → i < 8 → unsigned_abs (entry xs i) ≤ 32767

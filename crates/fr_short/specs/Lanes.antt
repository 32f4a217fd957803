-- One sample through the sections of synthesis in lanes, the last section in lane 0.
use Rattle.std.specs.Prelude.{ℤ, List, [], ◌∷◌}
use Rattle.trau_num.specs.Num.{sub_of}

-- the words after each section: each is the one before it, or the sample for the first, less what the section subtracts
abbrev pub words_behind : ℤ → List ℤ → List ℤ
words_behind s [] = []
words_behind s (m ∷ ms) = sub_of s m ∷ words_behind (sub_of s m) ms

-- De-emphasis (GSM 06.10, section 4.3.5).
use Rattle.std.specs.Prelude.{ℤ, pos, List, [], ◌∷◌}
use Rattle.trau_num.specs.Num.{add_of, mult_r_of}

-- msr: each sample plus 28180 / 2^15 of the msr before it; `before` is the last msr of the previous frame
abbrev pub deemphasised : ℤ → List ℤ → List ℤ
deemphasised before [] = []
deemphasised before (s ∷ ss) = let msr = add_of s (mult_r_of (pos 28180) before) in msr ∷ deemphasised msr ss

-- the last of a list, or `before` if the list is empty
abbrev pub last_of : ℤ → List ℤ → ℤ
last_of before [] = before
last_of before (x ∷ xs) = last_of x xs

-- The sums of octets of a call's outgoing lines, as text (this project's profile).
use Rattle.std.specs.Prelude.{ℕ, ◌^◌, ◌%◌, List, [], ◌∷◌, codes, decimal}
use Rattle.std.specs.List.{sum}
use Rattle.farm_report.specs.Lines.{line_of}

-- the sum of octets, modulo 2^32
abbrev pub sum_of : List ℕ → ℕ
sum_of octets = sum octets % 2 ^ 32

-- sum C out X down Y
abbrev pub sums_told : ℕ → ℕ → ℕ → List ℕ
sums_told call out down = line_of (codes "sum" ∷ decimal call ∷ codes "out" ∷ decimal out ∷ codes "down" ∷ decimal down ∷ [])

-- the line of a call with these octets on its outgoing lines
abbrev pub sum_line : ℕ → List ℕ → List ℕ → List ℕ
sum_line call out down = sums_told call (sum_of out) (sum_of down)

-- What the coder and the decoder of log area ratios share (GSM 06.10, table 4.1).
use Rattle.std.specs.Prelude.{ℤ, pos, neg_ℤ, List, [], ◌∷◌}

-- B, the offset of each ratio
abbrev pub offsets : List ℤ
offsets = pos 0 ∷ pos 0 ∷ pos 2048 ∷ neg_ℤ (pos 2560) ∷ pos 94 ∷ neg_ℤ (pos 1792) ∷ neg_ℤ (pos 341) ∷ neg_ℤ (pos 1144) ∷ []

-- MIC, the least value of each quantised ratio, which has the code 0
abbrev pub least_ratios : List ℤ
least_ratios = neg_ℤ (pos 32) ∷ neg_ℤ (pos 32) ∷ neg_ℤ (pos 16) ∷ neg_ℤ (pos 16) ∷ neg_ℤ (pos 8) ∷ neg_ℤ (pos 8) ∷ neg_ℤ (pos 4) ∷ neg_ℤ (pos 4) ∷ []

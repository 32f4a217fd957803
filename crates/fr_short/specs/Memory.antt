-- What the short-term filters of one direction remember (GSM 06.10, sections 4.2.9, 4.2.10 and 4.3.4).
use Rattle.std.specs.Prelude.{ℤ, pos, List, replicate}

-- the previous frame's decoded ratios, and the values of the eight sections: v[0] to v[7] of synthesis, u[1] to u[8] of
-- analysis
pub record ShortMemory : Type 0 where
  pub ratios : List ℤ
  pub sections : List ℤ

-- the memory before the first frame
abbrev pub home_memory : ShortMemory
home_memory = record { ratios = replicate 8 (pos 0); sections = replicate 8 (pos 0) }

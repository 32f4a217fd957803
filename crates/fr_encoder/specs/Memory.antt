-- What the encoder keeps from frame to frame (GSM 06.10, section 4.2).
use Rattle.std.specs.Prelude.{ℤ, pos, List, replicate}
use Rattle.fr_pre.specs.Memory as pre
use Rattle.fr_short.specs.Memory as short

-- the memories of preprocessing and of short-term analysis, and the last 120 reconstructed residuals
pub record EncoderMemory : Type 0 where
  pub preprocessing : pre.PreMemory
  pub short_term : short.ShortMemory
  pub long_term : List ℤ

-- the memory in the home state
abbrev pub home_memory : EncoderMemory
home_memory = record { preprocessing = pre.home_memory; short_term = short.home_memory; long_term = replicate 120 (pos 0) }

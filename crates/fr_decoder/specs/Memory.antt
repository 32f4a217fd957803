-- What the decoder keeps from frame to frame (GSM 06.10, section 4.3).
use Rattle.std.specs.Prelude.{ℤ, pos}
use Rattle.fr_long.specs.Memory as ltp
use Rattle.fr_short.specs.Memory as short

-- the memories of long-term and short-term synthesis, and the last de-emphasised sample
pub record DecoderMemory : Type 0 where
  pub long_term : ltp.LtpMemory
  pub short_term : short.ShortMemory
  pub msr : ℤ

-- the memory in the home state
abbrev pub home_memory : DecoderMemory
home_memory = record { long_term = ltp.home_memory; short_term = short.home_memory; msr = pos 0 }

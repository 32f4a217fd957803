-- The past that the memory of the decoder stands for.
use Rattle.std.specs.Prelude.{◌≡◌, List}
use Rattle.trau_params.specs.Fields.{Fields}
use Rattle.fr_decoder.specs.Decoded.{blocks_of, residual_frames, last_msr}
use Rattle.fr_long.specs.Stands as ltp
use Rattle.fr_short.specs.Stands.{SynthesisStands}
use Rattle.fr_decoder.specs.Memory.{DecoderMemory}

-- the memory is the one after these frames from the home state
pub record Stands (past : List Fields) (memory : DecoderMemory) : Type 0 where
  pub long_term : ltp.Stands (blocks_of past) memory.long_term
  pub short_term : SynthesisStands (residual_frames past) memory.short_term
  pub msr : memory.msr ≡ last_msr past

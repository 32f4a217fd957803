-- The past that the memory of the encoder stands for.
use Rattle.std.specs.Prelude.{ℤ, List}
use Rattle.fr_short.specs.Stands.{AnalysisStands}
use Rattle.fr_long.specs.Stands.{HistoryStands}
use Rattle.fr_encoder.specs.Encoded.{sample_frames, reconstructed}
use Rattle.fr_pre.specs.Stands as preprocessing
use Rattle.fr_encoder.specs.Memory.{EncoderMemory}

-- the memory is the one after these frames from the home state
pub record Stands (past : List (List ℤ)) (memory : EncoderMemory) : Type 0 where
  pub preprocessing : preprocessing.Stands past memory.preprocessing
  pub short_term : AnalysisStands (sample_frames past) memory.short_term
  pub long_term : HistoryStands (reconstructed past) memory.long_term

-- The past that the memory of each direction stands for.
use Rattle.std.specs.Prelude.{◌≡◌, List}
use Rattle.fr_short.specs.Memory.{ShortMemory}
use Rattle.fr_short.specs.Analysis.{SampleFrame, newest_sample_ratios, analysis_of}
use Rattle.fr_short.specs.Synthesis.{ResidualFrame, newest_ratios, synthesis_of}

-- the memory is the one after these frames from the home state
pub record AnalysisStands (past : List SampleFrame) (memory : ShortMemory) : Type 0 where
  pub ratios : memory.ratios ≡ newest_sample_ratios past
  pub sections : memory.sections ≡ (analysis_of past).1

-- the memory is the one after these frames from the home state
pub record SynthesisStands (past : List ResidualFrame) (memory : ShortMemory) : Type 0 where
  pub ratios : memory.ratios ≡ newest_ratios past
  pub sections : memory.sections ≡ (synthesis_of past).1

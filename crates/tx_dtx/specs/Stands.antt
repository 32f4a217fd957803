-- The past that the memory of the transmit side stands for.
use Rattle.std.specs.Prelude.{◌≡◌, ℕ, ◌<◌, min, Option, None, is_none, IfSome, Some, List, ◌++◌, map, take, replicate}
use Rattle.tx_dtx.specs.Stretch.{Coded}
use Rattle.tx_dtx.specs.SilenceDescriptor.{sid_of}
use Rattle.tx_dtx.specs.Sent.{described_from, hangover_after, SidPlace, pause_of, latest_place, before_pause, sid_used}
use Rattle.tx_dtx.specs.Memory.{TxMemory, no_measures}

-- the number of frames since the last SID was made, counted up to `hangover_after`; this too if none was made
abbrev pub elapsed_of : Option SidPlace → ℕ
elapsed_of None = hangover_after
elapsed_of (Some place) = min place.since hangover_after

-- the memory is the one after these frames from the home state
pub record Stands (past : List Coded) (m : TxMemory) : Type 0 where
  pub run : m.run ≡ min (pause_of past) described_from
  pub elapsed : m.elapsed ≡ elapsed_of (latest_place past)
  -- within a pause, whether it has a hangover
  pub hangs : 0 < pause_of past → m.hangs ≡ is_none (sid_used (before_pause past))
  pub sid : IfSome (latest_place past) (λ place. m.sid ≡ sid_of place.four)
  pub recent : m.recent ≡ take 3 (map (λ f. f.measures) past ++ replicate 3 no_measures)

-- What the transmit side keeps from frame to frame (this project's profile, modelled on GSM 06.31 and GSM 06.12).
use Rattle.std.specs.Prelude.{ℕ, pos, Bool, false, List, replicate}
use Rattle.trau_params.specs.Fields.{Fields}
use Rattle.tx_dtx.specs.Stretch.{Measures}
use Rattle.tx_dtx.specs.Sent.{hangover_after}

-- the number of inactive frames in a row, counted up to `described_from`; the number of frames since the last SID was
-- made, counted up to `hangover_after`; whether the last pause has a hangover; the last SID; the measures of the last
-- three frames
pub record TxMemory : Type 0 where
  pub run : ℕ
  pub elapsed : ℕ
  pub hangs : Bool
  pub sid : Fields
  pub recent : List Measures

-- measures and parameters of 0
abbrev pub no_measures : Measures
no_measures = record { lar = replicate 8 (pos 0); xmax = replicate 4 (pos 0) }

abbrev pub no_fields : Fields
no_fields = record {
  larc = replicate 8 0;
  nc = replicate 4 0;
  bc = replicate 4 0;
  mc = replicate 4 0;
  xmaxc = replicate 4 0;
  xmc = replicate 4 (replicate 13 0);
}

-- the memory in the home state
abbrev pub home_memory : TxMemory
home_memory = record { run = 0; elapsed = hangover_after; hangs = false; sid = no_fields; recent = replicate 3 no_measures }

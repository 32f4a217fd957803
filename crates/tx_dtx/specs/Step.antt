-- The transmit side from frame to frame (this project's profile, modelled on GSM 06.31 and GSM 06.12).
use Rattle.std.specs.Prelude.{ℕ, ◌+◌, Bool, false, if◌then◌else◌, ◌==◌, nat_le, min, List, [], ◌∷◌, ◌++◌, take}
use Rattle.trau_params.specs.Fields.{Fields}
use Rattle.tx_dtx.specs.Stretch.{Measures, Coded, is_active, Sent}
use Rattle.tx_dtx.specs.SilenceDescriptor.{sid_of}
use Rattle.tx_dtx.specs.Sent.{described_from, hangover_after, itself}
use Rattle.tx_dtx.specs.Memory.{TxMemory, home_memory}

-- one more frame since the last SID
abbrev pub elapsed_later : ℕ → ℕ
elapsed_later elapsed = min (elapsed + 1) hangover_after

-- the memory after an active frame
abbrev pub after_active : TxMemory → TxMemory
after_active m = record { run = 0; elapsed = elapsed_later m.elapsed; hangs = m.hangs; sid = m.sid; recent = m.recent }

-- the memory after an inactive frame at which a SID is made
abbrev pub after_sid : TxMemory → List Measures → TxMemory
after_sid m four = record { run = described_from; elapsed = 0; hangs = m.hangs; sid = sid_of four; recent = m.recent }

-- whether the pause has a hangover, at its run-th frame; its first frame decides, by how many frames have passed since
-- the last SID
abbrev pub hangs_at : ℕ → ℕ → Bool → Bool
hangs_at run elapsed hangs = if run == 1 then nat_le hangover_after elapsed else hangs

-- the memory after an inactive frame that is earlier in its pause, the run-th
abbrev pub after_early : TxMemory → ℕ → TxMemory
after_early m run = record {
  run = run;
  elapsed = elapsed_later m.elapsed;
  hangs = hangs_at run (elapsed_later m.elapsed) m.hangs;
  sid = m.sid;
  recent = m.recent;
}

-- the memory with the frame's measures as the latest of three
abbrev pub with_measures : TxMemory → Measures → TxMemory
with_measures m measures = record { run = m.run; elapsed = m.elapsed; hangs = m.hangs; sid = m.sid; recent = take 3 (measures ∷ m.recent) }

-- the frame itself if the pause has a hangover, else the last SID
abbrev pub sent_in_pause : TxMemory → Fields → Sent
sent_in_pause m fields = if m.hangs then itself fields else record { fields = m.sid; sp = false }

-- what is sent, and the memory after it: for a frame at which a SID is made, and for a frame earlier in its pause
abbrev pub sid_step : TxMemory → Measures → Sent × TxMemory
sid_step m measures = let now = after_sid m (measures ∷ m.recent) in (record { fields = now.sid; sp = false }, now)

abbrev pub early_step : TxMemory → ℕ → Fields → Sent × TxMemory
early_step m run fields = let now = after_early m run in (sent_in_pause now fields, now)

-- an inactive frame
unfoldable pub pause_step : TxMemory → Fields → Measures → Sent × TxMemory
pause_step m fields measures = let run = min (m.run + 1) described_from in
    if run == described_from then sid_step m measures else early_step m run fields

-- a frame by itself, before its measures are remembered
unfoldable pub sent_after : TxMemory → Coded → Sent × TxMemory
sent_after m f = if is_active f then (itself f.fields, after_active m) else pause_step m f.fields f.measures

-- one frame: what is sent of it, and the memory after it
unfoldable pub next_sent : TxMemory → Coded → Sent × TxMemory
next_sent m f = let step = sent_after m f in (step.0, with_measures step.1 f.measures)

-- frames one after another from the home state, the newest first: all that is sent, and the memory after them
unfoldable pub sent_in_turn : List Coded → List Sent × TxMemory
sent_in_turn [] = ([], home_memory)
sent_in_turn (f ∷ past) =
    let before = sent_in_turn past in
    let newest = next_sent before.1 f in
    (before.0 ++ newest.0 ∷ [], newest.1)

-- A whole call of a live drill.
use Rattle.std.specs.Prelude.{ℕ, [], replicate}
use Rattle.call_spec.specs.Call.{Call}
use Rattle.farm_drill.specs.Lines.{up_line, pcm_line}
use Rattle.farm_live.specs.Book.{who_at}
use Rattle.farm_live.specs.Whole.{setting}

-- a call with the drawn lines
abbrev pub live_call : ℕ → ℕ → ℕ → Call
live_call seed periods c = record {
  who = who_at c;
  up = up_line seed c periods;
  pcm = pcm_line seed c periods;
  settings = replicate periods setting;
  spans = [];
}

-- What a farm keeps (this project's profile).
use Rattle.std.specs.Prelude.{ℕ, List, [], replicate, slice_index_or}
use Rattle.call_number.specs.declared.TheConstants.{NUMBERS}
use Rattle.trau_io.specs.declared.line.Line.{Line}
use Rattle.call_leg.specs.Counted.{no_counts}
use Rattle.farm_rounds.specs.Calls.{Kept}
use Rattle.farm_rounds.specs.declared.tally.Tally.{Tally}

-- the open calls with their partners; the open calls' numbers; the tally of each ended call, at the index of its
-- number; the lines that failed; and the first period after the last round
pub record FarmMemory : Type 0 where
  pub calls : List Kept
  pub live : List ℕ
  pub tallies : List Tally
  pub failed : List Line
  pub ended : ℕ

-- the tally of a call that hasn't ended
abbrev pub no_tally : Tally
no_tally = record { counts = no_counts; sent = 0 }

-- the tally that is kept of call c
abbrev pub tally_in : List Tally → ℕ → Tally
tally_in tallies c = slice_index_or tallies c no_tally

-- a farm with no call
abbrev pub home_memory : FarmMemory
home_memory = record {
  calls = [];
  live = [];
  tallies = replicate NUMBERS no_tally;
  failed = [];
  ended = 0;
}

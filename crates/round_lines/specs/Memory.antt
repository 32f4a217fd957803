-- The state of a call's lines in a round, with the call's number and the number of the round's periods (this project's
-- profile).
use Rattle.std.specs.Prelude.{◌≡◌, ℕ, ◌+◌, ◌*◌, ◌≤◌, ◌==◌, Bool, true, false, if◌then◌else◌, Option, Some, None, List, [], ◌∷◌}
use Rattle.std.specs.List.{filter_map}
use Rattle.call_number.specs.CallNumber.{IsCallNumber}
use Rattle.trau_io.specs.declared.line.Line.{Line}
use Rattle.trau_io.specs.declared.line.Side.{Side}
use Rattle.trau_io.specs.declared.line.Side.TheVariants.{Up, Pcm, Down, Out}
use Rattle.trau_io.specs.declared.ends.CallEnd.{CallEnd}
use Rattle.trau_io.specs.Lines.{LineState, Rose}
use Rattle.switchboard.specs.Ends.{Given, whole_of, lack_of}
use Rattle.round_lines.specs.declared.transfer.Taken.{Taken}
use Rattle.round_lines.specs.declared.transfer.Outlet.{Outlet}
use Rattle.round_lines.specs.declared.transfer.Outlet.TheVariants.{Sound, FailedBefore}
use Rattle.round_lines.specs.Transfer.{fails_now}

-- what is known of a call in a round, without its buffers
pub record LinesMemory : Type 0 where
  pub call : ℕ
  pub periods : ℕ
  pub up : Taken
  pub pcm : Taken
  pub down : Outlet
  pub out : Outlet

-- A round has 1 to 250 periods, and an incoming line gave at most their octets: 40 a period on Up, 160 on Pcm.
pub record AreLines (p : LinesMemory) : Type 0 where
  pub number : IsCallNumber p.call
  pub some : 1 ≤ p.periods
  pub few : p.periods ≤ 250
  pub up : p.up.count ≤ 40 * p.periods
  pub pcm : p.pcm.count ≤ 160 * p.periods

-- before the first read
abbrev pub nothing_taken : Taken
nothing_taken = record { count = 0; failed = false }

-- an outgoing line at the start of a round, by whether it failed in an earlier one
abbrev pub outlet_before : Bool → Outlet
outlet_before failed = if failed then FailedBefore else Sound

-- the state before the first read
abbrev pub fresh_lines : ℕ → ℕ → Bool → Bool → LinesMemory
fresh_lines call periods down_failed out_failed =
    record {
      call = call;
      periods = periods;
      up = nothing_taken;
      pcm = nothing_taken;
      down = outlet_before down_failed;
      out = outlet_before out_failed;
    }

-- the number of octets that each incoming line gave in the round, and whether it failed
abbrev pub given_in : LinesMemory → Given
given_in p = record {
  up = p.up.count;
  pcm = p.pcm.count;
  up_failed = p.up.failed;
  pcm_failed = p.pcm.failed;
}

-- the number of whole periods that both lines gave in the round
abbrev pub whole_in : LinesMemory → ℕ
whole_in p = whole_of (given_in p)

-- Where and why a call ends in a round from period `start` on: at the first period that its lines lack; None if they
-- gave all.
abbrev pub end_in_round : ℕ → LinesMemory → Option CallEnd
end_in_round start p = if whole_in p == p.periods then None
    else Some (record {
      call = p.call;
      at = start + whole_in p;
      cause = lack_of (whole_in p) (given_in p);
    })

-- a line of the call failed in this round
abbrev pub fails_in : LinesMemory → Side → Bool
fails_in p Up = p.up.failed
fails_in p Pcm = p.pcm.failed
fails_in p Down = fails_now p.down
fails_in p Out = fails_now p.out

-- neither outgoing line has failed in this round yet
abbrev pub IsFresh : LinesMemory → Type 0
IsFresh p = (fails_in p Down ≡ false) × (fails_in p Out ≡ false)

-- A line's count rose if the line is marked as failed, and is unchanged if not.
pub record TellsFault (before now : LineState) (failed : Bool) : Type 0 where
  pub rose : failed ≡ true → Rose before.faults now.faults
  pub kept : failed ≡ false → now.faults ≡ before.faults

-- the marks show which lines' counts rose
abbrev pub TellsFaults : (Side → LineState) → (Side → LineState) → LinesMemory → Type 0
TellsFaults before now p = (side : Side) → TellsFault (before side) (now side) (fails_in p side)

-- the sides of a call in the order in which they are reported
abbrev pub sides : List Side
sides = Up ∷ Pcm ∷ Down ∷ Out ∷ []

-- A line is listed as its number and its side, since `Line` carries the proofs of its range.
abbrev pub line_name : Line → ℕ × Side
line_name line = (line.call, line.side)

-- the name of a line that failed in the round
abbrev pub name_where_failed : LinesMemory → Side → Option (ℕ × Side)
name_where_failed p side = if fails_in p side then Some (p.call, side) else None

-- the lines of a call that failed in the round
abbrev pub failed_in_round : LinesMemory → List (ℕ × Side)
failed_in_round p = filter_map (name_where_failed p) sides

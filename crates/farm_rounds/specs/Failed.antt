-- The lines that have failed, and what the open calls know of theirs.
use Rattle.std.specs.Prelude.{◌≡◌, ℕ, ◌==◌, Bool, true, false, Some, List, map}
use Rattle.std.specs.List.{All, list_any}
use Rattle.std.specs.List.Sorted.{IsStrictlyIncreasing}
use Rattle.trau_io.specs.declared.line.Line.{Line}
use Rattle.trau_io.specs.declared.line.Side.{Side}
use Rattle.trau_io.specs.declared.line.Side.TheVariants.{Up, Pcm, Down, Out}
use Rattle.trau_io.specs.Indices.{index_of_line}
use Rattle.switchboard.specs.declared.act.Act.{Act}
use Rattle.switchboard.specs.declared.act.Act.TheVariants.{Opened}
use Rattle.round_lines.specs.declared.transfer.Outlet.{Outlet}
use Rattle.round_lines.specs.declared.transfer.Outlet.TheVariants.{Sound, FailedBefore, FailedNow}
use Rattle.round_lines.specs.Memory.{LinesMemory}
use Rattle.farm_rounds.specs.declared.open.OpenCall.{OpenCall}
use Rattle.farm_rounds.specs.Calls.{Call, Kept, call_in}
use Rattle.farm_rounds.specs.Rounds.{EndsShort}

-- whether the line of a call on a side is one of these
abbrev pub is_listed : List Line → ℕ → Side → Bool
is_listed lines c s = list_any (λ l. index_of_line l.call l.side == index_of_line c s) lines

-- An open call's incoming lines haven't failed, and it knows which of its outgoing ones have.
abbrev pub KnowsLines : List Line → ℕ → Call → Type 0
KnowsLines lines c x =
    (is_listed lines c Up ≡ false) × (is_listed lines c Pcm ≡ false)
    × (x.down_failed ≡ is_listed lines c Down) × (x.out_failed ≡ is_listed lines c Out)

-- Each line is listed once, by its call's number and in the order Up, Pcm, Down, Out.
pub record AreFailed (lines : List Line) (calls : List Kept) : Type 0 where
  pub once : IsStrictlyIncreasing (map (λ l. index_of_line l.call l.side) lines)
  pub known : (c : ℕ) (x : Call) → call_in calls c ≡ Some x → KnowsLines lines c x

-- a number of which a line has failed isn't opened again
abbrev pub NoneListed : Act → List Line → Type 0
NoneListed (Opened c law) lines = (s : Side) → is_listed lines c s ≡ false
NoneListed _ lines = Unit {0}

-- ---- in a round

-- the line failed before the round
abbrev pub was_failed : Outlet → Bool
was_failed Sound = false
was_failed FailedBefore = true
was_failed FailedNow = false

-- What the state of a call's lines in a round says of the lines that failed before it: none of the incoming ones did,
-- and it knows which of the outgoing ones did. An incoming line that failed in the round gave fewer octets than the
-- round takes of it.
pub record KnowsCallLines (lines : List Line) (p : LinesMemory) : Type 0 where
  pub up : is_listed lines p.call Up ≡ false
  pub pcm : is_listed lines p.call Pcm ≡ false
  pub down : was_failed p.down ≡ is_listed lines p.call Down
  pub out : was_failed p.out ≡ is_listed lines p.call Out
  pub short : EndsShort p

-- Each line that failed before a round is listed once, by its call's number and in the order Up, Pcm, Down, Out.
pub record AreFailedBefore (lines : List Line) (opens : List OpenCall) : Type 0 where
  pub once : IsStrictlyIncreasing (map (λ l. index_of_line l.call l.side) lines)
  pub known : All (λ o. KnowsCallLines lines o.lines) opens

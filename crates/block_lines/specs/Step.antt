-- One block of a run, after any blocks that the machine has taken (`stands`).
use Rattle.std.specs.Prelude.{◌≡◌, ◌⊎◌, ℕ, ◌+◌, ◌-◌, ◌^◌, ◌<◌, ◌≤◌, List, [], ◌++◌, length, take, Result, Ok, Err}
use Rattle.std.specs.Io.KnownBytes.{Appends, IsAtEnd}
use Rattle.trau_io.specs.declared.line.Side.{Side}
use Rattle.trau_io.specs.Lines.{LineState, Rose}
use Rattle.trau_io.specs.Transfer.{Gives}
use Rattle.block_lines.specs.declared.end.RunEnd.{RunEnd}
use Rattle.block_lines.specs.declared.end.RunEnd.TheVariants.{Done, Refused, ReadFailed, WriteFailed, DeskFailed}
use Rattle.block_lines.specs.declared.machine.Shape.{Shape}
use Rattle.block_lines.specs.Machines.{IsNext, Machine, blocks_with, with_next}
use Rattle.block_lines.specs.Runs.{Around, Output, Stage, All_of_it, None_of_it, Part_of_it, Runs, Stays, desk_stage, line_stage, out_of, out_of_desk}

-- the blocks that the machine has taken are fewer than 4,294,967,295
pub record HasRoom (stands : List (List ℕ) → Type 0) : Type 0 where
  pub blocks : List (List ℕ)
  pub now : stands blocks
  pub fewer : length blocks < 2 ^ 32 - 1

-- what a machine makes of one more block, or of the octets left: this text, and for line j the first `count` of the
-- octets that it then holds for it; `before` says of a list that these are the blocks that it has taken so far, and
-- `after` that it has taken them then
pub record Makes (M : Machine) (before after : List (List ℕ) → Type 0) (next : List ℕ) (holds : ℕ → List ℕ) (text : List ℕ)
    (count : ℕ) : Type 0 where
  pub bound : (j : ℕ) → j < M.shape.lines → count ≤ length (holds j)
  pub is : IsNext M next
  pub stands : (blocks : List (List ℕ)) → before blocks → after (blocks_with M blocks next)
  pub made : (blocks : List (List ℕ)) → before blocks → (j : ℕ) → j < M.shape.lines →
      with_next M (M.made j) blocks next ≡ M.made j blocks [] ++ take count (holds j)
  pub printed : (blocks : List (List ℕ)) → before blocks → with_next M M.printed blocks next ≡ M.printed blocks [] ++ text

-- an output gained as much of these octets as its stage says
abbrev pub Gains : Stage → Output → Output → List ℕ → Type 0
Gains All_of_it o o' part = Appends o.written o'.written part × (o'.faults ≡ o.faults)
Gains Part_of_it o o' part =
    (n : ℕ) × (n < length part) × Appends o.written o'.written (take n part) × (o.faults ≤ o'.faults) × Rose o.faults o'.faults
Gains None_of_it o o' part = Appends o.written o'.written [] × (o'.faults ≡ o.faults)

-- and nothing was read from the line
abbrev pub LineGains : Stage → LineState → LineState → List ℕ → Type 0
LineGains stage line line' part = Gains stage (out_of line) (out_of line') part × (line'.to_come ≡ line.to_come)

-- the stage of line j once the lines are written: all gained their octets, or one failed
abbrev pub write_stage : Result (Unit {0}) ℕ → ℕ → Stage
write_stage (Ok done) j = All_of_it
write_stage (Err k) j = line_stage (WriteFailed k) j

-- every line but the outgoing ones is unchanged
abbrev pub LinesStay : Shape → (ℕ → Side → LineState) → (ℕ → Side → LineState) → ℕ → Type 0
LinesStay shape before now call = (c : ℕ) (s : Side) → ((j : ℕ) → j < shape.lines → c ≡ call + j → s ≡ shape.to → ⊥) → now c s ≡ before c s

-- the same, if what goes out for the blocks is `before`, and with the next one `all`
abbrev pub Adds : Stage → Output → Output → List ℕ → List ℕ → Type 0
Adds stage o o' before all = (part : List ℕ) × Gains stage o o' part × ((all ≡ before ++ part) ⊎ (stage ≡ None_of_it))

-- how a block ends: `Done` if all that goes out for it was written, also if it is whole
abbrev pub PutEnds : Machine → ℕ → List ℕ → RunEnd → Type 0
PutEnds M n next (Done m left) = (m ≡ n) × (left ≡ length next) × IsNext M next
PutEnds M n next (Refused m) = (m ≡ n) × (IsNext M next → ⊥)
PutEnds M n next ReadFailed = ⊥
PutEnds M n next (WriteFailed k) = (k < M.shape.lines) × IsNext M next
PutEnds M n next DeskFailed = IsNext M next

-- the machine has taken the block if all that goes out for it was written
abbrev pub StandsBehind : (List (List ℕ) → Type 0) → List (List ℕ) → RunEnd → Type 0
StandsBehind after blocks (Done n left) = after blocks
StandsBehind after blocks end = Unit {0}

-- what was written for the next block
pub record Puts (M : Machine) (before after : List (List ℕ) → Type 0) (next : List ℕ) (a b : Around) (end : RunEnd) : Type 0 where
  pub stays : Stays M a b
  pub stands : (blocks : List (List ℕ)) → before blocks → StandsBehind after (blocks_with M blocks next) end
  pub lines : (blocks : List (List ℕ)) → before blocks → (j : ℕ) → j < M.shape.lines →
      Adds (line_stage end j) (out_of (a.outs j)) (out_of (b.outs j)) (M.made j blocks []) (with_next M (M.made j) blocks next)
  pub desk : (blocks : List (List ℕ)) → before blocks →
      Adds (desk_stage end) (out_of_desk a.desk) (out_of_desk b.desk) (M.printed blocks []) (with_next M M.printed blocks next)

-- why a block ends so after n earlier ones
abbrev pub BlockEnds : Machine → ℕ → LineState → LineState → List ℕ → RunEnd → Type 0
BlockEnds M n inc inc' next ReadFailed = (length next < M.shape.octets) × Rose inc.faults inc'.faults
BlockEnds M n inc inc' next end =
    PutEnds M n next end × (inc'.faults ≡ inc.faults) × (length next ≤ M.shape.octets) × (length next < M.shape.octets → IsAtEnd inc'.to_come)

-- one block: what was read of it, and what was written for it
pub record Goes (M : Machine) (before after : List (List ℕ) → Type 0) (n : ℕ) (a b : Around) (end : RunEnd) : Type 0 where
  pub next : List ℕ
  pub gives : Gives a.inc b.inc next
  pub puts : Puts M before after next a b end
  pub ends : BlockEnds M n a.inc b.inc next end

-- a whole block was taken, so the run goes on
abbrev pub IsTaken : RunEnd → ℕ → Type 0
IsTaken (Done n left) octets = left ≡ octets
IsTaken end octets = ⊥

-- a whole run, and what the machine has taken at the line's end
abbrev pub RunsTo : Machine → (List (List ℕ) → Type 0) → Around → Around → RunEnd → Type 0
RunsTo M after a b end = (ran : Runs M a b end) × StandsBehind after ran.blocks end

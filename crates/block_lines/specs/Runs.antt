-- A run of a block machine over its lines: what is read and written, and how it ends.
use Rattle.std.specs.Prelude.{◌≡◌, ◌⊎◌, ℕ, ◌+◌, ◌*◌, ◌-◌, ◌^◌, ◌<◌, ◌≤◌, ◌==◌, List, [], ◌++◌, length, take, All, Option, nat_lt, if◌then◌else◌}
use Rattle.std.specs.List.{concat}
use Rattle.std.specs.Io.KnownBytes.{Appends, IsAtEnd}
use Rattle.trau_io.specs.declared.line.Side.{Side}
use Rattle.trau_io.specs.Lines.{LineState, Rose}
use Rattle.trau_io.specs.Desks.{DeskState}
use Rattle.trau_io.specs.Transfer.{Gives}
use Rattle.block_lines.specs.declared.end.RunEnd.{RunEnd}
use Rattle.block_lines.specs.declared.end.RunEnd.TheVariants.{Done, Refused, ReadFailed, WriteFailed, DeskFailed}
use Rattle.block_lines.specs.Machines.{IsBlock, IsNext, IsRefused, IsRest, Machine, with_next}

-- what a machine reads and writes: the incoming line, the outgoing ones in order, and the desk
pub record Around : Type 0 where
  pub inc : LineState
  pub outs : ℕ → LineState
  pub desk : DeskState

abbrev pub around : Machine → (ℕ → Side → LineState) → DeskState → ℕ → Around
around M lines desk call = record { inc = lines call M.shape.from; outs = λ j. lines (call + j) M.shape.to; desk = desk }

-- every other line is unchanged, its fault count included
abbrev pub OthersStay : Machine → (ℕ → Side → LineState) → (ℕ → Side → LineState) → ℕ → Type 0
OthersStay M before now call = (c : ℕ) (s : Side) → (c ≡ call → s ≡ M.shape.from → ⊥) →
    ((j : ℕ) → j < M.shape.lines → c ≡ call + j → s ≡ M.shape.to → ⊥) → now c s ≡ before c s

-- nothing was read from the outgoing lines and the desk
pub record Stays (M : Machine) (a b : Around) : Type 0 where
  pub outs : (j : ℕ) → j < M.shape.lines → (b.outs j).to_come ≡ (a.outs j).to_come
  pub desk : b.desk.to_come ≡ a.desk.to_come
  pub read_faults : b.desk.read_faults ≡ a.desk.read_faults

-- an outgoing line or the desk: what was written to it, and the count of faults of that
pub record Output : Type 0 where
  pub written : Option (List ℕ)
  pub faults : ℕ

abbrev pub out_of : LineState → Output
out_of line = record { written = line.written; faults = line.faults }

abbrev pub out_of_desk : DeskState → Output
out_of_desk desk = record { written = desk.written; faults = desk.write_faults }

-- how much of what goes out for the next block an output gained: all of it, a proper prefix, in which it failed, or
-- nothing
pub data Stage : Type 0 where
  All_of_it Part_of_it None_of_it : Stage

-- An output gained what goes out for the blocks (`before`), and of what goes out for the next, with which it is `all`,
-- as much as its stage says.
abbrev pub Reaches : Stage → Output → Output → List ℕ → List ℕ → Type 0
Reaches All_of_it o o' before all = Appends o.written o'.written all × (o'.faults ≡ o.faults)
Reaches Part_of_it o o' before all = (more : List ℕ) × (all ≡ before ++ more) × (n : ℕ) × (n < length more)
    × Appends o.written o'.written (before ++ take n more) × (o.faults ≤ o'.faults) × Rose o.faults o'.faults
Reaches None_of_it o o' before all = Appends o.written o'.written before × (o'.faults ≡ o.faults)

-- the stages of line j and of the desk at each end: the lines are written in order, and then the desk
abbrev pub line_stage : RunEnd → ℕ → Stage
line_stage (Done n left) j = All_of_it
line_stage (Refused n) j = None_of_it
line_stage ReadFailed j = None_of_it
line_stage (WriteFailed k) j = if nat_lt j k then All_of_it else if j == k then Part_of_it else None_of_it
line_stage DeskFailed j = All_of_it

abbrev pub desk_stage : RunEnd → Stage
desk_stage (Done n left) = All_of_it
desk_stage (Refused n) = None_of_it
desk_stage ReadFailed = None_of_it
desk_stage (WriteFailed k) = None_of_it
desk_stage DeskFailed = Part_of_it

-- why the run ends after these blocks and what was read after them (`last`); a read fails only before 4,294,967,295
-- blocks are taken
abbrev pub EndsAt : Machine → Around → Around → List (List ℕ) → List ℕ → RunEnd → Type 0
EndsAt M a b blocks last (Done n left) = (n ≡ length blocks) × (left ≡ length last) × IsRest M last × (b.inc.faults ≡ a.inc.faults)
    × (IsAtEnd b.inc.to_come ⊎ ((n ≡ 2 ^ 32 - 1) × (last ≡ [])))
EndsAt M a b blocks last (Refused n) = (n ≡ length blocks) × IsRefused M last (IsAtEnd b.inc.to_come) × (b.inc.faults ≡ a.inc.faults)
EndsAt M a b blocks last ReadFailed = (length blocks < 2 ^ 32 - 1) × (length last < M.shape.octets) × Rose a.inc.faults b.inc.faults
EndsAt M a b blocks last (WriteFailed k) =
    (k < M.shape.lines) × IsNext M last × (b.inc.faults ≡ a.inc.faults) × (length last < M.shape.octets → IsAtEnd b.inc.to_come)
EndsAt M a b blocks last DeskFailed = IsNext M last × (b.inc.faults ≡ a.inc.faults) × (length last < M.shape.octets → IsAtEnd b.inc.to_come)

-- A whole run. At most 4,294,967,295 blocks were read: those that were taken, and then maybe one more or a part of one.
-- All that goes out for the taken blocks was written, and of what goes out for the next as much as the end says.
pub record Runs (M : Machine) (a b : Around) (end : RunEnd) : Type 0 where
  pub blocks : List (List ℕ)
  pub last : List ℕ
  pub taken : All (IsBlock M) blocks
  pub few : length (concat blocks ++ last) ≤ M.shape.octets * (2 ^ 32 - 1)
  pub gives : Gives a.inc b.inc (concat blocks ++ last)
  pub stays : Stays M a b
  pub lines : (j : ℕ) → j < M.shape.lines →
      Reaches (line_stage end j) (out_of (a.outs j)) (out_of (b.outs j)) (M.made j blocks []) (with_next M (M.made j) blocks last)
  pub desk : Reaches (desk_stage end) (out_of_desk a.desk) (out_of_desk b.desk) (M.printed blocks []) (with_next M M.printed blocks last)
  pub ends : EndsAt M a b blocks last end

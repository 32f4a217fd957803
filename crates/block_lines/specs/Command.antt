-- A whole command by a block machine: its run, its last text and its end, the cause of its status, and its result if
-- nothing fails (this project's profile).
use Rattle.std.specs.Prelude.{◌≡◌, ◌⊎◌, ℕ, ◌+◌, ◌*◌, ◌-◌, ◌^◌, ◌<◌, ◌≤◌, List, [], ◌++◌, length, All, Some, Ok, Err}
use Rattle.std.specs.List.{concat}
use Rattle.std.specs.Io.KnownBytes.{Consumes, IsAtEnd}
use Rattle.trau_io.specs.declared.line.Side.{Side}
use Rattle.trau_io.specs.Lines.{LineState, Rose}
use Rattle.trau_io.specs.Desks.{DeskState}
use Rattle.trau_io.specs.Texts.{failed_text}
use Rattle.trau_io.specs.Transfer.{Tells}
use Rattle.block_lines.specs.declared.end.RunEnd.{RunEnd}
use Rattle.block_lines.specs.declared.end.RunEnd.TheVariants.{Done, Refused, ReadFailed, WriteFailed, DeskFailed}
use Rattle.block_lines.specs.declared.end.ToolEnd.{ToolEnd}
use Rattle.block_lines.specs.declared.end.ToolEnd.TheVariants as tool
use Rattle.block_lines.specs.declared.machine.Shape.{Shape}
use Rattle.block_lines.specs.Machines.{IsBlock, IsRefused, IsRest, Machine}
use Rattle.block_lines.specs.Runs.{Around, OthersStay, Runs, around}

-- the last text: how much was taken, which block is refused, or which line failed; none if the desk failed
abbrev pub last_text : Machine → ℕ → List (List ℕ) → List ℕ → RunEnd → List ℕ
last_text M call blocks last (Done n left) = M.done_text blocks last
last_text M call blocks last (Refused n) = M.refused_text n
last_text M call blocks last ReadFailed = failed_text call M.shape.from
last_text M call blocks last (WriteFailed k) = failed_text (call + k) M.shape.to
last_text M call blocks last DeskFailed = []

-- the end has the numbers of these blocks and of the octets left
abbrev pub IsOf : List (List ℕ) → List ℕ → RunEnd → Type 0
IsOf blocks last (Done n left) = (n ≡ length blocks) × (left ≡ length last)
IsOf blocks last end = Unit {0}

-- the line that failed is one of the machine's
abbrev pub IsLineOf : Shape → RunEnd → Type 0
IsLineOf shape (WriteFailed k) = k < shape.lines
IsLineOf shape end = Unit {0}

-- the command ended because this line failed
abbrev pub IsFaultOf : ℕ → Side → ToolEnd → Type 0
IsFaultOf call side (tool.LineFault line) = (line.call ≡ call) × (line.side ≡ side)
IsFaultOf call side result = ⊥

-- the end of the command is that of its run
abbrev pub IsEndOf : Shape → ℕ → RunEnd → ToolEnd → Type 0
IsEndOf shape call (Done n left) result = result ≡ tool.Done
IsEndOf shape call (Refused n) result = result ≡ tool.Refused n
IsEndOf shape call ReadFailed result = IsFaultOf call shape.from result
IsEndOf shape call (WriteFailed k) result = IsFaultOf (call + k) shape.to result
IsEndOf shape call DeskFailed result = result ≡ tool.DeskFault

-- A whole command, whatever fails: its run, and then the last text, which the desk gained whole, or, if it failed, a
-- proper prefix of it.
pub record CommandRuns (M : Machine) (before now : ℕ → Side → LineState) (desk desk' : DeskState) (call : ℕ) (result : ToolEnd) : Type 0 where
  pub end : RunEnd
  pub middle : DeskState
  pub runs : Runs M (around M before desk call) (around M now middle call) end
  pub others : OthersStay M before now call
  pub tells : (IsEndOf M.shape call end result × Tells middle desk' (Ok tt) (last_text M call runs.blocks runs.last end))
      ⊎ ((result ≡ tool.DeskFault) × Tells middle desk' (Err (record {})) (last_text M call runs.blocks runs.last end))

-- the status of an end
abbrev pub status_of : ToolEnd → ℕ
status_of tool.Done = 0
status_of (tool.LineFault line) = 6
status_of tool.DeskFault = 4
status_of (tool.Refused n) = 8
status_of tool.Memory = 5

-- the incoming line was read up to a block that is refused
pub record ReadsRefused (M : Machine) (inc inc' : LineState) : Type 0 where
  pub blocks : List (List ℕ)
  pub last : List ℕ
  pub read : Consumes inc.to_come inc'.to_come (concat blocks ++ last)
  pub taken : All (IsBlock M) blocks
  pub refused : IsRefused M last (IsAtEnd inc'.to_come)

-- a count is unchanged, and below its highest value
abbrev pub IsCalm : ℕ → ℕ → Type 0
IsCalm before now = (now ≡ before) × (now < 2 ^ 64 - 1)

-- With status 4 a fault of writing to the desk was counted, with 6 a fault of a line of the command; with 8 a block
-- that was read is refused. If the desk's count grew, the status is 4. If a line's count grew, it is 6 or 4. If the
-- incoming line's octets are known, it didn't fail, and a block that was read is refused, the status is 8 or 4.
pub record HasCauses (M : Machine) (a b : Around) (status : ℕ) : Type 0 where
  pub known : (status ≡ 0) ⊎ (status ≡ 4) ⊎ (status ≡ 6) ⊎ (status ≡ 8)
  pub desk_failed : status ≡ 4 → Rose a.desk.write_faults b.desk.write_faults
  pub desk_rose : a.desk.write_faults < b.desk.write_faults → status ≡ 4
  pub line_failed : status ≡ 6 → Rose a.inc.faults b.inc.faults ⊎ ((j : ℕ) × (j < M.shape.lines) × Rose (a.outs j).faults (b.outs j).faults)
  pub inc_rose : a.inc.faults < b.inc.faults → (status ≡ 4) ⊎ (status ≡ 6)
  pub line_rose : (j : ℕ) → j < M.shape.lines → (a.outs j).faults < (b.outs j).faults → (status ≡ 4) ⊎ (status ≡ 6)
  pub refused : status ≡ 8 → ReadsRefused M a.inc b.inc
  pub read_refused : (octets : List ℕ) → a.inc.to_come ≡ Some octets → IsCalm a.inc.faults b.inc.faults → ReadsRefused M a.inc b.inc →
      (status ≡ 4) ⊎ (status ≡ 8)

-- the same for the command's lines among all lines
abbrev pub Causes : Machine → (ℕ → Side → LineState) → (ℕ → Side → LineState) → DeskState → DeskState → ℕ → ℕ → Type 0
Causes M before now desk desk' call status = HasCauses M (around M before desk call) (around M now desk' call) status

-- no fault was counted, of the command's lines or of writing to the desk
pub record AreCalm (M : Machine) (a b : Around) : Type 0 where
  pub inc : IsCalm a.inc.faults b.inc.faults
  pub outs : (j : ℕ) → j < M.shape.lines → IsCalm (a.outs j).faults (b.outs j).faults
  pub desk : IsCalm a.desk.write_faults b.desk.write_faults

-- the octets of a line: blocks that are taken, what was read after them, and the rest, which wasn't read; 4,294,967,295
-- blocks were read at most
pub record IsCut (M : Machine) (octets : List ℕ) (blocks : List (List ℕ)) (last rest : List ℕ) : Type 0 where
  pub split : octets ≡ concat blocks ++ last ++ rest
  pub taken : All (IsBlock M) blocks
  pub few : length (concat blocks ++ last) ≤ M.shape.octets * (2 ^ 32 - 1)

-- the result if the incoming line had `octets` to come, line j held `held j` and the desk `text`, and no block is
-- refused
pub record LeavesDone (M : Machine) (b : Around) (octets : List ℕ) (held : ℕ → List ℕ) (text : List ℕ) (status : ℕ) : Type 0 where
  pub blocks : List (List ℕ)
  pub last : List ℕ
  pub rest : List ℕ
  pub cut : IsCut M octets blocks last rest
  pub is_rest : IsRest M last
  pub at_end : (rest ≡ []) ⊎ ((length blocks ≡ 2 ^ 32 - 1) × (last ≡ []))
  pub inc_holds : b.inc.to_come ≡ Some rest
  pub lines_hold : (j : ℕ) → j < M.shape.lines → (b.outs j).written ≡ Some (held j ++ M.made j blocks last)
  pub desk_holds : b.desk.written ≡ Some (text ++ (M.printed blocks last ++ M.done_text blocks last))
  pub done : status ≡ 0

-- the same if the block after these is refused
pub record LeavesRefused (M : Machine) (b : Around) (octets : List ℕ) (held : ℕ → List ℕ) (text : List ℕ) (status : ℕ) : Type 0 where
  pub blocks : List (List ℕ)
  pub last : List ℕ
  pub rest : List ℕ
  pub cut : IsCut M octets blocks last rest
  pub is_refused : IsRefused M last (rest ≡ [])
  pub inc_holds : b.inc.to_come ≡ Some rest
  pub lines_hold : (j : ℕ) → j < M.shape.lines → (b.outs j).written ≡ Some (held j ++ M.made j blocks [])
  pub desk_holds : b.desk.written ≡ Some (text ++ (M.printed blocks [] ++ M.refused_text (length blocks)))
  pub refused : status ≡ 8

-- a command in which nothing failed, if the content of its lines and of the desk is known
abbrev pub LeavesAll : Machine → Around → Around → ℕ → Type 0
LeavesAll M a b status = AreCalm M a b → (octets : List ℕ) (held : ℕ → List ℕ) (text : List ℕ) → a.inc.to_come ≡ Some octets →
    ((j : ℕ) → j < M.shape.lines → (a.outs j).written ≡ Some (held j)) → a.desk.written ≡ Some text →
    LeavesDone M b octets held text status ⊎ LeavesRefused M b octets held text status

-- the same for the command's lines among all lines
abbrev pub Leaves : Machine → (ℕ → Side → LineState) → (ℕ → Side → LineState) → DeskState → DeskState → ℕ → ℕ → Type 0
Leaves M before now desk desk' call status = LeavesAll M (around M before desk call) (around M now desk' call) status

-- The command `follow`: its last line of text, its end and the cause of that, and its result if nothing fails (this
-- project's profile).
use Rattle.std.specs.Prelude.{◌≡◌, ◌⊎◌, ℕ, ◌*◌, ◌-◌, ◌^◌, ◌<◌, ◌≤◌, List, [], ◌++◌, length, reverse, codes, decimal, Some, Ok, Err}
use Rattle.std.specs.List.{concat}
use Rattle.trau_io.specs.declared.line.Side.{Side}
use Rattle.trau_io.specs.declared.line.Side.TheVariants.{Up, Down}
use Rattle.trau_io.specs.Lines.{LineState, Rose}
use Rattle.trau_io.specs.Desks.{DeskState}
use Rattle.trau_io.specs.Texts.{failed_text}
use Rattle.trau_io.specs.Transfer.{Tells}
use Rattle.block_lines.specs.declared.end.ToolEnd.{ToolEnd}
use Rattle.block_lines.specs.declared.end.ToolEnd.TheVariants as tool
use Rattle.block_lines.specs.Command.{IsCalm, IsFaultOf}
use Rattle.ccu_end.specs.declared.recording.FollowEnd.{FollowEnd}
use Rattle.ccu_end.specs.declared.recording.FollowEnd.TheVariants.{Done, ReadFailed, WriteFailed, DeskFailed}
use Rattle.ccu_end.specs.Found.{FoundFrame}
use Rattle.ccu_end.specs.Heard.{ArePeriods, AreHeard, all_of}
use Rattle.ccu_end.specs.Told.{listed, sent_up}
use Rattle.ccu_end.specs.Follows.{AllButTwo, Follows}

-- the last line of text: how many frames were found and how many octets are left, or which line failed; none if the
-- desk failed
abbrev pub last_text : ℕ → FollowEnd → List ℕ
last_text call (Done frames left) = codes "follow frames " ++ (decimal frames ++ (codes " left " ++ (decimal left ++ codes "\n")))
last_text call ReadFailed = failed_text call Up
last_text call WriteFailed = failed_text call Down
last_text call DeskFailed = []

-- the end of the tool is that of the followed downlink
abbrev pub IsEndOf : ℕ → FollowEnd → ToolEnd → Type 0
IsEndOf call (Done frames left) result = result ≡ tool.Done
IsEndOf call ReadFailed result = IsFaultOf call Up result
IsEndOf call WriteFailed result = IsFaultOf call Down result
IsEndOf call DeskFailed result = result ≡ tool.DeskFault

-- the last line was written, and the tool ended as the followed downlink; or the desk failed after a proper prefix of
-- the line
abbrev pub TellsLast : ℕ → FollowEnd → DeskState → DeskState → ToolEnd → Type 0
TellsLast call end desk desk' result =
    (IsEndOf call end result × Tells desk desk' (Ok tt) (last_text call end))
    ⊎ ((result ≡ tool.DeskFault) × Tells desk desk' (Err (record {})) (last_text call end))

-- the whole command, whatever fails: the downlink is followed, and then its last line is printed
pub record FollowRun (before now : ℕ → Side → LineState) (desk desk' : DeskState) (call want : ℕ) (result : ToolEnd) : Type 0 where
  pub end : FollowEnd
  pub middle : DeskState
  pub follows : Follows (before call Up) (now call Up) (before call Down) (now call Down) desk middle want end
  pub others : AllButTwo before now call Up Down
  pub tells : TellsLast call end middle desk' result

-- The status is 0, 4 or 6. With 4 a fault of writing to the desk was counted, with 6 a fault of one of the two lines.
-- If the desk's count grew, the status is 4. If a line's count grew, it is 6 or 4.
pub record HasCauses (up up' down down' : LineState) (desk desk' : DeskState) (status : ℕ) : Type 0 where
  pub known : (status ≡ 0) ⊎ (status ≡ 4) ⊎ (status ≡ 6)
  pub desk_failed : status ≡ 4 → Rose desk.write_faults desk'.write_faults
  pub desk_rose : desk.write_faults < desk'.write_faults → status ≡ 4
  pub line_failed : status ≡ 6 → Rose up.faults up'.faults ⊎ Rose down.faults down'.faults
  pub line_rose : (up.faults < up'.faults) ⊎ (down.faults < down'.faults) → (status ≡ 4) ⊎ (status ≡ 6)

-- the same for the call's lines among all lines
abbrev pub FollowCauses : (ℕ → Side → LineState) → (ℕ → Side → LineState) → DeskState → DeskState → ℕ → ℕ → Type 0
FollowCauses before now desk desk' call status = HasCauses (before call Up) (now call Up) (before call Down) (now call Down) desk desk' status

-- no fault was counted, of the two lines or of writing to the desk
pub record AreCalm (up up' down down' : LineState) (desk desk' : DeskState) : Type 0 where
  pub up_calm : IsCalm up.faults up'.faults
  pub down_calm : IsCalm down.faults down'.faults
  pub desk_calm : IsCalm desk.write_faults desk'.write_faults

-- The result of the command if the incoming line had `octets` to come, and the outgoing line held `held` and the desk
-- `text`: the answer of each whole period, a line of text for each frame found in them, and the last line. `rest` is
-- not read.
pub record LeavesFollowed (call want : ℕ) (up' down' : LineState) (desk' : DeskState) (octets held text : List ℕ) (status : ℕ) : Type 0 where
  pub periods : List (List ℕ)
  pub heard : List (List FoundFrame)
  pub last : List ℕ
  pub rest : List ℕ
  pub split : octets ≡ concat periods ++ last ++ rest
  pub whole : ArePeriods periods
  pub few : length (concat periods ++ last) ≤ 40 * (2 ^ 32 - 1)
  pub are_heard : AreHeard (reverse periods) heard
  pub less : length last < 40
  pub at_end : (rest ≡ []) ⊎ ((length periods ≡ 2 ^ 32 - 1) × (last ≡ []))
  pub up_holds : up'.to_come ≡ Some rest
  pub down_holds : down'.written ≡ Some (held ++ sent_up want heard)
  pub desk_holds : desk'.written ≡ Some (text ++ (listed heard ++ last_text call (Done (length (all_of heard)) (length last))))
  pub done : status ≡ 0

-- the command if nothing failed, and the content of its lines and of the desk is known
abbrev pub CleanFollow : (ℕ → Side → LineState) → (ℕ → Side → LineState) → DeskState → DeskState → ℕ → ℕ → ℕ → Type 0
CleanFollow before now desk desk' call want status =
    AreCalm (before call Up) (now call Up) (before call Down) (now call Down) desk desk' →
    (octets held text : List ℕ) → (before call Up).to_come ≡ Some octets → (before call Down).written ≡ Some held → desk.written ≡ Some text →
    LeavesFollowed call want (now call Up) (now call Down) desk' octets held text status

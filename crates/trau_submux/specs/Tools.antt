-- The command `merge`: its text, its end and the cause of that, and the result if nothing fails (this project's
-- profile).
use Rattle.std.specs.Prelude.{◌≡◌, ◌⊎◌, ℕ, ◌+◌, ◌*◌, ◌-◌, ◌<◌, List, ◌++◌, length, take, slice_index, codes, decimal, Some, Ok, Err}
use Rattle.trau_io.specs.declared.line.Side.{Side}
use Rattle.trau_io.specs.declared.line.Side.TheVariants.{Up, Out}
use Rattle.trau_io.specs.Lines.{LineState, Rose}
use Rattle.trau_io.specs.Desks.{DeskState}
use Rattle.trau_io.specs.Texts.{failed_text}
use Rattle.trau_io.specs.Transfer.{Tells}
use Rattle.block_lines.specs.declared.end.ToolEnd.{ToolEnd}
use Rattle.block_lines.specs.declared.end.ToolEnd.TheVariants as tool
use Rattle.block_lines.specs.Command.{IsCalm}
use Rattle.trau_submux.specs.declared.join.MergeEnd.{MergeEnd}
use Rattle.trau_submux.specs.declared.join.MergeEnd.TheVariants as merge
use Rattle.trau_submux.specs.Channels.{IsMerged}
use Rattle.trau_submux.specs.Lines.{AllButFive, channel_lines}
use Rattle.trau_submux.specs.Merges.{AreRead, Merges}

-- two numbers, each after a space
abbrev pub two_text : ℕ → ℕ → List ℕ
two_text first second = codes " " ++ (decimal first ++ (codes " " ++ decimal second))

-- the text of a merge's end: how many octets of the slot were written, and how many of each channel's line are left
abbrev pub merge_text : MergeEnd → List ℕ
merge_text (merge.Done octets left) =
    codes "merge octets " ++ (decimal octets ++ (codes " left"
    ++ (two_text (slice_index left 0) (slice_index left 1) ++ (two_text (slice_index left 2) (slice_index left 3) ++ codes "\n"))))
merge_text (merge.LineFailed line) = failed_text line.call line.side

-- the end of the command, by that of its merge
abbrev pub merge_end : MergeEnd → ToolEnd
merge_end (merge.Done octets left) = tool.Done
merge_end (merge.LineFailed line) = tool.LineFault line

-- the text was written, and the tool ended so; or the desk failed after a proper prefix of the text
abbrev pub TellsText : List ℕ → ToolEnd → DeskState → DeskState → ToolEnd → Type 0
TellsText text end desk desk' result =
    ((result ≡ end) × Tells desk desk' (Ok tt) text) ⊎ ((result ≡ tool.DeskFault) × Tells desk desk' (Err (record {})) text)

-- the whole command `merge`, whatever fails
pub record MergeRun (before now : ℕ → Side → LineState) (desk desk' : DeskState) (call : ℕ) (result : ToolEnd) : Type 0 where
  pub end : MergeEnd
  pub merges : Merges (channel_lines before call Up) (channel_lines now call Up) (before call Out) (now call Out) call end
  pub others : AllButFive before now call Out Up
  pub tells : TellsText (merge_text end) (merge_end end) desk desk' result

-- The status is 0, 4 or 6. With 4 a fault of writing to the desk was counted, with 6 a fault of the slot's line or of a
-- channel's. If the desk's count grew, the status is 4. If the count of one of these lines grew, it is 6 or 4.
pub record SlotCauses (slot slot' : LineState) (channels channels' : ℕ → LineState) (desk desk' : DeskState) (status : ℕ) : Type 0 where
  pub known : (status ≡ 0) ⊎ (status ≡ 4) ⊎ (status ≡ 6)
  pub desk_failed : status ≡ 4 → Rose desk.write_faults desk'.write_faults
  pub desk_rose : desk.write_faults < desk'.write_faults → status ≡ 4
  pub line_failed : status ≡ 6 → Rose slot.faults slot'.faults ⊎ ((j : ℕ) × (j < 4) × Rose (channels j).faults (channels' j).faults)
  pub slot_rose : slot.faults < slot'.faults → (status ≡ 4) ⊎ (status ≡ 6)
  pub channel_rose : (j : ℕ) → j < 4 → (channels j).faults < (channels' j).faults → (status ≡ 4) ⊎ (status ≡ 6)

abbrev pub MergeCauses : (ℕ → Side → LineState) → (ℕ → Side → LineState) → DeskState → DeskState → ℕ → ℕ → Type 0
MergeCauses before now desk desk' call status =
    SlotCauses (before call Out) (now call Out) (channel_lines before call Up) (channel_lines now call Up) desk desk' status

-- no fault was counted, of these lines or of writing to the desk
pub record AreCalm (slot slot' : LineState) (channels channels' : ℕ → LineState) (desk desk' : DeskState) : Type 0 where
  pub slot_calm : IsCalm slot.faults slot'.faults
  pub channels_calm : (j : ℕ) → j < 4 → IsCalm (channels j).faults (channels' j).faults
  pub desk_calm : IsCalm desk.write_faults desk'.write_faults

-- the result of `merge` if the four lines had `lists` to come: the slot gained what the first `used` octets of each
-- make, as many as the shortest has, and the desk the text
pub record LeavesMerge (ups' : ℕ → LineState) (out' : LineState) (desk' : DeskState) (lists : ℕ → List ℕ) (held text : List ℕ) (status : ℕ) : Type 0 where
  pub given : ℕ → List ℕ
  pub rest : ℕ → List ℕ
  pub parts : (j : ℕ) → j < 4 → lists j ≡ given j ++ rest j
  pub channels_hold : (j : ℕ) → j < 4 → (ups' j).to_come ≡ Some (rest j)
  pub used : ℕ
  pub read : AreRead ups' given used
  pub sent : List ℕ
  pub merged : IsMerged sent (λ j. take used (given j))
  pub slot_holds : out'.written ≡ Some (held ++ sent)
  pub left : List ℕ
  pub left_are : (j : ℕ) → j < 4 → slice_index left j ≡ length (given j) - used
  pub desk_holds : desk'.written ≡ Some (text ++ merge_text (merge.Done (4 * used) left))
  pub done : status ≡ 0

abbrev pub CleanMerge : (ℕ → Side → LineState) → (ℕ → Side → LineState) → DeskState → DeskState → ℕ → ℕ → Type 0
CleanMerge before now desk desk' call status =
    AreCalm (before call Out) (now call Out) (channel_lines before call Up) (channel_lines now call Up) desk desk' →
    (lists : ℕ → List ℕ) (held text : List ℕ) → ((j : ℕ) → j < 4 → (before (call + j) Up).to_come ≡ Some (lists j)) → (before call Out).written ≡ Some held →
    desk.written ≡ Some text →
    LeavesMerge (channel_lines now call Up) (now call Out) desk' lists held text status

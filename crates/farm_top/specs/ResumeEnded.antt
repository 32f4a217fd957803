-- What the command `resume` leaves if its mark and orders are known, whatever fails (this project's profile).
use Rattle.std.specs.Prelude.{◌≡◌, ◌≢◌, ◌⊎◌, ℕ, max, List, ◌++◌, [], Some}
use Rattle.std.specs.Io.KnownBytes.{Appends}
use Rattle.trau_io.specs.declared.line.Line.{Line}
use Rattle.trau_io.specs.declared.line.Side.{Side}
use Rattle.trau_io.specs.declared.line.Side.TheVariants.{Down, Out}
use Rattle.trau_io.specs.Lines.{LineState}
use Rattle.trau_io.specs.Desks.{DeskState}
use Rattle.trau_orders.specs.declared.order.Order.{Order}
use Rattle.round_lines.specs.Rounds.{IsIncoming}
use Rattle.farm_checkpoint.specs.Marks.{MarkView}
use Rattle.run_spec.specs.Run.{Run, IsOpened}
use Rattle.run_spec.specs.Lines.{out_of_call, down_of_call}
use Rattle.run_spec.specs.Mark.{Joins, cut_at, marked_calls}
use Rattle.farm_run.specs.Runs.{AreTold, FailedShort, IsRunOver, KeepsSides, Leaves, OnlyOpenedFail, ReadToEnd, ReadsOn, TellsFailed, is_listed, none_fails}
use Rattle.farm_run.specs.Resuming.{FindsDifference, LeavesFrom}
use Rattle.command_words.specs.declared.asked.Settings.{Settings}
use Rattle.farm_top.specs.Farm.{TextOut, pace_of, status_of_run}
use Rattle.farm_top.specs.FarmCauses.{SomeOpenedRose}
use Rattle.farm_top.specs.FarmEnded.{GainsFront, report_told}
use Rattle.farm_top.specs.Headline.{HeadlineFrom}
use Rattle.farm_top.specs.Resume.{differs_text}

-- A run of these orders from this mark on that came to its end, whatever failed. It ends at the mark's period or the
-- number of periods asked for, whichever is greater.
pub record ResumeEnded (mark : MarkView) (orders : List Order) (s : Settings) (before now : ℕ → Side → LineState) (desk desk' : DeskState)
    (status : ℕ) : Type 0 where
  -- the lines that failed, each once: none with status 0, some with 6
  pub failed : List Line
  pub told : TellsFailed before now failed
  pub status_is : (status ≡ 4) ⊎ (status ≡ status_of_run failed)
  -- incoming lines were only read, from the start, and outgoing lines only written
  pub sides : KeepsSides before now
  pub reads : ReadsOn before now
  -- the outgoing lines have what the run of these orders, over what the lines gave, gives them, without the octets of
  -- the periods before the mark's
  pub leaves : (r : Run) → IsRunOver orders (max mark.period s.periods) (is_listed failed) before now r → LeavesFrom r mark.period (is_listed failed) before now
  pub headline : (r : Run) → IsRunOver orders (max mark.period s.periods) (is_listed failed) before now r →
      HeadlineFrom r mark.period (is_listed failed) before now
  -- the run to the mark's period has the mark's calls
  pub same_mark : (r : Run) → IsRunOver orders mark.period (is_listed failed) before now r → marked_calls r ≡ mark.calls
  -- the desk gained exactly the text of the whole run's report, with the lines that failed; with status 4 a proper
  -- prefix of it
  pub text : status ≢ 4 → (r : Run) → IsRunOver orders (max mark.period s.periods) (is_listed failed) before now r →
      Appends desk.written desk'.written (report_told r failed)
  pub front : status ≡ 4 → (r : Run) → IsRunOver orders (max mark.period s.periods) (is_listed failed) before now r →
      GainsFront desk.written desk'.written (report_told r failed)
  -- the text was read to its end
  pub all_read : desk'.to_come ≡ Some []
  -- each line that failed is one of a call that the run opened; so with status 6 a fault of such a line was counted
  pub opened : (r : Run) → IsRunOver orders (max mark.period s.periods) (is_listed failed) before now r → OnlyOpenedFail r (is_listed failed)
  pub line_failed : status ≡ 6 → (r : Run) → IsRunOver orders (max mark.period s.periods) (is_listed failed) before now r → SomeOpenedRose r before now
  -- an incoming line that failed gave fewer octets than the call takes of it up to some period, at most a batch after
  -- the call's end
  pub short : (r : Run) → IsRunOver orders (max mark.period s.periods) (is_listed failed) before now r → FailedShort r s.batch (is_listed failed)
  -- of a call that its lines ended, exactly the octets up to such a period were read of its incoming lines that didn't
  -- fail
  pub read_past : (r : Run) → IsRunOver orders (max mark.period s.periods) (is_listed failed) before now r → ReadToEnd r s.batch (is_listed failed) now
  -- if the contents of the incoming lines are known, such runs exist, up to any number of periods
  pub there : AreTold before → (periods : ℕ) → (r : Run) × IsRunOver orders periods (is_listed failed) before now r

-- The mark isn't that of the run of these orders up to the mark's period, over what the lines gave. No outgoing line
-- was used.
pub record ResumeDiffers (mark : MarkView) (orders : List Order) (s : Settings) (before now : ℕ → Side → LineState) (desk desk' : DeskState) : Type 0 where
  -- the least call number whose entries differ in mark and run, or that only one of them has
  pub call : ℕ
  pub finds : FindsDifference orders (pace_of s) mark before now call
  -- the desk gained the text with this number, or, if it failed, a proper prefix
  pub read : DeskState
  pub written : read.written ≡ desk.written
  pub write_faults : read.write_faults ≡ desk.write_faults
  pub text_out : TextOut read desk' (differs_text call)
  -- the text was read to its end
  pub all_read : desk'.to_come ≡ Some []

-- A line gained these octets in two parts: a prefix of them from `first` to `saved`, and the others from `before` to
-- `now`.
pub record Together (first saved before now : LineState) (octets : List ℕ) : Type 0 where
  pub front : List ℕ
  pub rest : List ℕ
  pub gained_first : Appends first.written saved.written front
  pub gained : Appends before.written now.written rest
  pub whole : front ++ rest ≡ octets

-- What a run of these orders leaves from the mark on if no line's fault is counted. Together with what the run up to
-- the mark's period leaves, it is what one run writes. The first part is any run up to the mark's period over lines
-- whose incoming ones tell the same: `first` are the lines before it, `saved` those after it.
pub record JoinsMarked (orders : List Order) (r : Run) (from : ℕ) (before now : ℕ → Side → LineState) : Type 0 where
  pub leaves : LeavesFrom r from none_fails before now
  pub headline : HeadlineFrom r from none_fails before now
  pub joins : Joins r from
  -- the run of these orders over the lines of the first part is the whole run, cut at the mark's period
  pub first_part : (first saved : ℕ → Side → LineState) → ((c : ℕ) (s : Side) → IsIncoming s → (first c s).to_come ≡ (before c s).to_come) →
      IsRunOver orders from none_fails first saved (cut_at from r)
  -- what the first part leaves on an outgoing line of a call that the whole run opens, followed by what was gained
  -- here, is what the whole run gives it
  pub out_together : (first saved : ℕ → Side → LineState) → Leaves (cut_at from r) none_fails first saved → (c : ℕ) → IsOpened r c →
      Together (first c Out) (saved c Out) (before c Out) (now c Out) (out_of_call r c)
  pub down_together : (first saved : ℕ → Side → LineState) → Leaves (cut_at from r) none_fails first saved → (c : ℕ) → IsOpened r c →
      Together (first c Down) (saved c Down) (before c Down) (now c Down) (down_of_call r c)
  -- the lines of all other calls are unchanged in both parts
  pub others : (first saved : ℕ → Side → LineState) → Leaves (cut_at from r) none_fails first saved → (c : ℕ) (s : Side) → (IsOpened r c → ⊥) →
      (saved c s ≡ first c s) × (now c s ≡ before c s)

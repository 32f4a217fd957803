-- The commands `run` and `save` over the files of an honest folder (this project's profile).
use Rattle.std.specs.Prelude.{◌≡◌, ◌⊎◌, ◌≤◌, ℕ, ◌*◌, Bool, List, take, Option, None, Some, Ok}
use Rattle.trau_bits.specs.Bits.{octets_of}
use Rattle.trau_io.specs.declared.line.Line.{Line}
use Rattle.trau_io.specs.declared.line.Side.{Side}
use Rattle.trau_io.specs.Desks.{DeskState}
use Rattle.trau_io.specs.Lines.{LineState}
use Rattle.trau_orders.specs.declared.order.Order.{Order}
use Rattle.call_spec.specs.Down.{down}
use Rattle.call_spec.specs.Out.{out}
use Rattle.farm_orders.specs.Reading.{AnswersTold, ReadsOrders}
use Rattle.run_spec.specs.Lines.{down_of_call, out_of_call}
use Rattle.run_spec.specs.Run.{Run, worked_to}
use Rattle.run_calls_spec.specs.Handed.{GoesOut, HandsOver}
use Rattle.run_calls_spec.specs.Whole.{whole_call}
use Rattle.farm_run.specs.Fronts.{StopsAt}
use Rattle.farm_run.specs.Runs.{AreFailures, TellsFailed, is_listed}
use Rattle.command_words.specs.declared.asked.Settings.{Settings}
use Rattle.farm_top.specs.Farm.{TellsRun, status_of_run}
use Rattle.farm_top.specs.FarmEnded.{report_told}
use Rattle.farm_top.specs.Save.{mark_told}
use Rattle.farm_top.specs.Words.{AreCommand, AsksForRun, AsksForSave}
use Rattle.trau_files.specs.Contents.{contents_if, first_if}
use Rattle.trau_files.specs.Disk.{Disk, KeepsNames}
use Rattle.trau_files.specs.Folder.{Operations}
use Rattle.trau_files.specs.Honest.{IsHonest}
use Rattle.trau_files.specs.Trunk.{TrunkFiles}
use Rattle.files_top.specs.OnDisk.{AreGiven, FilesStay, KeepsRecordings, LeftOnDisk, run_on}

-- The headline over files: each outgoing file of each call that the run opens has exactly the octets that the
-- definition of the call as a whole gives, if it gives any; that of a line that failed has a proper prefix. In bridges
-- each good speech frame's 260 bits go out unchanged, in order and once.
pub record HeadlineOnDisk (start now : Disk) (fails : ℕ → Side → Bool) (r : Run) : Type 0 where
  pub left : LeftOnDisk start now fails r (λ c. out (whole_call r c)) (λ c. octets_of (down (whole_call r c)))
  pub hands_over : HandsOver r
  pub goes_out : GoesOut r

-- these orders were read from the desk
pub record AreRead (orders : List Order) (desk read : DeskState) : Type 0 where
  pub reads : ReadsOrders desk read (Ok orders)
  pub told : (text : List ℕ) → desk.to_come ≡ Some text → AnswersTold text (Ok orders)

-- A whole run, whichever lines failed, from the files `start` to the files `now`, and from the lines `before` to the
-- lines `after`. `text_of` is what is printed, by the run and the lines that failed.
pub record RunsOnDisk (text_of : Run → List Line → List ℕ) (s : Settings) (start now : Disk) (before after : ℕ → Side → LineState) (desk desk' : DeskState)
    (status : ℕ) : Type 0 where
  pub orders : List Order
  pub read : DeskState
  pub are_read : AreRead orders desk read
  -- the lines that failed, by their fault counts, none with status 0 and some with 6; and how many octets each incoming
  -- line gave
  pub failed : List Line
  pub told : TellsFailed before after failed
  pub gave : ℕ → Side → ℕ
  pub given : AreGiven start gave after
  pub status_is : (status ≡ status_of_run failed) ⊎ (status ≡ 4) ⊎ (status ≡ 5)
  -- the files have what the run of these orders over the files at the start gives, and its text is printed
  pub headline : HeadlineOnDisk start now (is_listed failed) (run_on orders s.periods start (is_listed failed) gave)
  pub text : TellsRun failed (text_of (run_on orders s.periods start (is_listed failed) gave) failed) read desk' status

-- A run that ran out of memory. It stopped at one period, the same for all calls: the files have what the run gives up
-- to there, and that much of the incoming lines was read.
pub record CutOnDisk (s : Settings) (start now : Disk) (before after : ℕ → Side → LineState) (desk : DeskState) : Type 0 where
  pub orders : List Order
  pub read : DeskState
  pub are_read : AreRead orders desk read
  pub fails : ℕ → Side → Bool
  pub told : AreFailures fails before after
  pub gave : ℕ → Side → ℕ
  pub given : AreGiven start gave after
  -- this period: exactly the octets of the periods before it were read, unless the call ended before because of its
  -- lines
  pub clock : ℕ
  pub within : clock ≤ s.periods
  pub stops : StopsAt (run_on orders s.periods start fails gave) clock fails before after
  pub left : LeftOnDisk start now fails (run_on orders s.periods start fails gave)
      (λ c. take (160 * worked_to (run_on orders s.periods start fails gave) clock c) (out_of_call (run_on orders s.periods start fails gave) c))
      (λ c. take (40 * worked_to (run_on orders s.periods start fails gave) clock c) (down_of_call (run_on orders s.periods start fails gave) c))

-- What `run` or `save` leaves in the files, whatever fails: with status 0, 4 or 6 what a whole run leaves; with 5 maybe
-- what a run leaves that ran out of memory; or, with 2, 3, 5 and 7, all as it was.
abbrev pub RunLeaves : (Run → List Line → List ℕ) → Settings → Disk → Disk → (ℕ → Side → LineState) → (ℕ → Side → LineState) → DeskState → DeskState → ℕ →
    Type 0
RunLeaves text_of s start now before after desk desk' status =
    RunsOnDisk text_of s start now before after desk desk' status
    ⊎ ((status ≡ 5) × CutOnDisk s start now before after desk)
    ⊎ (((status ≡ 2) ⊎ (status ≡ 3) ⊎ (status ≡ 5) ⊎ (status ≡ 7)) × FilesStay start now)

-- What a command that these words ask for leaves in the files.
pub record CommandLeaves (words : List (List ℕ)) (start now : Disk) (before after : ℕ → Side → LineState) (desk desk' : DeskState) (status : ℕ) : Type 0 where
  pub run : (s : Settings) → AsksForRun words s → RunLeaves report_told s start now before after desk desk' status
  pub save : (s : Settings) → AsksForSave words s → RunLeaves mark_told s start now before after desk desk' status
  -- words that are no command change no file; no command changes one that no outgoing line's name leads to
  pub unused : (AreCommand words → ⊥) → FilesStay start now
  pub names : KeepsNames start now
  pub others : KeepsRecordings start now

-- the same, if the folder is known to be an honest one
abbrev pub CommandLeavesIf : {D F : Type 0} {does : Operations D F} → Option (IsHonest does) → List (List ℕ) → Disk → TrunkFiles D F → DeskState → DeskState → ℕ → Type 0
CommandLeavesIf None words start t desk desk' status = Unit {0}
CommandLeavesIf (Some honest) words start t desk desk' status =
    CommandLeaves words start (honest.disk t.files.folder) (first_if (Some honest) start) (contents_if (Some honest) start t) desk desk' status

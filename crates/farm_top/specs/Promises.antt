-- What the top function promises of each command (this project's profile).
use Rattle.std.specs.Prelude.{◌≡◌, ◌≢◌, ◌⊎◌, ℕ, max, List, ◌++◌, Some}
use Rattle.trau_io.specs.declared.line.Side.{Side}
use Rattle.trau_io.specs.Lines.{LineState}
use Rattle.trau_io.specs.Desks.{DeskState}
use Rattle.trau_orders.specs.declared.order.Order.{Order}
use Rattle.trau_orders.specs.Text.{text_lines, AreLines, IsWithin}
use Rattle.round_lines.specs.Rounds.{IsIncoming}
use Rattle.farm_checkpoint.specs.Marks.{MarkView}
use Rattle.farm_orders.specs.Marked.{TellsMarked}
use Rattle.run_spec.specs.Run.{Run, IsOpened}
use Rattle.run_spec.specs.Mark.{marked_calls}
use Rattle.farm_run.specs.Runs.{IsRunOver, Leaves, NoneRose, none_fails}
use Rattle.farm_run.specs.Fronts.{IsCutShort}
use Rattle.farm_run.specs.Resuming.{IsResumeCutShort}
use Rattle.farm_tools.specs.declared.tool.Tool.{Tool}
use Rattle.farm_tools.specs.declared.tool.Tool.TheVariants.{Encode}
use Rattle.farm_tools.specs.Machines.{machine_of}
use Rattle.frame_listing.specs.Machine.{PrintsAllYields, frames_machine}
use Rattle.trau_submux.specs.Splits.{split_machine}
use Rattle.command_words.specs.declared.asked.Settings.{Settings}
use Rattle.command_words.specs.declared.live.LiveSettings.{LiveSettings}
use Rattle.farm_top.specs.Drill.{DrillEnds}
use Rattle.farm_top.specs.Farm.{CarriesRun}
use Rattle.farm_top.specs.FarmCauses.{RunCauses}
use Rattle.farm_top.specs.FarmClean.{CleanFarm, IsCalmRun, TellsOrders}
use Rattle.farm_top.specs.FarmEnded.{RunEnded}
use Rattle.farm_top.specs.Follow.{FollowEnds}
use Rattle.farm_top.specs.Headline.{Headline}
use Rattle.farm_top.specs.Lines.{CommandEnds, MergeEnds}
use Rattle.farm_top.specs.Live.{LiveEnds}
use Rattle.farm_top.specs.Resume.{CarriesResume}
use Rattle.farm_top.specs.ResumeCauses.{ResumeCauses}
use Rattle.farm_top.specs.ResumeEnded.{JoinsMarked, ResumeDiffers, ResumeEnded}
use Rattle.farm_top.specs.Save.{CarriesSave, CleanSave, SaveEnded}
use Rattle.farm_top.specs.Words.{AsksFor, AsksForFollow, AsksForFrames, AsksForMerge, AsksForSave, AsksForSplit}

-- `run` with these settings. `orders` are those of the desk, if they are known. If they aren't, the field `run` says
-- what is done.
pub record RunPromise (s : Settings) (before now : ℕ → Side → LineState) (desk desk' : DeskState) (status : ℕ) : Type 0 where
  -- what it does, whatever fails, and why the status is what it is
  pub run : CarriesRun s before now desk desk' status
  pub run_causes : RunCauses before now desk desk' status
  -- if no fault is counted, orders in the grammar and within the limits are run to the end, unless memory runs out
  pub run_complete : (orders : List Order) → TellsOrders orders desk → IsCalmRun before now desk desk' → (status ≡ 0) ⊎ (status ≡ 5)
  -- if memory doesn't run out either, the lines and the desk have gained exactly what the run of these orders gives
  pub run_clean : (orders : List Order) → TellsOrders orders desk → IsCalmRun before now desk desk' → status ≢ 5 →
      (r : Run) → IsRunOver orders s.periods none_fails before now r → CleanFarm r before now desk desk' status
  -- whichever lines fail and whatever the desk does, the lines have what the run of these orders, over what the lines
  -- gave, leaves on them, with the headline; the desk has gained the report or a proper prefix of it
  pub run_ended : (orders : List Order) → TellsOrders orders desk → (status ≡ 0) ⊎ (status ≡ 4) ⊎ (status ≡ 6) →
      RunEnded orders s before now desk desk' status
  -- if memory ran out, the run stopped at one period: each outgoing line has gained exactly the octets of the periods
  -- before it, or, if it failed, a proper prefix of these; no incoming line was read past that period, nor more than a
  -- batch past its call's end; the lines of calls that the run doesn't open are unchanged
  pub run_cut_short : (orders : List Order) → TellsOrders orders desk → status ≡ 5 → IsCutShort orders s.batch s.periods before now
  -- if no line's fault is counted, the lines have exactly what the run gives them
  pub run_leaves : (orders : List Order) → TellsOrders orders desk → NoneRose before now → (status ≡ 0) ⊎ (status ≡ 4) →
      (r : Run) → IsRunOver orders s.periods none_fails before now r → Leaves r none_fails before now
  -- The headline. Whatever the chunk sizes of reads and writes, the orders, the workers, batch and slices and the
  -- interleaving of the workers, the octets written on a call's outgoing lines are those that the definition of the
  -- call as a whole gives. They depend on the call's own incoming lines and orders and, only between a bridge's
  -- reported start and end, on its partner's uplink. There each good speech frame's 260 bits go out unchanged, in order
  -- and once.
  pub headline : (orders : List Order) → TellsOrders orders desk → NoneRose before now → (status ≡ 0) ⊎ (status ≡ 4) →
      (r : Run) → IsRunOver orders s.periods none_fails before now r → Headline r none_fails before now

-- `save`, a run to a mark: the promise is that of `run`, except for the text, which is the mark of the run or the lines
-- that failed.
pub record SavePromise (s : Settings) (before now : ℕ → Side → LineState) (desk desk' : DeskState) (status : ℕ) : Type 0 where
  pub save : CarriesSave s before now desk desk' status
  pub save_causes : RunCauses before now desk desk' status
  pub save_complete : (orders : List Order) → TellsOrders orders desk → IsCalmRun before now desk desk' → (status ≡ 0) ⊎ (status ≡ 5)
  pub save_clean : (orders : List Order) → TellsOrders orders desk → IsCalmRun before now desk desk' → status ≢ 5 →
      (r : Run) → IsRunOver orders s.periods none_fails before now r → CleanSave r before now desk desk' status
  pub save_ended : (orders : List Order) → TellsOrders orders desk → (status ≡ 0) ⊎ (status ≡ 4) ⊎ (status ≡ 6) →
      SaveEnded orders s before now desk desk' status
  pub save_cut_short : (orders : List Order) → TellsOrders orders desk → status ≡ 5 → IsCutShort orders s.batch s.periods before now
  pub save_leaves : (orders : List Order) → TellsOrders orders desk → NoneRose before now → (status ≡ 0) ⊎ (status ≡ 4) →
      (r : Run) → IsRunOver orders s.periods none_fails before now r → Leaves r none_fails before now
  pub save_headline : (orders : List Order) → TellsOrders orders desk → NoneRose before now → (status ≡ 0) ⊎ (status ≡ 4) →
      (r : Run) → IsRunOver orders s.periods none_fails before now r → Headline r none_fails before now

-- The desk of a `resume` has what a `save` of these orders printed, followed by a text of the same orders, and its
-- incoming lines hold what those of the `save` did. `first` and `saved` are the lines before and after the `save`,
-- `asked` and `printed` its desk.
pub record FollowsSave (orders : List Order) (before : ℕ → Side → LineState) (desk : DeskState) : Type 0 where
  -- the `save` came to its end, and no fault was counted
  pub words : List (List ℕ)
  pub settings : Settings
  pub asks : AsksForSave words settings
  pub first : ℕ → Side → LineState
  pub saved : ℕ → Side → LineState
  pub asked : DeskState
  pub printed : DeskState
  pub promise : SavePromise settings first saved asked printed 0
  pub told : TellsOrders orders asked
  pub calm : IsCalmRun first saved asked printed
  -- the contents of the incoming lines of the calls that it opened are known, and are the same here
  pub run : Run
  pub over : IsRunOver orders settings.periods none_fails first saved run
  pub same : (c : ℕ) (side : Side) → IsOpened run c → IsIncoming side → (before c side).to_come ≡ (first c side).to_come
  -- what it printed is known, and so is what follows it here
  pub written : List ℕ
  pub text : List ℕ
  pub written_before : asked.written ≡ Some written
  pub written_after : printed.written ≡ Some (written ++ text)
  pub rest : List ℕ
  pub to_come : desk.to_come ≡ Some (text ++ rest)
  pub within : IsWithin rest
  pub spelled : AreLines (text_lines rest) orders

-- `resume`, a run from a mark on. It ends at the mark's period or the number of periods asked for, whichever is
-- greater.
pub record ResumePromise (s : Settings) (before now : ℕ → Side → LineState) (desk desk' : DeskState) (status : ℕ) : Type 0 where
  -- what it does, whatever fails, and why the status is what it is
  pub resume : CarriesResume s before now desk desk' status
  pub resume_causes : ResumeCauses before now desk desk' status
  -- if no fault is counted, a mark and orders in the grammar and within the limits are run to the end if the mark has
  -- the calls of the run to its period; otherwise the status is 9. Either may run out of memory.
  pub resume_complete : (mark : MarkView) (orders : List Order) → TellsMarked mark orders desk → IsCalmRun before now desk desk' →
      (r : Run) → IsRunOver orders mark.period none_fails before now r →
      (marked_calls r ≡ mark.calls → (status ≡ 0) ⊎ (status ≡ 5)) × (marked_calls r ≢ mark.calls → (status ≡ 9) ⊎ (status ≡ 5))
  -- so what `save` printed is taken again: if no fault is counted here either, the run comes to its end, or runs out of
  -- memory
  pub resume_takes_save : (orders : List Order) → FollowsSave orders before desk → IsCalmRun before now desk desk' → (status ≡ 0) ⊎ (status ≡ 5)
  -- what each status leaves: with 0, 4 and 6 the lines have what the run of these orders, over what the lines gave,
  -- leaves on them, without the octets of the periods before the mark's; with 0 and 6 the text is the whole run's
  -- report
  pub resume_ended : (mark : MarkView) (orders : List Order) → TellsMarked mark orders desk → (status ≡ 0) ⊎ (status ≡ 4) ⊎ (status ≡ 6) →
      ResumeEnded mark orders s before now desk desk' status
  pub resume_differs : (mark : MarkView) (orders : List Order) → TellsMarked mark orders desk → status ≡ 9 →
      ResumeDiffers mark orders s before now desk desk'
  pub resume_cut_short : (mark : MarkView) (orders : List Order) → TellsMarked mark orders desk → status ≡ 5 →
      IsResumeCutShort orders s.batch (max mark.period s.periods) mark before now
  -- If no line's fault is counted: any run of the same orders to the mark's period, over lines whose incoming ones tell
  -- the same (that of `save`, by `save_leaves`), is this run, cut at this period. What it leaves on a line, followed by
  -- what was gained here, is what the whole run writes there.
  pub resume_joins : (mark : MarkView) (orders : List Order) → TellsMarked mark orders desk → NoneRose before now → (status ≡ 0) ⊎ (status ≡ 4) →
      (r : Run) → IsRunOver orders (max mark.period s.periods) none_fails before now r → JoinsMarked orders r mark.period before now

-- `drill` of this number of calls, drawn from a seed. It uses no line of the trunk. Its text is a function of the seed,
-- the calls and the periods. Its status is never that of a failed line.
pub record DrillPromise (seed calls : ℕ) (s : Settings) (before now : ℕ → Side → LineState) (desk desk' : DeskState) (status : ℕ) : Type 0 where
  pub drill : DrillEnds seed calls s.periods before now desk desk' status
  pub drill_never_fails : status ≢ 6

-- `live`. It uses no line of the trunk either. Its text is a function of the seed, the calls and the periods: the sums
-- of each call as a whole, whatever the callers, the room of the inboxes and the interleaving of the threads.
pub record LivePromise (s : LiveSettings) (before now : ℕ → Side → LineState) (desk desk' : DeskState) (status : ℕ) : Type 0 where
  pub live : LiveEnds s.seed s.calls s.periods before now desk desk' status

-- The commands on lines that these words ask for.
pub record LinePromise (words : List (List ℕ)) (before now : ℕ → Side → LineState) (desk desk' : DeskState) (status : ℕ) : Type 0 where
  -- What each does, whatever fails, and why the status is what it is. If nothing fails and the contents of desk and
  -- lines are known, `relay`, `decode`, `encode`, `frames` and `split` have left exactly what their block machine makes
  -- of the incoming line's blocks, up to the first refused one, and of the octets left at its end, and `merge` and
  -- `follow` what their definitions say.
  pub command : (t : Tool) (c : ℕ) → AsksFor words t c → CommandEnds (machine_of t) before now desk desk' c status
  pub frames : (c : ℕ) → AsksForFrames words c → CommandEnds frames_machine before now desk desk' c status
  -- what `frames` prints of the line's periods are all yields of their bits
  pub yields : PrintsAllYields
  pub split : (c : ℕ) → AsksForSplit words c → CommandEnds split_machine before now desk desk' c status
  -- `encode`, `frames` and `split` refuse no block
  pub never_refused : (c : ℕ) → AsksFor words Encode c ⊎ AsksForFrames words c ⊎ AsksForSplit words c → status ≢ 8
  pub merge : (c : ℕ) → AsksForMerge words c → MergeEnds before now desk desk' c status
  pub follow : (c want : ℕ) → AsksForFollow words c want → FollowEnds before now desk desk' c want status

-- What a run leaves in the files of an honest folder, from the promises of the top function.
use Rattle.std.proofs.Common.{◌≡◌, ◌⊎◌, ℕ, ◌*◌, List, take, Option, None, Some, Result, Ok, Err, ap, inl, inr, subst}
use Rattle.trau_bits.specs.Bits.{octets_of}
use Rattle.trau_io.specs.declared.line.Line.{Line}
use Rattle.trau_io.specs.declared.line.Side.{Side}
use Rattle.trau_io.specs.Desks.{DeskState}
use Rattle.trau_io.specs.Indices.{index_of_line}
use Rattle.trau_io.specs.Lines.{LineState}
use Rattle.trau_orders.specs.declared.order.Order.{Order}
use Rattle.farm_orders.specs.declared.fault.OrdersFault.{OrdersFault}
use Rattle.farm_orders.specs.declared.fault.OrdersFault.TheVariants as fault
use Rattle.farm_orders.specs.Reading.{AnswersTold, ReadsOrders}
use Rattle.call_spec.specs.Down.{down}
use Rattle.call_spec.specs.Out.{out}
use Rattle.run_spec.specs.Lines.{down_of_call, out_of_call}
use Rattle.run_spec.specs.Run.{Run, worked_to}
use Rattle.run_calls_spec.specs.Whole.{whole_call}
use Rattle.farm_run.specs.Fronts.{IsCutShort}
use Rattle.farm_run.specs.Runs.{IsRunOver, Leaves, TellsFailed, is_listed}
use Rattle.command_words.specs.declared.asked.Settings.{Settings}
use Rattle.farm_report.specs.Lines.{report_text}
use Rattle.farm_top.specs.Farm.{CarriesRun, FollowsReading, RefusesOrders, RunsOrders, TellsRun, status_of_run}
use Rattle.farm_top.specs.FarmEnded.{report_told}
use Rattle.farm_top.specs.Headline.{Headline}
use Rattle.farm_top.specs.Save.{CarriesSave, SavesOrders, mark_told, saved_text}
use Rattle.trau_files.specs.Contents.{Knows, KnowsIf, contents_if, first_if}
use Rattle.trau_files.specs.Disk.{Disk}
use Rattle.trau_files.specs.Folder.{Operations}
use Rattle.trau_files.specs.Holds.{line_at}
use Rattle.trau_files.specs.Honest.{IsHonest}
use Rattle.trau_files.specs.Trunk.{TrunkFiles}
use Rattle.files_top.specs.OnDisk.{run_on}
use Rattle.files_top.specs.Promises.{TopPromise}
use Rattle.files_top.specs.RunOnDisk.{AreRead, CommandLeavesIf, CutOnDisk, RunLeaves, RunsOnDisk}
use Rattle.files_top.proofs.Disks.{are_given, files_stay, keeps_recordings, left_on_disk, over_lines}

-- why no order is run
abbrev IsUnused : ℕ → Type 0
IsUnused status = (status ≡ 2) ⊎ (status ≡ 3) ⊎ (status ≡ 5) ⊎ (status ≡ 7)

refused_with : (fault : OrdersFault) (desk desk' : DeskState) (status : ℕ) → RefusesOrders fault desk desk' status → IsUnused status
refused_with fault.Unread desk desk' status refuses = inr (inl refuses.status_is)
refused_with fault.TooLong desk desk' status refuses = inr (inr (inr refuses.status_is))
refused_with (fault.Line n) desk desk' status refuses = elim refuses [ inl line ↦ inl line.status_is | inr lacks ↦ inr (inr (inl lacks.status_is)) ]
refused_with fault.Memory desk desk' status refuses = inr (inr (inl refuses.status_is))

status_due : (failed : List Line) (text : List ℕ) (desk desk' : DeskState) (status : ℕ) → TellsRun failed text desk desk' status →
    (status ≡ status_of_run failed) ⊎ (status ≡ 4) ⊎ (status ≡ 5)
status_due failed text desk desk' status tells =
    elim tells [ inl (inl due) ↦ inl due.0 | inl (inr four) ↦ inr (inl four.0) | inr lacks ↦ inr (inr lacks.status_is) ]

module _ {D F : Type 0} {does : Operations D F} (honest : IsHonest does) (start : Disk) (t : TrunkFiles D F) (knows : Knows honest start t) (s : Settings)
    (desk desk' : DeskState) (status : ℕ) where
  -- a run of orders that were read
  ended : (text_of : Run → List Line → List ℕ) (orders : List Order) (failed : List Line) (text : List ℕ) (read : DeskState) → AreRead orders desk read →
      TellsFailed (first_if (Some honest) start) (contents_if (Some honest) start t) failed →
      ((r : Run) → IsRunOver orders s.periods (is_listed failed) (first_if (Some honest) start) (contents_if (Some honest) start t) r →
      Leaves r (is_listed failed) (first_if (Some honest) start) (contents_if (Some honest) start t)) →
      ((r : Run) → IsRunOver orders s.periods (is_listed failed) (first_if (Some honest) start) (contents_if (Some honest) start t) r →
      Headline r (is_listed failed) (first_if (Some honest) start) (contents_if (Some honest) start t)) →
      ((r : Run) → IsRunOver orders s.periods (is_listed failed) (first_if (Some honest) start) (contents_if (Some honest) start t) r → text ≡ text_of r failed) →
      TellsRun failed text read desk' status → RunsOnDisk text_of s start (honest.disk t.files.folder) (first_if (Some honest) start) (contents_if (Some honest) start t) desk desk' status
  ended text_of orders failed text read are_read told leaves headline texts tells =
      let gave : ℕ → Side → ℕ = λ c side. (line_at t.lines (index_of_line c side)).read in
      let r : Run = run_on orders s.periods start (is_listed failed) gave in
      let over = over_lines honest start t knows orders s.periods (is_listed failed) in
      let lines = headline r over in
      record {
        orders = orders;
        read = read;
        are_read = are_read;
        failed = failed;
        told = told;
        gave = gave;
        given = are_given honest start t knows;
        status_is = status_due failed text read desk' status tells;
        headline = record {
          left = left_on_disk honest start t knows (is_listed failed) r (λ c. out (whole_call r c)) (λ c. octets_of (down (whole_call r c)))
              told.failures lines.out_line lines.down_line (leaves r over).others;
          hands_over = lines.hands_over;
          goes_out = lines.goes_out;
        };
        text = subst (λ (xs : List ℕ). TellsRun failed xs read desk' status) (texts r over) tells;
      }

  -- a run that ran out of memory
  cut : (orders : List Order) (read : DeskState) → AreRead orders desk read →
      IsCutShort orders s.batch s.periods (first_if (Some honest) start) (contents_if (Some honest) start t) → CutOnDisk s start (honest.disk t.files.folder) (first_if (Some honest) start) (contents_if (Some honest) start t) desk
  cut orders read are_read short =
      let gave : ℕ → Side → ℕ = λ c side. (line_at t.lines (index_of_line c side)).read in
      let r : Run = run_on orders s.periods start short.fails gave in
      let over = over_lines honest start t knows orders s.periods short.fails in
      let stops = short.stops r over in
      record {
        orders = orders;
        read = read;
        are_read = are_read;
        fails = short.fails;
        told = short.told;
        gave = gave;
        given = are_given honest start t knows;
        clock = short.clock;
        within = short.within;
        stops = stops;
        left = left_on_disk honest start t knows short.fails r (λ c. take (160 * worked_to r short.clock c) (out_of_call r c))
            (λ c. take (40 * worked_to r short.clock c) (down_of_call r c)) short.told stops.out stops.down (short.fronts r over).others;
      }

  run_follows : (reading : Result (List Order) OrdersFault) (read : DeskState) → ReadsOrders desk read reading →
      ((given : List ℕ) → desk.to_come ≡ Some given → AnswersTold given reading) →
      FollowsReading (RunsOrders s (first_if (Some honest) start) (contents_if (Some honest) start t) desk' status) reading (first_if (Some honest) start)
      (contents_if (Some honest) start t) read desk' status → RunLeaves report_told s start (honest.disk t.files.folder) (first_if (Some honest) start) (contents_if (Some honest) start t) desk desk' status
  run_follows (Err refused) read reads told follows =
      inr (inr (refused_with refused read desk' status follows.1, files_stay honest start t knows follows.0))
  run_follows (Ok orders) read reads told follows = elim follows [
    | inl runs ↦ inl (ended report_told orders runs.report.failed (report_text runs.report) read (record { reads = reads; told = told }) runs.runs.failed runs.runs.leaves runs.headline
        (λ r over. ap report_text (runs.runs.reports r over)) runs.tells)
    | inr short ↦ inr (inl (short.1.status_is, cut orders read (record { reads = reads; told = told }) short.0))
  ]

  pub run_left : CarriesRun s (first_if (Some honest) start) (contents_if (Some honest) start t) desk desk' status →
      RunLeaves report_told s start (honest.disk t.files.folder) (first_if (Some honest) start) (contents_if (Some honest) start t) desk desk' status
  run_left carries = elim carries [
    | inl farm ↦ run_follows farm.reading farm.read farm.reads farm.told farm.follows
    | inr lacks ↦ inr (inr (inr (inr (inl lacks.1.status_is)), files_stay honest start t knows lacks.0))
  ]

  save_follows : (reading : Result (List Order) OrdersFault) (read : DeskState) → ReadsOrders desk read reading →
      ((given : List ℕ) → desk.to_come ≡ Some given → AnswersTold given reading) →
      FollowsReading (SavesOrders s (first_if (Some honest) start) (contents_if (Some honest) start t) desk' status) reading (first_if (Some honest) start)
      (contents_if (Some honest) start t) read desk' status → RunLeaves mark_told s start (honest.disk t.files.folder) (first_if (Some honest) start) (contents_if (Some honest) start t) desk desk' status
  save_follows (Err refused) read reads told follows =
      inr (inr (refused_with refused read desk' status follows.1, files_stay honest start t knows follows.0))
  save_follows (Ok orders) read reads told follows = elim follows [
    | inl saves ↦ inl (ended mark_told orders saves.saved.failed (saved_text saves.saved.failed saves.saved.mark) read (record { reads = reads; told = told })
        saves.saves.failed saves.saves.leaves saves.headline (λ r over. ap (saved_text saves.saved.failed) (saves.saves.marks r over)) saves.tells)
    | inr short ↦ inr (inl (short.1.status_is, cut orders read (record { reads = reads; told = told }) short.0))
  ]

  pub save_left : CarriesSave s (first_if (Some honest) start) (contents_if (Some honest) start t) desk desk' status →
      RunLeaves mark_told s start (honest.disk t.files.folder) (first_if (Some honest) start) (contents_if (Some honest) start t) desk desk' status
  save_left carries = elim carries [
    | inl farm ↦ save_follows farm.reading farm.read farm.reads farm.told farm.follows
    | inr lacks ↦ inr (inr (inr (inr (inl lacks.1.status_is)), files_stay honest start t knows lacks.0))
  ]

-- the same promise, of equal lines
pub of_lines : (words : List (List ℕ)) (before before' now now' : ℕ → Side → LineState) (desk desk' : DeskState) (status : ℕ) → before ≡ before' → now ≡ now' →
    TopPromise words before now desk desk' status → TopPromise words before' now' desk desk' status
of_lines words before before' now now' desk desk' status first second top =
    subst (λ (b : ℕ → Side → LineState). TopPromise words b now' desk desk' status) first
    (subst (λ (n : ℕ → Side → LineState). TopPromise words before n desk desk' status) second top)

-- what the top function promises of lines, said of files
pub on_disk : {D F : Type 0} {does : Operations D F} (honest : Option (IsHonest does)) (start : Disk) (t : TrunkFiles D F) (words : List (List ℕ))
    (desk desk' : DeskState) (status : ℕ) → KnowsIf honest start t → TopPromise words (first_if honest start) (contents_if honest start t) desk desk' status →
    CommandLeavesIf honest words start t desk desk' status
on_disk None start t words desk desk' status knows top = tt
on_disk (Some honest) start t words desk desk' status knows top = record {
  run = λ s asks. run_left honest start t knows s desk desk' status (top.run s asks).run;
  save = λ s asks. save_left honest start t knows s desk desk' status (top.save s asks).save;
  unused = λ none. files_stay honest start t knows (top.unused none);
  names = knows.holds.files.names;
  others = keeps_recordings honest start t knows;
}

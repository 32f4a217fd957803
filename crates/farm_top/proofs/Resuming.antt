-- What the command `resume` leaves where the desk tells a mark and orders.
use Rattle.std.proofs.Common.{◌≡◌, ◌≢◌, ◌⊎◌, inl, inr, ℕ, ◌≤◌, max, false, List, [], Result, Ok, Err, Option, Some, refl, sym, ◌∙◌, ap, subst, arith}
use Rattle.std.specs.Prelude.{IsErrOf}
use Rattle.std.specs.Io.KnownBytes.{Appends, Consumes}
use Rattle.trau_io.specs.declared.line.Line.{Line as TheLine}
use Rattle.trau_io.specs.declared.line.Side.{Side}
use Rattle.trau_io.specs.Lines.{LineState, Rose}
use Rattle.trau_io.specs.Desks.{DeskState}
use Rattle.trau_orders.specs.declared.order.Order.{Order}
use Rattle.trau_orders.specs.Lists.{AreOrders}
use Rattle.trau_orders.specs.Text.{text_lines, AreLines, GoodOrBad, SpellsOneList}
use Rattle.trau_orders.proofs.Known.{orders_known}
use Rattle.farm_checkpoint.specs.Differences.{entry_of}
use Rattle.farm_checkpoint.specs.Marks.{MarkView}
use Rattle.farm_checkpoint.specs.Text.{HasOneMark, NotGoodAndBad}
use Rattle.farm_orders.specs.declared.fault.MarkedFault.{MarkedFault}
use Rattle.farm_orders.specs.declared.fault.MarkedFault.TheVariants.{Mark, Orders}
use Rattle.farm_orders.specs.declared.fault.OrdersFault.TheVariants.{Unread, TooLong, Line, Memory}
use Rattle.farm_orders.specs.declared.marked.MarkedOrders.{MarkedOrders}
use Rattle.farm_orders.specs.Marked.{AnswersMarkedTold, ReadsMarked, TakenBehind, TellsMarked}
use Rattle.run_spec.specs.Run.{Run}
use Rattle.run_spec.specs.Mark.{Joins, marked_calls}
use Rattle.farm_report.specs.Lines.{report_text}
use Rattle.farm_run.specs.Runs.{IsRunOver, NoneRose, TellsFailed, is_listed}
use Rattle.farm_run.specs.Resuming.{IsResumeCutShort, LeavesFrom}
use Rattle.farm_run.proofs.Clocks.Last.{none_listed}
use Rattle.command_words.specs.declared.asked.Settings.{Settings}
use Rattle.farm_top.specs.Farm.{TellsReport}
use Rattle.farm_top.specs.FarmClean.{IsCalmRun}
use Rattle.farm_top.specs.FarmEnded.{GainsFront}
use Rattle.farm_top.specs.Headline.{HeadlineFrom}
use Rattle.farm_top.specs.Resume.{CarriesResume, FindsAndTells, FollowsMarked, ResumesAndTells, ResumesOrders}
use Rattle.farm_top.specs.ResumeEnded.{JoinsMarked, ResumeDiffers, ResumeEnded}
use Rattle.farm_top.proofs.ResumeCausing.{marked_not_bad, same_mark, same_orders, taken_not_bad, taken_not_long}
use Rattle.block_lines.proofs.Ending.{not_calm}
use Rattle.farm_top.proofs.Taking.{NotTaken, Taken, done_of, front_out, none_left, opened_rose, read_out, status_out, whole_out}
use Rattle.farm_top.proofs.ResumeCutting.{cut_none_from, cut_whole, due_of}
use Rattle.farm_top.proofs.TwoParts.{both_stay, down_whole, out_whole, run_of_first}

module _ (good : GoodOrBad) (one : SpellsOneList) (mark_good : NotGoodAndBad) (one_mark : HasOneMark) (s : Settings) (before now : ℕ → Side → LineState)
    (desk desk' : DeskState) (status : ℕ) (mark : MarkView) (orders : List Order) (told : TellsMarked mark orders desk)
    (carried : CarriesResume s before now desk desk' status) where
  abbrev both : MarkedOrders
  both = record { mark = mark; orders = orders }

  there : TakenBehind told.text both
  there = record { orders = told.rest; has = told.has; answer = (told.within, told.spelled) }

  -- what was read is this mark and these orders
  same_read : (marked : MarkedOrders) → TakenBehind told.text marked → marked ≡ both
  same_read marked taken =
      let marks : marked.mark ≡ mark = same_mark one_mark mark_good told.text marked.mark mark taken.orders told.rest taken.has told.has in
      let texts : taken.orders ≡ told.rest = same_orders one_mark mark_good told.text marked.mark mark taken.orders told.rest taken.has told.has in
      let lists : marked.orders ≡ orders =
      one (text_lines told.rest) marked.orders orders (subst (λ (t : List ℕ). AreLines (text_lines t) marked.orders) texts taken.answer.1) told.spelled in
      λ i. record { mark = marks i; orders = lists i }

  taken_by : (read : DeskState) (reading : Result MarkedOrders MarkedFault) → ReadsMarked desk read reading → AnswersMarkedTold told.text reading →
      (IsErrOf reading (Orders Unread) → Rose desk.read_faults read.read_faults) → read.written ≡ desk.written → read.write_faults ≡ desk.write_faults →
      FollowsMarked s reading before now read desk' status →
      Taken MarkedOrders (ResumesOrders s before now desk' status) both desk ⊎ NotTaken before now desk desk' status
  taken_by read (Ok marked) reads answers unread written silent follows = inl (record {
    read = read;
    written = written;
    write_faults = silent;
    all_read = none_left told.text reads.given read.to_come
        (subst (λ (o : Option (List ℕ)). Consumes o read.to_come reads.given) told.told reads.consumed) reads.answer.0;
    done = subst (λ (m : MarkedOrders). ResumesOrders s before now desk' status m read) (same_read marked answers.1) follows;
  })
  taken_by read (Err (Orders Unread)) reads answers unread written silent (stay, ends) =
      inr (record { stay = stay; why = inl (ends.status_is, subst (λ (n : ℕ). Rose desk.read_faults n) (sym ends.text_out.tells.read_faults) (unread refl)) })
  taken_by read (Err (Orders TooLong)) reads (inl long) unread written silent (stay, ends) = absurd (omega (arith, long, told.short))
  taken_by read (Err (Orders TooLong)) reads (inr (short, behind)) unread written silent (stay, ends) =
      absurd (taken_not_long one_mark mark_good good told.text both there
      (record { short = short; mark = behind.mark; orders = behind.orders; has = behind.has; long = behind.answer }))
  taken_by read (Err (Orders (Line n))) reads (short, behind) unread written silent (stay, ends) =
      absurd (taken_not_bad one_mark mark_good good told.text both n there
      (record { short = short; mark = behind.mark; orders = behind.orders; has = behind.has; bad = behind.answer }))
  taken_by read (Err (Orders Memory)) reads answers unread written silent (stay, ends) = inr (record { stay = stay; why = inr ends.status_is })
  taken_by read (Err (Mark n)) reads answers unread written silent (stay, ends) =
      absurd (marked_not_bad one_mark mark_good told.text mark told.rest n told.has answers)

  taken_in : CarriesResume s before now desk desk' status →
      Taken MarkedOrders (ResumesOrders s before now desk' status) both desk ⊎ NotTaken before now desk desk' status
  taken_in (inl ran) = taken_by ran.read ran.reading ran.reads (ran.told told.text told.told) ran.unread ran.written ran.write_faults ran.follows
  taken_in (inr (stay, ends)) = inr (record { stay = stay; why = inr ends.status_is })

  -- behind the reading: the run was carried to its end, or the mark isn't that of it
  record Behind (Done : DeskState → Type 0) : Type 0 where
    pub read : DeskState
    pub written : read.written ≡ desk.written
    pub write_faults : read.write_faults ≡ desk.write_faults
    pub all_read : read.to_come ≡ Some []
    pub done : Done read

  abbrev Ran : Type 0
  Ran = Behind (λ read. ResumesAndTells both s before now read desk' status)

  abbrev Found : Type 0
  Found = Behind (λ read. FindsAndTells both s before now read desk' status)

  -- or there was no memory, or the desk failed while it was read
  abbrev Else : Type 0
  Else = (IsResumeCutShort orders s.batch (max mark.period s.periods) mark before now × (status ≡ 5)) ⊎ NotTaken before now desk desk' status

  what_of : (t : Taken MarkedOrders (ResumesOrders s before now desk' status) both desk) → ResumesOrders s before now desk' status both t.read →
      Ran ⊎ Found ⊎ Else
  what_of t (inl ran) = inl (record { read = t.read; written = t.written; write_faults = t.write_faults; all_read = t.all_read; done = ran })
  what_of t (inr (inl finds)) = inr (inl (record { read = t.read; written = t.written; write_faults = t.write_faults; all_read = t.all_read; done = finds }))
  what_of t (inr (inr (cut, ends))) = inr (inr (inl (cut, ends.status_is)))

  what_by : Taken MarkedOrders (ResumesOrders s before now desk' status) both desk ⊎ NotTaken before now desk desk' status → Ran ⊎ Found ⊎ Else
  what_by (inl t) = what_of t t.done
  what_by (inr none) = inr (inr (inr none))

  what : Ran ⊎ Found ⊎ Else
  what = what_by (taken_in carried)

  not_else : ((status ≡ 3) → ⊥) → ((status ≡ 5) → ⊥) → Else → ⊥
  not_else three five (inl cut) = five cut.1
  not_else three five (inr none) = elim none.why [
    | inl rose ↦ three rose.0
    | inr is ↦ five is
  ]

  -- after 0, 4 and 6 the orders were run
  ran_to_end : (status ≡ 0) ⊎ (status ≡ 4) ⊎ (status ≡ 6) → Ran
  ran_to_end due = elim what [
    | inl ran ↦ ran
    | inr (inl found) ↦ (let is = found.done.ends.status_is in absurd (omega (arith, due, is)))
    | inr (inr other) ↦ absurd (not_else (λ e. omega (arith, due, e)) (λ e. omega (arith, due, e)) other)
  ]

  -- **So lines and report are those of the run.**
  pub ended : (status ≡ 0) ⊎ (status ≡ 4) ⊎ (status ≡ 6) → ResumeEnded mark orders s before now desk desk' status
  ended due =
      let ran = ran_to_end due in
      let report = ran.done.report in
      let text = report_text report in
      let resumes = ran.done.resumes in
      record {
        failed = report.failed;
        told = resumes.failed;
        status_is = status_out report.failed text desk ran.read desk' status due ran.written ran.done.tells;
        sides = resumes.sides;
        reads = resumes.reads;
        leaves = resumes.leaves;
        headline = ran.done.headline;
        same_mark = resumes.same_mark;
        text = λ not r over. subst (λ (t : List ℕ). Appends desk.written desk'.written t) (ap report_text (resumes.reports r over))
            (whole_out report.failed text desk ran.read desk' status due ran.written not ran.done.tells);
        front = λ four r over. subst (λ (t : List ℕ). GainsFront desk.written desk'.written t) (ap report_text (resumes.reports r over))
            (front_out report.failed text desk ran.read desk' status due ran.written four ran.done.tells);
        all_read = read_out report.failed text desk ran.read desk' status due ran.written ran.done.tells ∙ ran.all_read;
        opened = resumes.opened;
        line_failed = λ six r over. opened_rose r before now report.failed status
            (status_out report.failed text desk ran.read desk' status due ran.written ran.done.tells) resumes.failed (resumes.opened r over) six;
        short = resumes.short;
        read_past = resumes.read_past;
        there = resumes.there (orders_known (text_lines told.rest) orders told.within.1 told.spelled);
      }

  -- **With 9 the mark isn't that of the run.**
  pub differs : status ≡ 9 → ResumeDiffers mark orders s before now desk desk'
  differs nine = elim what [
    | inl ran ↦ absurd (due_of ran.done.report.failed (report_text ran.done.report) ran.read desk' status ran.done.tells nine)
    | inr (inl found) ↦ record {
      call = found.done.call;
      finds = found.done.finds;
      read = found.read;
      written = found.written;
      write_faults = found.write_faults;
      text_out = found.done.ends.text_out;
      all_read = found.done.ends.text_out.tells.to_come ∙ found.all_read;
    }
    | inr (inr other) ↦ absurd (not_else (λ e. omega (arith, nine, e)) (λ e. omega (arith, nine, e)) other)
  ]

  -- **The run was cut short.**
  pub cut_short : status ≡ 5 → IsResumeCutShort orders s.batch (max mark.period s.periods) mark before now
  cut_short five = elim what [
    | inl ran ↦ cut_whole both s before now ran.read desk' status (orders_known (text_lines told.rest) orders told.within.1 told.spelled) ran.done
    | inr (inl found) ↦ (let is = found.done.ends.status_is in absurd (omega (arith, five, is)))
    | inr (inr (inl cut)) ↦ cut.0
    | inr (inr (inr none)) ↦ cut_none_from orders s.batch (max mark.period s.periods) mark before now none.stay
  ]

  -- **What a run to the mark's period writes and what was gained here are together what one run writes.**
  pub joins : ((r : Run) (p : ℕ) → AreOrders r.orders → p ≤ r.periods → Joins r p) → (status ≡ 0) ⊎ (status ≡ 4) ⊎ (status ≡ 6) → NoneRose before now →
      (r : Run) → IsRunOver orders (max mark.period s.periods) (λ c side. false) before now r → JoinsMarked orders r mark.period before now
  joins law due none r over =
      let ran = (ran_to_end due).done in
      let e = none_listed before now ran.report.failed ran.resumes.failed none in
      let is = subst (λ (ls : List TheLine). IsRunOver orders (max mark.period s.periods) (is_listed ls) before now r) (sym e) over in
      let are : AreOrders orders = orders_known (text_lines told.rest) orders told.within.1 told.spelled in
      let leaves = subst (λ (ls : List TheLine). LeavesFrom r mark.period (is_listed ls) before now) e (ran.resumes.leaves r is) in
      let joined : Joins r mark.period =
      law r mark.period (subst (λ (os : List Order). AreOrders os) (sym over.same_orders) are) (omega (arith, over.same_periods)) in
      record {
        leaves = leaves;
        headline = subst (λ (ls : List TheLine). HeadlineFrom r mark.period (is_listed ls) before now) e (ran.headline r is);
        joins = joined;
        first_part = λ first saved. run_of_first r mark.period before now first saved joined orders (max mark.period s.periods) over;
        out_together = λ first saved left. out_whole r mark.period before now first saved joined left leaves;
        down_together = λ first saved left. down_whole r mark.period before now first saved joined left leaves;
        others = λ first saved left. both_stay r mark.period before now first saved joined left leaves;
      }

  -- ---- where nothing fails

  module _ (calm : IsCalmRun before now desk desk') (r : Run) (over : IsRunOver orders mark.period (λ c side. false) before now r) where
    only_memory : Else → status ≡ 5
    only_memory (inl cut) = cut.1
    only_memory (inr none) = elim none.why [
      | inl rose ↦ absurd (not_calm desk.read_faults desk'.read_faults calm.reading rose.1)
      | inr is ↦ is
    ]

    over_listed : (failed : List TheLine) → TellsFailed before now failed → IsRunOver orders mark.period (is_listed failed) before now r
    over_listed failed told =
        subst (λ (ls : List TheLine). IsRunOver orders mark.period (is_listed ls) before now r) (sym (none_listed before now failed told calm.lines)) over

    well_told : (ran : Ran) → TellsReport ran.done.report ran.read desk' status → (status ≡ 0) ⊎ (status ≡ 5)
    well_told ran (inl (inl (is, tells))) = inl (is ∙ done_of before now calm.lines ran.done.report.failed ran.done.resumes.failed)
    well_told ran (inl (inr (is, tells))) =
        absurd (not_calm desk.write_faults desk'.write_faults calm.writing (subst (λ (n : ℕ). Rose n desk'.write_faults) ran.write_faults tells.cause.failed))
    well_told ran (inr ends) = inr ends.status_is

    pub same : marked_calls r ≡ mark.calls → (status ≡ 0) ⊎ (status ≡ 5)
    same e = elim what [
      | inl ran ↦ well_told ran ran.done.tells
      | inr (inl found) ↦
          let finds = found.done.finds in
          absurd ((finds.differs r (over_listed finds.failed finds.told)).differs (ap (λ calls. entry_of calls found.done.call) (sym e)))
      | inr (inr other) ↦ inr (only_memory other)
    ]

    pub another : marked_calls r ≢ mark.calls → (status ≡ 9) ⊎ (status ≡ 5)
    another not = elim what [
      | inl ran ↦ absurd (not (ran.done.resumes.same_mark r (over_listed ran.done.report.failed ran.done.resumes.failed)))
      | inr (inl found) ↦ inl found.done.ends.status_is
      | inr (inr other) ↦ inr (only_memory other)
    ]

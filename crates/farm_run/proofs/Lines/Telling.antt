-- A run at its end: what it leaves on the lines, and what is told of it.
use Rattle.std.proofs.Common.{◌≡◌, refl, sym, ap, ◌∙◌, subst, ℕ, ◌≤◌, List, length, map, arith}
use Rattle.std.specs.Prelude.{is_some}
use Rattle.trau_io.specs.declared.line.Line.{Line}
use Rattle.trau_io.specs.declared.line.Side.{Side}
use Rattle.trau_io.specs.Lines.{LineState}
use Rattle.trau_orders.specs.declared.order.Order.{Order}
use Rattle.trau_orders.specs.Lists.{AreOrders}
use Rattle.farm_checkpoint.specs.declared.mark.MarkCall.{MarkCall}
use Rattle.farm_checkpoint.specs.Marks.{MarkView, AreOpenAtMark}
use Rattle.farm_report.specs.View.{ReportView}
use Rattle.farm_rounds.specs.Calls.{call_in}
use Rattle.farm_rounds.specs.Numbers.{IsRising, is_among}
use Rattle.run_spec.specs.Run.{Run}
use Rattle.run_spec.specs.Facts.{report_of}
use Rattle.run_spec.specs.Mark.{marked_calls}
use Rattle.farm_run.specs.declared.pace.Pace.{Pace}
use Rattle.farm_run.specs.declared.stage.Stage.{Stage}
use Rattle.farm_run.specs.Noted.{IsKnown, IsAtEnd}
use Rattle.farm_run.specs.Marking.{entry_of}
use Rattle.farm_run.specs.Outgoing.{sum_to}
use Rattle.farm_run.specs.Runs.{TellsFailed, AreTold, IsRunOver, OnlyOpenedFail, FailedBy, FailedShort, ReadToEnd, Leaves, Runs, is_listed}
use Rattle.farm_run.specs.Saving.{SavedView, Saves}
use Rattle.farm_run.specs.Stages.{OpenedBefore, SumsAt}
use Rattle.farm_run.specs.Standing.{Standing, standing, StandingGoesOn}
use Rattle.farm_run.specs.Clock.{IsAtClock, WrittenFrom}
use Rattle.farm_run.proofs.Lines.Being.{there_is}
use Rattle.farm_run.proofs.Lines.Stopping.{only_opened}
use Rattle.farm_run.proofs.Clocks.Last.{leaves_all}
use Rattle.farm_run.proofs.Clocks.Reach.{ended_by_lines}
use Rattle.farm_run.proofs.Marked.Calls.{entries_are, entries_live}
use Rattle.farm_run.proofs.Clocks.Meeting.{stays}
use Rattle.farm_run.proofs.Clocks.Reaching.{GoneTo}

module _ (os : List Order) (batch : ℕ) (first now : ℕ → Side → LineState) (u : Stage) (g : GoneTo os batch first now u) where
  -- how it stands there
  abbrev pub last : Standing
  last = standing u.board u.farm.failed now

  -- **There is such a run.**
  pub there : AreOrders os → AreTold first → (periods : ℕ) → (r : Run) × IsRunOver os periods (is_listed u.farm.failed) first now r
  there are told periods = there_is os periods (is_listed u.farm.failed) first now are
      (λ c s n i. let octets = told c s n i in let k = g.reads c s octets.0 i octets.1 in (octets.0, k.0, octets.1, k.1))

  -- a run to here has its own number of periods
  own : (r : Run) → IsRunOver os u.clock (is_listed u.farm.failed) first now r →
      IsRunOver os r.periods (is_listed u.farm.failed) first now r
  own r run = subst (λ (p : ℕ). IsRunOver os p (is_listed u.farm.failed) first now r) (sym run.same_periods) run

  -- the run has the clock's periods
  least : (r : Run) → IsRunOver os u.clock (is_listed u.farm.failed) first now r → u.clock ≤ r.periods
  least r run = let e = run.same_periods in omega (arith, e)

  -- **What holds of it at its last period.**
  pub at_end : (r : Run) → IsRunOver os u.clock (is_listed u.farm.failed) first now r →
      IsAtClock r r.periods u.board u.farm.calls (standing u.board u.farm.failed now) first now
  at_end r run = subst (λ (p : ℕ). IsAtClock r p u.board u.farm.calls (standing u.board u.farm.failed now) first now) (sym run.same_periods)
      (g.at r last (own r run) (least r run) (stays last))

  -- **What is noted and kept there is the run's.**
  pub known_end : (r : Run) → IsRunOver os u.clock (is_listed u.farm.failed) first now r →
      IsKnown r r.periods u.board u.farm.tallies u.notes
  known_end r run =
      subst (λ (p : ℕ). IsKnown r p u.board u.farm.tallies u.notes) (sym run.same_periods) (g.known r last (own r run) (least r run) (stays last))

  -- **Its lines that failed are those of calls that it opened.**
  pub opened_end : (r : Run) → IsRunOver os u.clock (is_listed u.farm.failed) first now r → OnlyOpenedFail r (is_listed u.farm.failed)
  opened_end r run =
      let here = at_end r run in
      let knows = (let s = g.stage in s.knows) in
      only_opened r r.periods u.board u.farm.failed here.follows.so_far knows

  -- **Its incoming lines that failed did so short of a round's octets.**
  pub short_end : (r : Run) → IsRunOver os u.clock (is_listed u.farm.failed) first now r → FailedShort r batch (is_listed u.farm.failed)
  short_end r run = subst (λ (p : ℕ). FailedBy r batch p (is_listed u.farm.failed)) (sym run.same_periods)
      (g.short r last (own r run) (least r run) (stays last))

  -- **Of its incoming lines that didn't fail so much was read.**
  pub read_end : (r : Run) → IsRunOver os u.clock (is_listed u.farm.failed) first now r → ReadToEnd r batch (is_listed u.farm.failed) now
  read_end r run c i not =
      let same = run.same_periods in
      let ended = (ended_by_lines r c not).1 in
      let k = g.read_past r last (own r run) (least r run) (stays last) c i (omega (arith, ended, same)) not in
      (k.0, k.1, k.2, omega (arith, k.3, same), k.4)

  -- **So its report is the definition's.**
  pub report_end : (count : ℕ) (report : ReportView) → count ≡ length os →
      ((r : Run) (t : ℕ) → IsAtEnd r t u.board u.farm.calls u.farm.tallies u.notes → r.periods ≡ u.clock → length r.orders ≡ count →
      report ≡ report_of r report.failed) →
      (r : Run) → IsRunOver os u.clock (is_listed u.farm.failed) first now r → report ≡ report_of r report.failed
  report_end count report number h r run =
      let here = at_end r run in
      let knows = known_end r run in
      h r r.periods (record { follows = here.follows; none_left = here.follows.so_far.ahead; clock = λ c o. refl; truly = knows.truly; noted = knows.noted })
      run.same_periods (ap length run.same_orders ∙ sym number)

  -- **What is written by its end.**
  pub wrote_end : (from : ℕ) → ((r : Run) (z : Standing) → IsRunOver os r.periods z.listed first z.lines r → u.clock ≤ r.periods →
      StandingGoesOn (standing u.board u.farm.failed now) z → WrittenFrom r from u.clock (is_listed u.farm.failed) first now) →
      (r : Run) → IsRunOver os u.clock (is_listed u.farm.failed) first now r →
      WrittenFrom r from r.periods (is_listed u.farm.failed) first now
  wrote_end from wrote r run =
      subst (λ (p : ℕ). WrittenFrom r from p (is_listed u.farm.failed) first now) (sym run.same_periods) (wrote r last (own r run) (least r run) (stays last))

  -- **The entries of its live calls are those of its mark.**
  pub marked_end : (live : (c : ℕ) → is_among u.farm.live c ≡ is_some (call_in u.farm.calls c)) → IsRising u.farm.live →
      ((r : Run) (z : Standing) → IsRunOver os r.periods z.listed first z.lines r → u.clock ≤ r.periods →
      StandingGoesOn (standing u.board u.farm.failed now) z → SumsAt r u.clock (sum_to u.outgoing)) →
      (r : Run) → IsRunOver os u.clock (is_listed u.farm.failed) first now r → map (entry_of u) u.farm.live ≡ marked_calls r
  marked_end live rising sums r run =
      entries_are u live rising g.stage r last first now (g.at r last (own r run) (least r run) (stays last)) (sym run.same_periods)
      (sums r last (own r run) (least r run) (stays last))

-- a run to this number of periods, over these failed lines, is one to the clock
pub over_here : (os : List Order) (periods : ℕ) (failed : List Line) (first now : ℕ → Side → LineState) (u : Stage) → u.clock ≡ periods →
    failed ≡ u.farm.failed →
    (r : Run) → IsRunOver os periods (is_listed failed) first now r → IsRunOver os u.clock (is_listed u.farm.failed) first now r
over_here os periods failed first now u e f r run =
    subst (λ (p : ℕ). IsRunOver os p (is_listed u.farm.failed) first now r) (sym e)
    (subst (λ (ls : List Line). IsRunOver os periods (is_listed ls) first now r) f run)

-- **A run that came to its last period leaves and reports what the run of the definition gives.**
pub runs_told : (os : List Order) (pace : Pace) (first now : ℕ → Side → LineState) (u : Stage) (count : ℕ) (report : ReportView) →
    GoneTo os pace.batch first now u → u.clock ≡ pace.periods →
    ((r : Run) (z : Standing) → IsRunOver os r.periods z.listed first z.lines r →
    u.clock ≤ r.periods → StandingGoesOn (standing u.board u.farm.failed now) z →
    WrittenFrom r 0 u.clock (is_listed u.farm.failed) first now) →
    report.failed ≡ u.farm.failed → count ≡ length os →
    ((r : Run) (t : ℕ) → IsAtEnd r t u.board u.farm.calls u.farm.tallies u.notes → r.periods ≡ pace.periods → length r.orders ≡ count →
    report ≡ report_of r report.failed) → Runs os pace first now report
runs_told os pace first now u count report g e wrote f number h = record {
  failed = subst (λ (ls : List Line). TellsFailed first now ls) (sym f) g.tells;
  sides = g.sides;
  reads = g.reads;
  leaves = λ r run.
      let is = over r run in
      subst (λ (ls : List Line). Leaves r (is_listed ls) first now) (sym f)
      (leaves_all r u.board u.farm.calls u.farm.failed first now (at_end os pace.batch first now u g r is)
      (wrote_end os pace.batch first now u g 0 wrote r is));
  reports = λ r run. report_end os pace.batch first now u g count report number (λ r t end p. h r t end (p ∙ e)) r (over r run);
  opened = λ r run. subst (λ (ls : List Line). OnlyOpenedFail r (is_listed ls)) (sym f) (opened_end os pace.batch first now u g r (over r run));
  short = λ r run. subst (λ (ls : List Line). FailedShort r pace.batch (is_listed ls)) (sym f) (short_end os pace.batch first now u g r (over r run));
  read_past = λ r run. subst (λ (ls : List Line). ReadToEnd r pace.batch (is_listed ls) now) (sym f) (read_end os pace.batch first now u g r (over r run));
  there = λ are told. subst (λ (ls : List Line). (r : Run) × IsRunOver os pace.periods (is_listed ls) first now r) (sym f)
      (there os pace.batch first now u g are told pace.periods);
}
  where
    over : (r : Run) → IsRunOver os pace.periods (is_listed report.failed) first now r →
        IsRunOver os u.clock (is_listed u.farm.failed) first now r
    over r run = over_here os pace.periods report.failed first now u e f r run

-- **Its mark is that of the definition.**
pub saves_told : (os : List Order) (pace : Pace) (first now : ℕ → Side → LineState) (u : Stage)
    (saved : SavedView) → GoneTo os pace.batch first now u →
    u.clock ≡ pace.periods →
    ((r : Run) (z : Standing) → IsRunOver os r.periods z.listed first z.lines r →
    u.clock ≤ r.periods → StandingGoesOn (standing u.board u.farm.failed now) z →
    WrittenFrom r 0 u.clock (is_listed u.farm.failed) first now) →
    ((r : Run) (z : Standing) → IsRunOver os r.periods z.listed first z.lines r →
    u.clock ≤ r.periods → StandingGoesOn (standing u.board u.farm.failed now) z →
    SumsAt r u.clock (sum_to u.outgoing)) →
    saved.failed ≡ u.farm.failed → saved.mark.period ≡ pace.periods → saved.mark.calls ≡ map (entry_of u) u.farm.live →
    ((c : ℕ) → is_among u.farm.live c ≡ is_some (call_in u.farm.calls c)) → IsRising u.farm.live → OpenedBefore pace.periods u.board.done →
    Saves os pace first now saved
saves_told os pace first now u saved g e wrote sums f p calls live rising openings = record {
  failed = subst (λ (ls : List Line). TellsFailed first now ls) (sym f) g.tells;
  sides = g.sides;
  reads = g.reads;
  leaves = λ r run.
      let is = over r run in
      subst (λ (ls : List Line). Leaves r (is_listed ls) first now) (sym f)
      (leaves_all r u.board u.farm.calls u.farm.failed first now (at_end os pace.batch first now u g r is)
      (wrote_end os pace.batch first now u g 0 wrote r is));
  marks = λ r run.
      same saved.mark.period r.periods saved.mark.calls (marked_calls r) (p ∙ sym run.same_periods)
      (calls ∙ marked_end os pace.batch first now u g live rising sums r (over r run));
  opened = λ r run. subst (λ (ls : List Line). OnlyOpenedFail r (is_listed ls)) (sym f) (opened_end os pace.batch first now u g r (over r run));
  short = λ r run. subst (λ (ls : List Line). FailedShort r pace.batch (is_listed ls)) (sym f) (short_end os pace.batch first now u g r (over r run));
  read_past = λ r run. subst (λ (ls : List Line). ReadToEnd r pace.batch (is_listed ls) now) (sym f) (read_end os pace.batch first now u g r (over r run));
  there = λ are told. subst (λ (ls : List Line). (r : Run) × IsRunOver os pace.periods (is_listed ls) first now r) (sym f)
      (there os pace.batch first now u g are told pace.periods);
  period = p;
  are_open = subst (λ (n : ℕ). AreOpenAtMark n saved.mark.calls) (sym p)
      (subst (AreOpenAtMark pace.periods) (sym calls) (entries_live u live rising g.stage pace.periods openings));
}
  where
    over : (r : Run) → IsRunOver os pace.periods (is_listed saved.failed) first now r →
        IsRunOver os u.clock (is_listed u.farm.failed) first now r
    over r run = over_here os pace.periods saved.failed first now u e f r run

    same : (n m : ℕ) (xs ys : List MarkCall) → n ≡ m → xs ≡ ys →
        ◌≡◌ {A = MarkView} (record { period = n; calls = xs }) (record { period = m; calls = ys })
    same n m xs ys q k = ap {B = MarkView} (λ (x : ℕ). record { period = x; calls = xs }) q
        ∙ ap {B = MarkView} (λ (x : List MarkCall). record { period = m; calls = x }) k

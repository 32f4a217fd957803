-- For crates above: a run that did not begin is one that was cut short by lack of memory (`cut_first`).
-- A run that want of memory cut short.
use Rattle.std.proofs.Common.{◌≡◌, refl, sym, subst, ℕ, ◌-◌, ◌≤◌, Bool, false, List, [], arith}
use Rattle.std.specs.Prelude.{min, Result, Ok, Err, OnErr}
use Rattle.std.specs.Io.KnownBytes.{Appends}
use Rattle.std.proofs.KnownBytes.{Appends-nil}
use Rattle.trau_io.specs.declared.line.Line.{Line}
use Rattle.trau_io.specs.declared.line.Side.{Side}
use Rattle.trau_io.specs.declared.line.Side.TheVariants.{Down, Out}
use Rattle.trau_io.specs.Lines.{LineState}
use Rattle.trau_orders.specs.declared.order.Order.{Order}
use Rattle.switchboard.specs.Ends.{start_of}
use Rattle.switchboard.specs.State.{State}
use Rattle.farm_rounds.specs.Calls.{Kept}
use Rattle.farm_checkpoint.specs.Marks.{MarkView}
use Rattle.run_spec.specs.Run.{Run, done_in, end_in, worked_to}
use Rattle.run_spec.specs.Mark.{marked_calls}
use Rattle.farm_run.specs.Runs.{TellsFailed, KeepsSides, ReadsOn, IsRunOver, OnlyOpenedFail, FailedBy, ReadBy, is_listed}
use Rattle.farm_run.specs.Standing.{Standing, standing, KnowsListed}
use Rattle.farm_run.specs.Fronts.{HasFront, LeavesFronts, IsCutShort}
use Rattle.farm_run.specs.Resuming.{IsResumeCutShort}
use Rattle.farm_run.specs.Stages.{HoldsBack}
use Rattle.farm_run.specs.Clock.{LinesAt, WrittenFrom, IsAtClock}
use Rattle.farm_run.proofs.Lines.Being.{there_is}
use Rattle.farm_run.proofs.Clocks.First.{tells_none, lines_at_first, written_first}
use Rattle.farm_run.proofs.Clocks.Last.{all_out, all_down}
use Rattle.farm_run.proofs.Lines.Sides.{sides_none}
use Rattle.farm_run.proofs.Lines.Stopping.{FailBefore, only_opened, stops_at, stops_from, stops_before}
use Rattle.farm_run.proofs.Worked.Short.{short_none}
use Rattle.farm_run.proofs.Lines.Gaining.{out_front, down_front, out_front_from, down_front_from}

-- what holds whatever came out holds of an error
pub on_err : {T E P : Type 0} (o : Result T E) → P → OnErr o P
on_err (Ok x) p = tt
on_err (Err e) p = p

-- **At a clock each outgoing line holds a prefix of what the run gives, one that failed a proper prefix.**
fronts_at : (r : Run) (t : ℕ) (b : State) (calls : List Kept) (failed : List Line) (first now : ℕ → Side → LineState) →
    IsAtClock r t b calls (standing b failed now) first now →
    WrittenFrom r 0 t (is_listed failed) first now → LeavesFronts r (is_listed failed) first now
fronts_at r t b calls failed first now at wrote = record {
  out = λ c i. out_front r c (worked_to r t c) (end_in r c - start_of (done_in r) c) (is_listed failed c Out) (first c Out) (now c Out)
      (least (end_in r c) (start_of (done_in r) c)) (all_out r t c (is_listed failed) first now wrote i);
  down = λ c i. down_front r c (worked_to r t c) (end_in r c - start_of (done_in r) c) (is_listed failed c Down) (first c Down) (now c Down)
      (least (end_in r c) (start_of (done_in r) c)) (all_down r t c (is_listed failed) first now wrote i);
  others = at.lines.others;
}
  where
    least : (e s : ℕ) → min t e - s ≤ e - s
    least e s = omega arith

-- **A run that ends at a clock is cut short there.**
pub cut_at : (os : List Order) (batch periods t : ℕ) (b : State) (calls : List Kept)
    (failed : List Line) (first now : ℕ → Side → LineState) →
    t ≤ periods → KnowsListed b failed → TellsFailed first now failed → KeepsSides first now → ReadsOn first now →
    ((r : Run) → IsRunOver os r.periods (is_listed failed) first now r → periods ≤ r.periods →
    IsAtClock r t b calls (standing b failed now) first now) →
    ((r : Run) → IsRunOver os r.periods (is_listed failed) first now r → periods ≤ r.periods →
    WrittenFrom r 0 t (is_listed failed) first now) →
    ((r : Run) → IsRunOver os r.periods (is_listed failed) first now r → periods ≤ r.periods → FailBefore r t (is_listed failed)) →
    ((r : Run) → IsRunOver os r.periods (is_listed failed) first now r → periods ≤ r.periods → FailedBy r batch t (is_listed failed)) →
    ((r : Run) → IsRunOver os r.periods (is_listed failed) first now r → periods ≤ r.periods → ReadBy r batch t (is_listed failed) now) →
    IsCutShort os batch periods first now
cut_at os batch periods t b calls failed first now within knows tells sides reads goes wrote fail short past = record {
  fails = is_listed failed;
  told = tells.failures;
  sides = sides;
  reads = reads;
  fronts = λ r run.
      let e = run.same_periods in
      let is = subst (λ (p : ℕ). IsRunOver os p (is_listed failed) first now r) (sym e) run in
      fronts_at r t b calls failed first now (goes r is (omega (arith, e))) (wrote r is (omega (arith, e)));
  clock = t;
  within = within;
  stops = λ r run.
      let e = run.same_periods in
      let is = subst (λ (p : ℕ). IsRunOver os p (is_listed failed) first now r) (sym e) run in
      let here = goes r is (omega (arith, e)) in
      stops_at r t (standing b failed now) first now here.lines (fail r is (omega (arith, e))) (wrote r is (omega (arith, e)));
  opened = λ r run.
      let e = run.same_periods in
      let is = subst (λ (p : ℕ). IsRunOver os p (is_listed failed) first now r) (sym e) run in
      let here = goes r is (omega (arith, e)) in
      only_opened r t b failed here.follows.so_far knows;
  short = λ r run.
      let e = run.same_periods in
      let is = subst (λ (p : ℕ). IsRunOver os p (is_listed failed) first now r) (sym e) run in
      short r is (omega (arith, e));
  read_past = λ r run.
      let e = run.same_periods in
      let is = subst (λ (p : ℕ). IsRunOver os p (is_listed failed) first now r) (sym e) run in
      past r is (omega (arith, e));
  there = λ are told. there_is os periods (is_listed failed) first now are
      (λ c s n i. let octets = told c s n i in let k = reads c s octets.0 i octets.1 in (octets.0, k.0, octets.1, k.1));
}

-- no call has ended, and no line failed
abbrev pub none_yet : (ℕ → Side → LineState) → Standing
none_yet lines = record { over = λ c. false; listed = is_listed []; lines = lines }

-- **A run that didn't begin is cut short.**
pub cut_first : (os : List Order) (batch periods : ℕ) (lines : ℕ → Side → LineState) → IsCutShort os batch periods lines lines
cut_first os batch periods lines = record {
  fails = is_listed [];
  told = (tells_none lines).failures;
  sides = sides_none lines;
  reads = λ c s octets i e. (0, e);
  there = λ are told. there_is os periods (is_listed []) lines lines are (λ c s n i. let octets = told c s n i in (octets.0, 0, octets.1, octets.1));
  fronts = λ r run. record {
    out = λ c i. (0, Appends-nil (lines c Out).written);
    down = λ c i. (0, Appends-nil (lines c Down).written);
    others = λ c s none. refl;
  };
  clock = 0;
  within = omega arith;
  stops = λ r run. stops_at r 0 (none_yet lines) lines lines (lines_at_first r os periods lines (none_yet lines) run) (λ c s i l. cc) (written_first r 0 lines);
  opened = λ r run c s l. cc;
  short = λ r run. short_none r batch 0;
  read_past = λ r run c i ended not. absurd (omega (arith, ended));
}

-- ---- a resumed run

-- **A resumed run that wrote nothing yet is cut short.**
pub cut_before : (os : List Order) (batch periods t : ℕ) (mark : MarkView) (over : ℕ → Bool)
    (failed : List Line) (first now : ℕ → Side → LineState) →
    t ≤ periods → t ≤ mark.period → TellsFailed first now failed → KeepsSides first now → ReadsOn first now →
    HoldsBack (is_listed []) (is_listed failed) first now →
    ((r : Run) → IsRunOver os periods (is_listed failed) first now r → OnlyOpenedFail r (is_listed failed)) →
    ((r : Run) → IsRunOver os periods (is_listed failed) first now r →
    LinesAt r t (record { over = over; listed = is_listed failed; lines = now }) first now) →
    ((r : Run) → IsRunOver os periods (is_listed failed) first now r → FailBefore r t (is_listed failed)) →
    ((r : Run) → IsRunOver os periods (is_listed failed) first now r → FailedBy r batch t (is_listed failed)) →
    ((r : Run) → IsRunOver os periods (is_listed failed) first now r → ReadBy r batch t (is_listed failed) now) →
    IsResumeCutShort os batch periods mark first now
cut_before os batch periods t mark over failed first now within early tells sides reads back opened at fail short past = record {
  fails = is_listed failed;
  told = tells.failures;
  sides = sides;
  reads = reads;
  fronts = λ r run. record {
    out = λ c i. none (is_listed failed c Out) (first c Out) (now c Out) _ (back.listed c Out tt) (back.lines c Out tt);
    down = λ c i. none (is_listed failed c Down) (first c Down) (now c Down) _ (back.listed c Down tt) (back.lines c Down tt);
    others = (at r run).others;
  };
  clock = t;
  within = within;
  stops = λ r run. stops_before r t (record { over = over; listed = is_listed failed; lines = now }) first now (at r run) (fail r run) mark.period early back;
  opened = opened;
  short = short;
  read_past = past;
  held = λ r run differs. back.lines;
  there = λ are told n. there_is os n (is_listed failed) first now are
      (λ c s n i. let octets = told c s n i in let k = reads c s octets.0 i octets.1 in (octets.0, k.0, octets.1, k.1));
}
  where
    none : (fails : Bool) (was is : LineState) (octets : List ℕ) → fails ≡ false → is ≡ was → HasFront fails was is octets
    none fails was is octets f e =
        subst (λ (x : Bool). HasFront x was is octets) (sym f)
        (0, subst (λ (l : LineState). Appends was.written l.written []) (sym e) (Appends-nil was.written))

-- **A resumed run that stops at a clock behind the mark's period is cut short there, if the mark is the run's.**
pub cut_behind : (os : List Order) (batch periods : ℕ) (mark : MarkView) (t : ℕ) (b : State) (calls : List Kept) (failed : List Line)
    (first now : ℕ → Side → LineState) → mark.period ≤ t → t ≤ periods → KnowsListed b failed →
    TellsFailed first now failed → KeepsSides first now → ReadsOn first now →
    ((r : Run) → IsRunOver os mark.period (is_listed failed) first now r → marked_calls r ≡ mark.calls) →
    ((r : Run) → IsRunOver os r.periods (is_listed failed) first now r → periods ≤ r.periods →
    IsAtClock r t b calls (standing b failed now) first now) →
    ((r : Run) → IsRunOver os r.periods (is_listed failed) first now r → periods ≤ r.periods →
    WrittenFrom r mark.period t (is_listed failed) first now) →
    ((r : Run) → IsRunOver os r.periods (is_listed failed) first now r → periods ≤ r.periods → FailBefore r t (is_listed failed)) →
    ((r : Run) → IsRunOver os r.periods (is_listed failed) first now r → periods ≤ r.periods → FailedBy r batch t (is_listed failed)) →
    ((r : Run) → IsRunOver os r.periods (is_listed failed) first now r → periods ≤ r.periods → ReadBy r batch t (is_listed failed) now) →
    IsResumeCutShort os batch periods mark first now
cut_behind os batch periods mark t b calls failed first now behind within knows tells sides reads same goes wrote fail short past = record {
  fails = is_listed failed;
  told = tells.failures;
  sides = sides;
  reads = reads;
  fronts = λ r run.
      let e = run.same_periods in
      let is = subst (λ (p : ℕ). IsRunOver os p (is_listed failed) first now r) (sym e) run in
      let here = goes r is (omega (arith, e)) in
      let written = wrote r is (omega (arith, e)) in
      record {
        out = λ c i. out_front_from r c (worked_to r mark.period c) (worked_to r t c) (end_in r c - start_of (done_in r) c)
            (is_listed failed c Out) (first c Out)
            (now c Out) (sooner (end_in r c) (start_of (done_in r) c)) (least (end_in r c) (start_of (done_in r) c)) (written.out c i);
        down = λ c i. down_front_from r c (worked_to r mark.period c) (worked_to r t c) (end_in r c - start_of (done_in r) c)
            (is_listed failed c Down) (first c Down)
            (now c Down) (sooner (end_in r c) (start_of (done_in r) c)) (least (end_in r c) (start_of (done_in r) c)) (written.down c i);
        others = here.lines.others;
      };
  clock = t;
  within = within;
  stops = λ r run.
      let e = run.same_periods in
      let is = subst (λ (p : ℕ). IsRunOver os p (is_listed failed) first now r) (sym e) run in
      let here = goes r is (omega (arith, e)) in
      stops_from r t (standing b failed now) first now here.lines (fail r is (omega (arith, e))) mark.period (wrote r is (omega (arith, e)));
  opened = λ r run.
      let e = run.same_periods in
      let is = subst (λ (p : ℕ). IsRunOver os p (is_listed failed) first now r) (sym e) run in
      let here = goes r is (omega (arith, e)) in
      only_opened r t b failed here.follows.so_far knows;
  short = λ r run.
      let e = run.same_periods in
      let is = subst (λ (p : ℕ). IsRunOver os p (is_listed failed) first now r) (sym e) run in
      short r is (omega (arith, e));
  read_past = λ r run.
      let e = run.same_periods in
      let is = subst (λ (p : ℕ). IsRunOver os p (is_listed failed) first now r) (sym e) run in
      past r is (omega (arith, e));
  held = λ r run differs. absurd (differs (same r run));
  there = λ are told n. there_is os n (is_listed failed) first now are
      (λ c s n i. let octets = told c s n i in let k = reads c s octets.0 i octets.1 in (octets.0, k.0, octets.1, k.1));
}
  where
    least : (e s : ℕ) → min t e - s ≤ e - s
    least e s = omega arith

    sooner : (e s : ℕ) → min mark.period e - s ≤ min t e - s
    sooner e s = omega arith

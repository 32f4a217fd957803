-- For crates above: a resumed run that did not begin is one that was cut short (`unbegun_cut`).
-- A resumed run: where its mark is compared, at its end, and where want of memory cuts it short.
use Rattle.std.proofs.Common.{◌≡◌, refl, sym, ap, ◌∙◌, subst, ℕ, ◌≤◌, Bool, true, false, List, [], length, map, arith}
use Rattle.std.specs.Prelude.{max, is_some}
use Rattle.std.specs.Io.KnownBytes.{Appends}
use Rattle.std.proofs.KnownBytes.{Appends-nil}
use Rattle.trau_io.specs.declared.line.Line.{Line}
use Rattle.trau_io.specs.declared.line.Side.{Side}
use Rattle.trau_io.specs.declared.line.Side.TheVariants.{Down, Out}
use Rattle.trau_io.specs.Lines.{LineState}
use Rattle.trau_orders.specs.declared.order.Order.{Order}
use Rattle.farm_checkpoint.specs.declared.mark.MarkCall.{MarkCall}
use Rattle.farm_checkpoint.specs.Marks.{MarkView}
use Rattle.farm_checkpoint.specs.Differences.{IsLeastDifference}
use Rattle.farm_report.specs.View.{ReportView}
use Rattle.farm_rounds.specs.Calls.{call_in}
use Rattle.farm_rounds.specs.Numbers.{IsRising, is_among}
use Rattle.run_spec.specs.Run.{Run, worked_to}
use Rattle.run_spec.specs.Facts.{report_of}
use Rattle.run_spec.specs.Mark.{marked_calls}
use Rattle.farm_run.specs.declared.outgoing.Outgoing.{Outgoing}
use Rattle.farm_run.specs.declared.outgoing.Outgoing.TheVariants.{Written}
use Rattle.farm_run.specs.declared.pace.Pace.{Pace}
use Rattle.farm_run.specs.declared.stage.Stage.{Stage}
use Rattle.farm_run.specs.Fronts.{IsCutShort}
use Rattle.farm_run.specs.Marking.{entry_of}
use Rattle.farm_run.specs.Noted.{IsAtEnd}
use Rattle.farm_run.specs.Outgoing.{is_held, is_summed, sum_to}
use Rattle.farm_run.specs.Resuming.{LeavesFrom, ResumesRun, FindsDifference, IsResumeCutShort}
use Rattle.farm_run.specs.Runs.{TellsFailed, IsRunOver, HasWritten, OnlyOpenedFail, FailedBy, FailedShort, ReadBy, ReadToEnd, is_listed}
use Rattle.farm_run.specs.Stages.{IsStage, IsFirstStage, HoldsBack, Reaches, SumsAt}
use Rattle.farm_run.specs.Standing.{Standing, standing, is_over, StandingGoesOn}
use Rattle.farm_run.specs.Clock.{IsAtClock, WrittenFrom}
use Rattle.farm_run.proofs.Clocks.First.{tells_none, flags_of, lines_at_first}
use Rattle.farm_run.proofs.Clocks.Last.{up_rest, pcm_rest, leaves_from}
use Rattle.farm_run.proofs.Lines.Cutting.{cut_at, cut_before, cut_behind, none_yet}
use Rattle.farm_run.proofs.Lines.Stopping.{FailBefore, only_opened, fail_before}
use Rattle.farm_run.proofs.Lines.Gaining.{none_out, none_down}
use Rattle.farm_run.proofs.Marked.Calls.{entries_are}
use Rattle.farm_run.proofs.Clocks.Meeting.{stays, further}
use Rattle.farm_run.proofs.Clocks.Reaching.{GoneTo, gone_first, gone_more, wrote_first, summed_first}
use Rattle.farm_run.proofs.Lines.Sides.{sides_none}
use Rattle.farm_run.proofs.Worked.Short.{short_none}
use Rattle.farm_run.proofs.Lines.Telling.{there, at_end, opened_end, short_end, read_end, report_end, wrote_end, marked_end, over_here}

-- ---- cut short

module _ (os : List Order) (batch periods : ℕ) (first now : ℕ → Side → LineState) (u : Stage)
    (g : GoneTo os batch first now u) (l : u.clock ≤ periods) where
  -- a longer run is at this clock
  at_here : (r : Run) → IsRunOver os r.periods (is_listed u.farm.failed) first now r → periods ≤ r.periods →
      IsAtClock r u.clock u.board u.farm.calls (standing u.board u.farm.failed now) first now
  at_here r run least = g.at r (standing u.board u.farm.failed now) run (omega (arith, l, least)) (stays (standing u.board u.farm.failed now))

  -- each incoming line that failed did so short of what its round takes
  short_here : (r : Run) → IsRunOver os r.periods (is_listed u.farm.failed) first now r →
      periods ≤ r.periods → FailedBy r batch u.clock (is_listed u.farm.failed)
  short_here r run least = g.short r (standing u.board u.farm.failed now) run (omega (arith, l, least)) (stays (standing u.board u.farm.failed now))

  -- of the others of calls that their lines ended so much was read
  past_here : (r : Run) → IsRunOver os r.periods (is_listed u.farm.failed) first now r → periods ≤ r.periods →
      ReadBy r batch u.clock (is_listed u.farm.failed) now
  past_here r run least = g.read_past r (standing u.board u.farm.failed now) run (omega (arith, l, least)) (stays (standing u.board u.farm.failed now))

  -- the call of each incoming line that failed ended before it, by its lines
  fail_here : (r : Run) → IsRunOver os r.periods (is_listed u.farm.failed) first now r →
      periods ≤ r.periods → FailBefore r u.clock (is_listed u.farm.failed)
  fail_here r run least =
      let known = g.known r (standing u.board u.farm.failed now) run (omega (arith, l, least)) (stays (standing u.board u.farm.failed now)) in
      let s = g.stage in
      fail_before r u.clock batch u.board u.farm.failed s.clock.ends known.truly s.knows (short_here r run least)

  -- **At a clock a run is cut short.**
  pub cut_here : ((r : Run) (z : Standing) → IsRunOver os r.periods z.listed first z.lines r → u.clock ≤ r.periods →
      StandingGoesOn (standing u.board u.farm.failed now) z → WrittenFrom r 0 u.clock (is_listed u.farm.failed) first now) →
      IsCutShort os batch periods first now
  cut_here wrote = cut_at os batch periods u.clock u.board u.farm.calls u.farm.failed first now l (let s = g.stage in s.knows) g.tells g.sides g.reads at_here
      (λ r run least. wrote r (standing u.board u.farm.failed now) run (omega (arith, l, least)) (stays (standing u.board u.farm.failed now))) fail_here short_here
      past_here

  -- the run to there is at this clock
  at_last : (r : Run) → IsRunOver os periods (is_listed u.farm.failed) first now r →
      IsAtClock r u.clock u.board u.farm.calls (standing u.board u.farm.failed now) first now
  at_last r run =
      let e = run.same_periods in
      at_here r (subst (λ (p : ℕ). IsRunOver os p (is_listed u.farm.failed) first now r) (sym e) run) (omega (arith, e))

  -- **A resumed run that wrote nothing is cut short there.**
  pub cut_unwritten : (mark : MarkView) → u.clock ≤ mark.period → HoldsBack (is_listed []) (is_listed u.farm.failed) first now →
      IsResumeCutShort os batch periods mark first now
  cut_unwritten mark early back =
      cut_before os batch periods u.clock mark (is_over u.board) u.farm.failed first now l early g.tells g.sides g.reads back
      (λ r run. let here = at_last r run in
      let knows = (let s = g.stage in s.knows) in
      only_opened r u.clock u.board u.farm.failed here.follows.so_far knows)
      (λ r run. (at_last r run).lines)
      (λ r run. let e = run.same_periods in
      fail_here r (subst (λ (p : ℕ). IsRunOver os p (is_listed u.farm.failed) first now r) (sym e) run) (omega (arith, e)))
      (λ r run. let e = run.same_periods in
      short_here r (subst (λ (p : ℕ). IsRunOver os p (is_listed u.farm.failed) first now r) (sym e) run) (omega (arith, e)))
      (λ r run. let e = run.same_periods in
      past_here r (subst (λ (p : ℕ). IsRunOver os p (is_listed u.farm.failed) first now r) (sym e) run) (omega (arith, e)))

  -- **A resumed run that wrote what lies behind the mark's period is cut short there, if the mark is the run's.**
  pub cut_written : (mark : MarkView) → mark.period ≤ u.clock →
      ((r : Run) → IsRunOver os mark.period (is_listed u.farm.failed) first now r → marked_calls r ≡ mark.calls) →
      ((r : Run) (z : Standing) → IsRunOver os r.periods z.listed first z.lines r → u.clock ≤ r.periods →
      StandingGoesOn (standing u.board u.farm.failed now) z → WrittenFrom r mark.period u.clock (is_listed u.farm.failed) first now) →
      IsResumeCutShort os batch periods mark first now
  cut_written mark behind same wrote =
      cut_behind os batch periods mark u.clock u.board u.farm.calls u.farm.failed first now behind l (let s = g.stage in s.knows) g.tells g.sides g.reads same
      at_here
      (λ r run least. wrote r (standing u.board u.farm.failed now) run (omega (arith, l, least)) (stays (standing u.board u.farm.failed now))) fail_here short_here
      past_here

-- **A run that came to a clock is cut short there.**
pub part_cut : (os : List Order) (batch periods : ℕ) (o : Outgoing) (s : Stage) (first now : ℕ → Side → LineState) →
    IsFirstStage os o s → is_held o ≡ false →
    ((after : Stage) × (after.clock ≤ periods) × Reaches batch s after first now) → IsCutShort os batch periods first now
part_cut os batch periods o s first now f written after =
    cut_here os batch periods first now after.0 (gone_more os batch first first now s after.0 (gone_first os batch o s first f) after.2) after.1
    (wrote_first os batch o s after.0 first now f written after.2)

-- **A resumed run that holds back what it has come to is cut short there.**
pub held_cut : (os : List Order) (batch periods until : ℕ) (mark : MarkView) (o : Outgoing) (s : Stage)
    (first now : ℕ → Side → LineState) → IsFirstStage os o s →
    is_held o ≡ true → until ≤ periods → until ≤ mark.period →
    ((after : Stage) × (after.clock ≤ until) × Reaches batch s after first now) → IsResumeCutShort os batch periods mark first now
held_cut os batch periods until mark o s first now f held within early after =
    let u = after.0 in
    let back = (let h = after.2 in h.back (ap is_held f.way ∙ held)) in
    let l = after.1 in
    cut_unwritten os batch periods first now after.0 (gone_more os batch first first now s after.0 (gone_first os batch o s first f) after.2)
    (omega (arith, l, within)) mark (omega (arith, l, early))
    (subst (λ (ls : List Line). HoldsBack (is_listed ls) (is_listed u.farm.failed) first now) f.none_failed back)

-- **A resumed run that didn't begin is cut short.**
pub unbegun_cut : (os : List Order) (batch periods : ℕ) (mark : MarkView)
    (lines : ℕ → Side → LineState) → IsResumeCutShort os batch periods mark lines lines
unbegun_cut os batch periods mark lines =
    cut_before os batch periods 0 mark (λ c. false) [] lines lines (omega arith) (omega arith) (tells_none lines) (sides_none lines) (λ c s octets i e. (0, e))
    (record { lines = λ c s o. refl; listed = λ c s o. refl }) (λ r run c s l. cc) (λ r run. lines_at_first r os periods lines (none_yet lines) run)
    (λ r run c s i l. cc) (λ r run. short_none r batch 0) (λ r run c i ended not. absurd (omega (arith, ended)))

-- ---- where the mark is compared

module _ (os : List Order) (pace : Pace) (mark : MarkView) (o : Outgoing) (s m : Stage)
    (first mid : ℕ → Side → LineState) (begins : IsFirstStage os o s)
    (held : is_held o ≡ true) (summed : is_summed o ≡ true)
    (none : (c : ℕ) (side : Side) → sum_to o c side ≡ 0) (come : Reaches pace.batch s m first mid) (e : m.clock ≡ mark.period)
    (live : (c : ℕ) → is_among m.farm.live c ≡ is_some (call_in m.farm.calls c)) (rising : IsRising m.farm.live) (calls : List MarkCall)
    (entries : calls ≡ map (entry_of m) m.farm.live) where
  -- the run to the mark's period
  g : GoneTo os pace.batch first mid m
  g = gone_more os pace.batch first first mid s m (gone_first os pace.batch o s first begins) come

  -- nothing of it was written
  back : HoldsBack (is_listed []) (is_listed m.farm.failed) first mid
  back = subst (λ (ls : List Line). HoldsBack (is_listed ls) (is_listed m.farm.failed) first mid) begins.none_failed (come.back (ap is_held begins.way ∙ held))

  -- its sums are those of all octets before the mark
  sums : (r : Run) (z : Standing) → IsRunOver os r.periods z.listed first z.lines r → m.clock ≤ r.periods →
      StandingGoesOn (standing m.board m.farm.failed mid) z → SumsAt r m.clock (sum_to m.outgoing)
  sums = summed_first os pace.batch o s m first mid begins summed none come

  -- **A mark that isn't that of the run.**
  pub difference_told : (call : ℕ) → IsLeastDifference mark.calls calls call → FindsDifference os pace mark first mid call
  difference_told call least = record {
    failed = m.farm.failed;
    told = g.tells;
    sides = g.sides;
    reads = g.reads;
    unwritten = back.lines;
    differs = λ r run. subst (λ (xs : List MarkCall). IsLeastDifference mark.calls xs call)
        (entries ∙ marked_end os pace.batch first mid m g live rising sums r (over r run)) least;
    up_read = λ r run. up_rest r m.board m.farm.calls m.farm.failed first mid (at_end os pace.batch first mid m g r (over r run));
    pcm_read = λ r run. pcm_rest r m.board m.farm.calls m.farm.failed first mid (at_end os pace.batch first mid m g r (over r run));
    others = λ r run. let here = at_end os pace.batch first mid m g r (over r run) in here.lines.others;
    opened = λ r run. opened_end os pace.batch first mid m g r (over r run);
    short = λ r run. short_end os pace.batch first mid m g r (over r run);
    read_past = λ r run. read_end os pace.batch first mid m g r (over r run);
    there = λ are told. there os pace.batch first mid m g are told mark.period;
  }
    where
      over : (r : Run) → IsRunOver os mark.period (is_listed m.farm.failed) first mid r →
          IsRunOver os m.clock (is_listed m.farm.failed) first mid r
      over r run = over_here os mark.period m.farm.failed first mid m e refl r run

  -- ---- from there on

  -- from there on octets are written
  pub stage_written : IsStage (record m { outgoing = Written })
  stage_written = let s = g.stage in record { clock = s.clock; bridges = s.bridges; ended = s.ended; knows = s.knows; few = s.few }

  -- the run to there is the same
  gone_written : GoneTo os pace.batch first mid (record m { outgoing = Written })
  gone_written = record {
    stage = stage_written;
    kept = g.kept;
    fell = g.fell;
    tells = g.tells;
    sides = g.sides;
    reads = g.reads;
    at = g.at;
    known = g.known;
    short = g.short;
    read_past = g.read_past;
  }

  -- nothing is written yet
  none_written : (r : Run) → WrittenFrom r m.clock m.clock (is_listed m.farm.failed) first mid
  none_written r = record {
    out = λ c i. nothing (is_listed m.farm.failed c Out) (first c Out) (mid c Out) _ (back.listed c Out tt) (back.lines c Out tt)
        (none_out r c (worked_to r m.clock c));
    down = λ c i. nothing (is_listed m.farm.failed c Down) (first c Down) (mid c Down) _ (back.listed c Down tt) (back.lines c Down tt)
        (none_down r c (worked_to r m.clock c));
  }
    where
      nothing : (fails : Bool) (was is : LineState) (octets : List ℕ) → fails ≡ false → is ≡ was →
          octets ≡ [] → HasWritten fails was is octets
      nothing fails was is octets f l n =
          subst (λ (x : Bool). HasWritten x was is octets) (sym f)
          (subst (Appends was.written is.written) (sym n) (subst (λ (x : LineState). Appends was.written x.written []) (sym l) (Appends-nil was.written)))

  module _ (now : ℕ → Side → LineState) (u : Stage) (h : Reaches pace.batch (record m { outgoing = Written }) u mid now) where
    -- the run goes on to there
    pub gone_on : GoneTo os pace.batch first now u
    gone_on = gone_more os pace.batch first mid now (record m { outgoing = Written }) u gone_written h

    -- **From the mark's period on all is written.**
    pub wrote_on : (r : Run) (z : Standing) → IsRunOver os r.periods z.listed first z.lines r → u.clock ≤ r.periods →
        StandingGoesOn (standing u.board u.farm.failed now) z → WrittenFrom r mark.period u.clock (is_listed u.farm.failed) first now
    wrote_on r z run within on =
        let later = h.later in
        subst (λ (from : ℕ). WrittenFrom r from u.clock (is_listed u.farm.failed) first now) e
        (h.wrote refl m.clock (omega arith) r first z (flags_of r os r.periods first z run) within on
        (g.at r z run (omega (arith, later, within)) (further _ _ _ h.goes on)) (none_written r))

    -- the run to the mark's period has the calls that were live there
    at_mark : (r : Run) → IsRunOver os mark.period (is_listed u.farm.failed) first now r → map (entry_of m) m.farm.live ≡ marked_calls r
    at_mark r run =
        let p = run.same_periods in
        let z : Standing = standing u.board u.farm.failed now in
        let here : IsRunOver os r.periods (is_listed u.farm.failed) first now r =
        subst (λ (n : ℕ). IsRunOver os n (is_listed u.farm.failed) first now r) (sym p) run in
        let clock : m.clock ≡ r.periods = e ∙ sym p in
        let within : m.clock ≤ r.periods = omega (arith, clock) in
        entries_are m live rising g.stage r z first mid (g.at r z here within h.goes) clock (sums r z here within h.goes)

    -- **Where there is no memory, it is cut short behind the mark.**
    pub written_cut : mark.calls ≡ calls → u.clock ≤ max mark.period pace.periods →
        IsResumeCutShort os pace.batch (max mark.period pace.periods) mark first now
    written_cut same within =
        cut_written os pace.batch (max mark.period pace.periods) first now u gone_on within mark
        (let later = h.later in omega (arith, later, e)) (λ r run. sym (same ∙ entries ∙ at_mark r run)) wrote_on

    -- **A resumed run that came to its last period leaves and reports what the run of the definition gives behind the
    -- mark.**
    pub resumes_told : mark.calls ≡ calls → u.clock ≡ max mark.period pace.periods → (count : ℕ) →
        count ≡ length os → (report : ReportView) →
        report.failed ≡ u.farm.failed →
        ((r : Run) (t : ℕ) → IsAtEnd r t u.board u.farm.calls u.farm.tallies u.notes →
        r.periods ≡ max mark.period pace.periods → length r.orders ≡ count →
        report ≡ report_of r report.failed) →
        ResumesRun os pace mark first now report
    resumes_told same eu count number report f told = record {
      failed = subst (λ (ls : List Line). TellsFailed first now ls) (sym f) gone_on.tells;
      sides = gone_on.sides;
      reads = gone_on.reads;
      leaves = λ r run.
          let is = over r run in
          subst (λ (ls : List Line). LeavesFrom r mark.period (is_listed ls) first now) (sym f)
          (leaves_from r u.board u.farm.calls u.farm.failed first now (at_end os pace.batch first now u gone_on r is) mark.period
          (wrote_end os pace.batch first now u gone_on mark.period wrote_on r is));
      reports = λ r run. report_end os pace.batch first now u gone_on count report number (λ r t end p. told r t end (p ∙ eu)) r (over r run);
      same_mark = λ r run. sym (same ∙ entries ∙ at_mark r (subst (λ (ls : List Line). IsRunOver os mark.period (is_listed ls) first now r) f run));
      opened = λ r run. subst (λ (ls : List Line). OnlyOpenedFail r (is_listed ls)) (sym f) (opened_end os pace.batch first now u gone_on r (over r run));
      short = λ r run. subst (λ (ls : List Line). FailedShort r pace.batch (is_listed ls)) (sym f) (short_end os pace.batch first now u gone_on r (over r run));
      read_past = λ r run. subst (λ (ls : List Line). ReadToEnd r pace.batch (is_listed ls) now) (sym f)
          (read_end os pace.batch first now u gone_on r (over r run));
      there = λ are told periods. subst (λ (ls : List Line). (r : Run) × IsRunOver os periods (is_listed ls) first now r) (sym f)
          (there os pace.batch first now u gone_on are told periods);
    }
      where
        over : (r : Run) → IsRunOver os (max mark.period pace.periods) (is_listed report.failed) first now r →
            IsRunOver os u.clock (is_listed u.farm.failed) first now r
        over r run = over_here os (max mark.period pace.periods) report.failed first now u eu f r run

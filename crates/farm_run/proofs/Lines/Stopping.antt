-- For crates above: a run that left all its output stopped at its end, from its start or from a mark on (`stops_all`,
-- `stops_all_from`).
-- A run that stops at a period, before its end or there.
use Rattle.std.proofs.Common.{◌≡◌, refl, sym, ap, ◌∙◌, subst, ℕ, ◌+◌, ◌-◌, ◌*◌, ◌<◌, ◌≤◌, Bool, true, false, Option, Some, None, List, [], length, take, drop}
use Rattle.std.proofs.Common.{inl, inr, arith}
use Rattle.std.specs.Prelude.{min, is_some, option_map, nat_le, if◌then◌else◌, IfSome}
use Rattle.std.specs.Io.KnownBytes.{Appends}
use Rattle.std.proofs.KnownBytes.{Appends-nil}
use Rattle.std.proofs.lemmas.Bool.{leb-false, true≢false}
use Rattle.std.proofs.lemmas.List.{length-take, drop_all}
use Rattle.trau_io.specs.declared.ends.CallEnd.{CallEnd}
use Rattle.trau_io.specs.declared.ends.Cause.TheVariants.{Limit}
use Rattle.trau_io.specs.declared.line.Line.{Line}
use Rattle.trau_io.specs.declared.line.Side.{Side}
use Rattle.trau_io.specs.declared.line.Side.TheVariants.{Up, Pcm, Down, Out}
use Rattle.trau_io.specs.Lines.{LineState}
use Rattle.trau_orders.specs.Lists.{AreOrders}
use Rattle.round_lines.specs.Rounds.{IsIncoming}
use Rattle.switchboard.specs.Calls.{opened_at, closed_at}
use Rattle.switchboard.specs.Ends.{start_of, lack_of}
use Rattle.switchboard.specs.State.{State, EndBefore, gone_in, end_told}
use Rattle.switchboard.proofs.Boards.Whole.{end_by}
use Rattle.run_spec.specs.Run.{Run, given_in, whole_in, done_in, end_in, periods_to, IsOpened, cause_in, worked_to}
use Rattle.run_spec.specs.Lines.{out_of_call, down_of_call}
use Rattle.run_spec.specs.Now.{IsSoFar}
use Rattle.run_spec.proofs.Periods.Next.{opened_run}
use Rattle.run_spec.proofs.Parts.LongerLines.{length-periods_to}
use Rattle.run_spec.proofs.Periods.SoFar.{so_far_at_first}
use Rattle.farm_run.specs.Runs.{HasWritten, IsCutOff, IsReadTo, IsReadWhole, Leaves, OnlyOpenedFail, FailedBy, FailedShort, is_listed}
use Rattle.farm_run.specs.Fronts.{StopsAt}
use Rattle.farm_run.specs.Resuming.{LeavesFrom, StopsFrom}
use Rattle.farm_run.specs.Noted.{TellsTruly}
use Rattle.farm_run.specs.Stages.{HoldsBack}
use Rattle.farm_run.specs.Standing.{Standing, KnowsListed}
use Rattle.farm_run.specs.Clock.{LinesAt, WrittenFrom}
use Rattle.farm_run.proofs.Clocks.Last.{all_out, all_down, rest_of}
use Rattle.farm_run.proofs.Clocks.Reach.{worked_all}
use Rattle.farm_run.proofs.Lines.Gaining.{out_taken, down_taken}

-- **Of a call that the run opens is each line that is listed as failed.**
pub only_opened : (r : Run) (t : ℕ) (b : State) (failed : List Line) → IsSoFar r t b.done b.left →
    KnowsListed b failed → OnlyOpenedFail r (is_listed failed)
only_opened r t b failed so knows = λ c side l. by c (opened_at c b.done) refl (knows.opened c side l)
  where
    by : (c : ℕ) (v : Option ℕ) → opened_at c b.done ≡ v → is_some (opened_at c b.done) ≡ true → IsOpened r c
    by c (Some s) e o = ap is_some (opened_run r t b.done b.left c s so e)
    by c None e o = absurd (true≢false (sym o ∙ ap is_some e))

-- the call of each incoming line that failed ended before t, by its lines
abbrev pub FailBefore : Run → ℕ → (ℕ → Side → Bool) → Type 0
FailBefore r t fails = (c : ℕ) (side : Side) → IsIncoming side → fails c side ≡ true → (end_in r c < t) × (IsCutOff (cause_in r c) → ⊥)

-- a line that failed short of a round's octets is one of a call that its lines ended
by_lines : (r : Run) (batch t : ℕ) (fails : ℕ → Side → Bool) (c : ℕ) (side : Side) →
    FailedBy r batch t fails → IsIncoming side → fails c side ≡ true →
    IsCutOff (cause_in r c) → ⊥
by_lines r batch t fails c Up short i l = let f = short.up c l in let here = f.4 in here.by_lines
by_lines r batch t fails c Pcm short i l = let f = short.pcm c l in let here = f.4 in here.by_lines
by_lines r batch t fails c Down short i l = absurd i
by_lines r batch t fails c Out short i l = absurd i

-- **So did the call of each that is listed: the end was told, and it is the run's.**
pub fail_before : (r : Run) (t batch : ℕ) (b : State) (failed : List Line) → EndBefore t b → TellsTruly r b → KnowsListed b failed →
    FailedBy r batch t (is_listed failed) → FailBefore r t (is_listed failed)
fail_before r t batch b failed before truly knows short =
    λ c side i l. (by c (end_told b c) refl (knows.ended c side i l), by_lines r batch t (is_listed failed) c side short i l)
  where
    at_of : Option CallEnd → Option ℕ
    at_of o = option_map (λ (e : CallEnd). e.at) o

    by : (c : ℕ) (v : Option CallEnd) → end_told b c ≡ v → gone_in b c ≡ true → end_in r c < t
    by c (Some e) q g =
        let is = ap (λ (e : CallEnd). e.at) (truly c e q) in
        let l = subst (λ (o : Option CallEnd). IfSome (at_of o) (λ at. at < t)) q (before c) in
        omega (arith, is, l)
    by c None q g = absurd (true≢false (sym g ∙ ap (λ (o : Option CallEnd). is_some (at_of o)) q))

-- a call has had no more periods than it has
fewer : (r : Run) (t c : ℕ) → worked_to r t c ≤ end_in r c - start_of (done_in r) c
fewer r t c = by (end_in r c) (start_of (done_in r) c)
  where
    by : (e s : ℕ) → min t e - s ≤ e - s
    by e s = omega arith

-- ---- at a clock

module _ (r : Run) (t : ℕ) (last : Standing) (first now : ℕ → Side → LineState) (at : LinesAt r t last first now)
    (fail : FailBefore r t last.listed) where
  -- exactly the octets of the periods before it were read
  up_to : (c : ℕ) → IsOpened r c → last.listed c Up ≡ false → IsReadWhole r t c → IsReadTo (now c Up) (40 * worked_to r t c) (r.lines c).up
  up_to c i f q = rest_of (last.listed c Up) (now c Up) (last.lines c Up) (40 * worked_to r t c) (r.lines c).up f (at.up_read c i q)

  pcm_to : (c : ℕ) → IsOpened r c → last.listed c Pcm ≡ false → IsReadWhole r t c →
      IsReadTo (now c Pcm) (160 * worked_to r t c) (r.lines c).pcm
  pcm_to c i f q = rest_of (last.listed c Pcm) (now c Pcm) (last.lines c Pcm) (160 * worked_to r t c) (r.lines c).pcm f (at.pcm_read c i q)

  -- **A run that wrote what lies before the clock stops there.**
  pub stops_at : WrittenFrom r 0 t last.listed first now → StopsAt r t last.listed first now
  stops_at wrote = record {
    out = λ c i. subst (HasWritten (last.listed c Out) (first c Out) (now c Out))
        (out_taken r c (worked_to r t c) (end_in r c - start_of (done_in r) c) (fewer r t c)) (all_out r t c last.listed first now wrote i);
    down = λ c i. subst (HasWritten (last.listed c Down) (first c Down) (now c Down))
        (down_taken r c (worked_to r t c) (end_in r c - start_of (done_in r) c) (fewer r t c)) (all_down r t c last.listed first now wrote i);
    up_read = up_to;
    pcm_read = pcm_to;
    over = fail;
  }

  -- **A run that wrote only what lies behind an earlier period stops at the clock.**
  pub stops_from : (from : ℕ) → WrittenFrom r from t last.listed first now → StopsFrom r from t last.listed first now
  stops_from from wrote = record {
    out = λ c i. subst (λ (xs : List ℕ). HasWritten (last.listed c Out) (first c Out) (now c Out) (drop (160 * worked_to r from c) xs))
        (out_taken r c (worked_to r t c) (end_in r c - start_of (done_in r) c) (fewer r t c)) (wrote.out c i);
    down = λ c i. subst (λ (xs : List ℕ). HasWritten (last.listed c Down) (first c Down) (now c Down) (drop (40 * worked_to r from c) xs))
        (down_taken r c (worked_to r t c) (end_in r c - start_of (done_in r) c) (fewer r t c)) (wrote.down c i);
    up_read = up_to;
    pcm_read = pcm_to;
    over = fail;
  }

  -- **A run that hasn't come past that period, and wrote nothing, stops at the clock.**
  pub stops_before : (from : ℕ) → t ≤ from → HoldsBack (is_listed []) last.listed first now → StopsFrom r from t last.listed first now
  stops_before from l back = record {
    out = λ c i. none (last.listed c Out) (first c Out) (now c Out) _ (back.listed c Out tt) (back.lines c Out tt)
        (nothing (160 * worked_to r from c) (160 * worked_to r t c) (out_of_call r c) (omega (arith, sooner c)));
    down = λ c i. none (last.listed c Down) (first c Down) (now c Down) _ (back.listed c Down tt) (back.lines c Down tt)
        (nothing (40 * worked_to r from c) (40 * worked_to r t c) (down_of_call r c) (omega (arith, sooner c)));
    up_read = up_to;
    pcm_read = pcm_to;
    over = fail;
  }
    where
      sooner : (c : ℕ) → worked_to r t c ≤ worked_to r from c
      sooner c = by (end_in r c) (start_of (done_in r) c)
        where
          by : (e s : ℕ) → min t e - s ≤ min from e - s
          by e s = omega (arith, l)

      nothing : (k m : ℕ) (xs : List ℕ) → m ≤ k → drop k (take m xs) ≡ []
      nothing k m xs l = drop_all k (take m xs) (omega (arith, length-take m xs, l))

      none : (fails : Bool) (was is : LineState) (octets : List ℕ) → fails ≡ false → is ≡ was → octets ≡ [] → HasWritten fails was is octets
      none fails was is octets f e n =
          subst (λ (x : Bool). HasWritten x was is octets) (sym f)
          (subst (Appends was.written is.written) (sym n) (subst (λ (x : LineState). Appends was.written x.written []) (sym e) (Appends-nil was.written)))

-- ---- at the run's end

-- where it is at the run's end, no line ended the call
abbrev IsLimited : Run → CallEnd → Type 0
IsLimited r e = r.periods ≤ e.at → IsCutOff e.cause

same : (n : ℕ) → n ≤ n
same n = omega arith

module _ (r : Run) (are : AreOrders r.orders) where
  -- the periods of a call
  abbrev count : ℕ → ℕ
  count c = end_in r c - start_of (done_in r) c

  -- all periods of a call lie before the run's end
  all : (c : ℕ) → worked_to r r.periods c ≡ count c
  all c = worked_all r 0 [] r.orders c (so_far_at_first r are)

  long : (c : ℕ) → length (periods_to r c (count c)) ≡ worked_to r r.periods c
  long c = length-periods_to r c (count c) ∙ sym (all c)

  -- all that a call's periods give lies before the run's end
  out_all : (c : ℕ) → out_of_call r c ≡ take (160 * worked_to r r.periods c) (out_of_call r c)
  out_all c = subst (λ (k : ℕ). out_of_call r c ≡ take (160 * k) (out_of_call r c)) (sym (all c)) (out_taken r c (count c) (count c) (same (count c)))

  down_all : (c : ℕ) → down_of_call r c ≡ take (40 * worked_to r r.periods c) (down_of_call r c)
  down_all c = subst (λ (k : ℕ). down_of_call r c ≡ take (40 * k) (down_of_call r c)) (sym (all c)) (down_taken r c (count c) (count c) (same (count c)))

  -- a call that comes to it isn't ended by its lines
  cut_off : (c : ℕ) → IsReadWhole r r.periods c → IsCutOff (cause_in r c)
  cut_off c (inr q) = q
  cut_off c (inl l) = by (closed_at c (done_in r)) refl l
    where
      there : (s : ℕ) (b : Bool) → nat_le r.periods (s + whole_in r c) ≡ b →
          IsLimited r (if b then record { call = c; at = r.periods; cause = Limit } else record {
            call = c;
            at = s + whole_in r c;
            cause = lack_of (whole_in r c) (given_in r c);
          })
      there s true e = λ l. tt
      there s false e = λ l. absurd (omega (arith, l, leb-false r.periods (s + whole_in r c) e))

      by : (v : Option ℕ) → closed_at c (done_in r) ≡ v → r.periods ≤ end_in r c → IsCutOff (cause_in r c)
      by (Some e) q = subst (λ (v : Option ℕ). IsLimited r (end_by (given_in r) r.periods c (start_of (done_in r) c) v)) (sym q) (λ l. tt)
      by None q = subst (λ (v : Option ℕ). IsLimited r (end_by (given_in r) r.periods c (start_of (done_in r) c) v)) (sym q)
          (there (start_of (done_in r) c) _ refl)

  module _ (batch : ℕ) (fails : ℕ → Side → Bool) (first now : ℕ → Side → LineState) (short : FailedShort r batch fails) where
    -- the call of each incoming line that failed ended before it
    before : (c : ℕ) (side : Side) → IsIncoming side → fails c side ≡ true → end_in r c < r.periods
    before c Up i e = let f = short.up c e in let here = f.4 in omega (arith, here.over, f.3)
    before c Pcm i e = let f = short.pcm c e in let here = f.4 in omega (arith, here.over, f.3)
    before c Down i e = absurd i
    before c Out i e = absurd i

    failed_in : FailBefore r r.periods fails
    failed_in c side i e = (before c side i e, by_lines r batch r.periods fails c side short i e)

    -- **A run that left all that it gives stopped at its end.**
    pub stops_all : Leaves r fails first now → StopsAt r r.periods fails first now
    stops_all left = record {
      out = λ c i. subst (HasWritten (fails c Out) (first c Out) (now c Out)) (out_all c) (left.out c i);
      down = λ c i. subst (HasWritten (fails c Down) (first c Down) (now c Down)) (down_all c) (left.down c i);
      up_read = λ c i f q. subst (λ (k : ℕ). IsReadTo (now c Up) (40 * k) (r.lines c).up) (long c) (left.up_read c i f (cut_off c q));
      pcm_read = λ c i f q. subst (λ (k : ℕ). IsReadTo (now c Pcm) (160 * k) (r.lines c).pcm) (long c) (left.pcm_read c i f (cut_off c q));
      over = failed_in;
    }

    -- **A run that left all that it gives from a period on stopped at its end.**
    pub stops_all_from : (from : ℕ) → LeavesFrom r from fails first now → StopsFrom r from r.periods fails first now
    stops_all_from from left = record {
      out = λ c i. subst (λ (xs : List ℕ). HasWritten (fails c Out) (first c Out) (now c Out) (drop (160 * worked_to r from c) xs)) (out_all c) (left.out c i);
      down = λ c i. subst (λ (xs : List ℕ). HasWritten (fails c Down) (first c Down) (now c Down) (drop (40 * worked_to r from c) xs)) (down_all c)
          (left.down c i);
      up_read = λ c i f q. subst (λ (k : ℕ). IsReadTo (now c Up) (40 * k) (r.lines c).up) (long c) (left.up_read c i f (cut_off c q));
      pcm_read = λ c i f q. subst (λ (k : ℕ). IsReadTo (now c Pcm) (160 * k) (r.lines c).pcm) (long c) (left.pcm_read c i f (cut_off c q));
      over = failed_in;
    }

-- A run before its first order.
use Rattle.std.proofs.Common.{◌≡◌, refl, sym, ap, ◌∙◌, subst, ℕ, ◌-◌, ◌*◌, ◌≤◌, false, Some, None, List, [], ◌∷◌, ◌++◌, length, map, drop, arith}
use Rattle.std.specs.Prelude.{min, is_some, IfSome}
use Rattle.std.specs.Io.KnownBytes.{Appends}
use Rattle.std.proofs.KnownBytes.{Appends-nil}
use Rattle.std.proofs.lemmas.Bool.{true≢false}
use Rattle.std.proofs.lemmas.List.{drop_all}
use Rattle.trau_io.specs.declared.line.Side.{Side}
use Rattle.trau_io.specs.declared.line.Side.TheVariants.{Up, Pcm, Down, Out}
use Rattle.trau_io.specs.Lines.{LineState}
use Rattle.trau_bits.specs.Bits.{octets_of}
use Rattle.trau_bits.proofs.Octets.{length-octets_of}
use Rattle.trau_orders.specs.declared.order.Order.{Order}
use Rattle.trau_orders.specs.Lists.{AreOrders}
use Rattle.switchboard.specs.Calls.{Done, opened_at}
use Rattle.switchboard.specs.Ends.{start_of}
use Rattle.switchboard.specs.State.{State, EndBefore, first_stamp, last_stamp, orders_of, new_board}
use Rattle.switchboard.specs.Open.{open_now, partner_now}
use Rattle.call_leg.specs.Who.{Who}
use Rattle.farm_rounds.specs.Calls.{Kept}
use Rattle.farm_rounds.specs.Histories.{CallsStand}
use Rattle.run_spec.specs.Run.{Run, done_in, periods_to, end_in, who_in, worked_to}
use Rattle.run_spec.specs.Now.{IsSoFar}
use Rattle.run_spec.specs.Lines.{out_line, down_octets}
use Rattle.run_spec.proofs.Periods.SoFar.{so_far_at_first}
use Rattle.farm_run.specs.Runs.{TellsFailed, IsRunOver, is_listed}
use Rattle.farm_run.specs.Standing.{Standing, KnowsListed, HasFlags, never_given}
use Rattle.farm_run.proofs.Clocks.Meeting.{told_first}
use Rattle.trau_io.specs.declared.line.Line.{Line}
use Rattle.farm_rounds.specs.Memory.{FarmMemory, home_memory}
use Rattle.farm_run.specs.declared.outgoing.Outgoing.{Outgoing}
use Rattle.farm_run.specs.declared.stage.Stage.{Stage}
use Rattle.farm_run.specs.Stages.{IsFirstStage}
use Rattle.farm_run.specs.Match.{AtClock, histories_at}
use Rattle.farm_run.specs.Clock.{LinesAt, WrittenFrom, IsAtClock, NeverFell}

-- **No line has changed, none is listed, and no count fell.**
pub fell_none : (lines : ℕ → Side → LineState) → NeverFell lines lines
fell_none lines c s = omega arith

pub tells_none : (lines : ℕ → Side → LineState) → TellsFailed lines lines []
tells_none lines = record { failures = record { rose = λ c s h. cc; kept = λ c s h. refl }; order = λ k l. absurd (omega arith) }

-- no call has had a period
pub none_worked : (r : Run) (c : ℕ) → worked_to r 0 c ≡ 0
none_worked r c = by (end_in r c) (start_of (done_in r) c)
  where
    by : (e s : ℕ) → min 0 e - s ≡ 0
    by e s = omega arith

-- no period gives no octet
pub no_octets : (who : Who) → down_octets who [] ≡ []
no_octets who = by (octets_of []) (length-octets_of [] 0 refl)
  where
    by : (xs : List ℕ) → length xs ≡ 0 → xs ≡ []
    by [] e = refl
    by (x ∷ xs) e = absurd (omega arith)

-- the lines are those at the clock 0
pub lines_at_first : (r : Run) (os : List Order) (periods : ℕ) (lines : ℕ → Side → LineState) (last : Standing) →
    IsRunOver os periods last.listed lines last.lines r → LinesAt r 0 last lines lines
lines_at_first r os periods lines last run = record {
  up_read = λ c i q. told_first (last.listed c Up) (lines c Up) (last.lines c Up) (r.lines c).up (run.up c i)
      ∙ ap (λ (k : ℕ). Some (drop (40 * k) (r.lines c).up ++ never_given (last.listed c Up) (last.lines c Up))) (sym (none_worked r c));
  pcm_read = λ c i q. told_first (last.listed c Pcm) (lines c Pcm) (last.lines c Pcm) (r.lines c).pcm (run.pcm c i)
      ∙ ap (λ (k : ℕ). Some (drop (160 * k) (r.lines c).pcm ++ never_given (last.listed c Pcm) (last.lines c Pcm))) (sym (none_worked r c));
  others = λ c s none. refl;
}

-- **Nothing is written, from whichever period on.**
pub written_first : (r : Run) (from : ℕ) (lines : ℕ → Side → LineState) → WrittenFrom r from 0 (is_listed []) lines lines
written_first r from lines = record {
  out = λ c i. none (160 * worked_to r from c) (lines c Out) _ (out c);
  down = λ c i. none (40 * worked_to r from c) (lines c Down) _ (down c);
}
  where
    out : (c : ℕ) → out_line (who_in r c) (periods_to r c (worked_to r 0 c)) ≡ []
    out c = ap (λ (k : ℕ). out_line (who_in r c) (periods_to r c k)) (none_worked r c)

    down : (c : ℕ) → down_octets (who_in r c) (periods_to r c (worked_to r 0 c)) ≡ []
    down c = ap (λ (k : ℕ). down_octets (who_in r c) (periods_to r c k)) (none_worked r c) ∙ no_octets (who_in r c)

    none : (k : ℕ) (l : LineState) (octets : List ℕ) → octets ≡ [] → Appends l.written l.written (drop k octets)
    none k l octets e = subst (Appends l.written l.written) (sym (ap (drop k) e ∙ drop_all k [] (omega arith))) (Appends-nil l.written)

-- **Before the first order board and farm stand at the clock 0.**
pub clock_first : (b : State) → AreOrders (orders_of b) → b.done ≡ [] → EndBefore 0 b → ((c : ℕ) → open_now b c ≡ false) →
    ((c : ℕ) → partner_now b c ≡ None) → AtClock 0 b []
clock_first b orders none untold shut alone = record {
  orders = orders;
  ahead = by b.left;
  past = subst (λ (ds : List Done). last_stamp ds ≤ 0) (sym none) (omega arith);
  ends = untold;
  matches = record { is_open = λ c. sym (shut c); partner = λ c. sym (alone c); number = λ c o. absurd (true≢false (sym o ∙ shut c)) };
}
  where
    by : (os : List Order) → IfSome (first_stamp os) (λ s. 0 ≤ s)
    by [] = tt
    by (o ∷ os) = omega arith

-- **A board, a farm and notes before the first order are the first stage of a run.**
pub first_stage : (orders : List Order) (outgoing : Outgoing) (s : Stage) → AreOrders orders →
    s.board ≡ new_board orders → ((t : ℕ) → EndBefore t s.board) →
    ((c : ℕ) → open_now s.board c ≡ false) → ((c : ℕ) → partner_now s.board c ≡ None) →
    s.farm ≡ home_memory → CallsStand (λ c. None) s.farm.calls →
    s.notes ≡ [] → s.outgoing ≡ outgoing → s.clock ≡ 0 → IsFirstStage orders outgoing s
first_stage orders outgoing s are start untold shut alone farm history noted way clock = record {
  stage = record {
    clock = subst (λ (t : ℕ). AtClock t s.board s.farm.calls) (sym clock) (subst (λ (ks : List Kept). AtClock 0 s.board ks) (sym none_open)
        (clock_first s.board (subst AreOrders (sym listed) are) none_done (untold 0) shut alone));
    bridges = omega (arith, ap length noted);
    ended = omega (arith, ap (λ (f : FarmMemory). f.ended) farm);
    knows = subst (λ (ls : List Line). KnowsListed s.board ls) (sym none_failed)
        (record { opened = λ c side fails. absurd (true≢false (sym fails)); ended = λ c side incoming fails. absurd (true≢false (sym fails)) });
    few = omega (arith, are.few, ap length listed);
  };
  clock = clock;
  orders = listed;
  none_done = none_done;
  untold = untold 0;
  none_open = none_open;
  none_failed = none_failed;
  histories = history;
  none_noted = noted;
  way = way;
}
  where
    listed : orders_of s.board ≡ orders
    listed = ap orders_of start

    none_done : s.board.done ≡ []
    none_done = ap (λ (b : State). b.done) start

    none_open : s.farm.calls ≡ []
    none_open = ap (λ (f : FarmMemory). f.calls) farm

    none_failed : s.farm.failed ≡ []
    none_failed = ap (λ (f : FarmMemory). f.failed) farm

-- **A run begins with no call.**
pub at_first : (r : Run) (b : State) (calls : List Kept) (periods : ℕ)
    (lines : ℕ → Side → LineState) (last : Standing) → AreOrders (orders_of b) →
    b.done ≡ [] → CallsStand (λ c. None) calls →
    IsRunOver (orders_of b) periods last.listed lines last.lines r → IsAtClock r 0 b calls last lines lines
at_first r b calls periods lines last a none g run =
    let left : b.left ≡ r.orders = sym (ap (λ (ds : List Done). map (λ (d : Done). d.order) ds ++ b.left) none) ∙ sym run.same_orders in
    record {
      follows = record {
        so_far = subst (λ (ds : List Done). IsSoFar r 0 ds b.left) (sym none)
            (subst (IsSoFar r 0 []) (sym left) (so_far_at_first r (subst AreOrders (sym run.same_orders) a)));
        tells = λ c o k. let q = sym (ap (λ (ds : List Done). is_some (opened_at c ds)) none) ∙ o in cc;
        stands = subst (λ (ds : List Done). CallsStand (histories_at r ds 0) calls) (sym none) g;
      };
      lines = lines_at_first r (orders_of b) periods lines last run;
    }

-- what is listed at the run's end is what the run says
pub flags_of : (r : Run) (os : List Order) (periods : ℕ) (first : ℕ → Side → LineState) (last : Standing) →
    IsRunOver os periods last.listed first last.lines r → HasFlags r last
flags_of r os periods first last run = record { up = run.up_failed; pcm = run.pcm_failed }

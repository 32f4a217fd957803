-- For crates above: how each call of a run ends, known in its round, and the report once all orders were executed
-- (`report_end`).
use Rattle.std.proofs.Common.{◌≡◌, refl, sym, ap, ◌∙◌, subst, ℕ, ◌+◌, ◌<◌, ◌≤◌, Bool, Option, Some, None, List, [], ◌∷◌, ◌++◌, map, arith}
use Rattle.std.specs.Prelude.{length, IfSome, not, nat_lt, filter, if◌then◌else◌}
use Rattle.std.specs.List.{AllByRecursion}
use Rattle.std.proofs.lemmas.Bool.{le-leb, lt-leb, le-ltb, lt-ltb}
use Rattle.std.proofs.lemmas.List.{append-nil}
use Rattle.std.proofs.lemmas.List.Elements.{filter-append, recursion_from_All}
use Rattle.trau_io.specs.declared.ends.Cause.TheVariants.{Closed, Limit}
use Rattle.trau_orders.specs.declared.order.Order.{Order}
use Rattle.switchboard.specs.Calls.{Done, opened_at, closed_at}
use Rattle.switchboard.specs.Runs.{left_of}
use Rattle.switchboard.specs.State.{first_stamp, replies_from}
use Rattle.switchboard.specs.Ends.{lack_of, end_of, spans_of}
use Rattle.switchboard.proofs.Orders.OneMore.{or_else}
use Rattle.switchboard.proofs.Boards.Whole.{end_by}
use Rattle.run_spec.specs.Run.{Run, given_in, whole_in, done_in}
use Rattle.trau_io.specs.declared.line.Line.{Line}
use Rattle.farm_report.specs.View.{ReportView}
use Rattle.run_spec.specs.Facts.{opened_calls, call_line, span_line, report_of}
use Rattle.run_spec.specs.Now.{IsSoFar, NoOrderTo}
use Rattle.run_spec.proofs.Orders.Executed.{closed-append, added}
use Rattle.run_spec.proofs.Orders.OpenCalls.{closed_kept, opened_kept}
use Rattle.run_spec.proofs.Periods.Settled.{closed_stamp}
use Rattle.run_spec.proofs.Periods.SoFar.{Rises, left_rises, rest_in, done-rest, rest_above, standing_rest}

-- **A closed call has ended there.**
pub end_closed : (r : Run) (t : ℕ) (ds : List Done) (left : List Order) (c s e : ℕ) → IsSoFar r t ds left → closed_at c ds ≡ Some e →
    end_of (given_in r) r.periods (done_in r) c s ≡ record { call = c; at = e; cause = Closed }
end_closed r t ds left c s e so k =
    ap (λ ds. end_of (given_in r) r.periods ds c s) (done-rest r t ds left so)
    ∙ ap (end_by (given_in r) r.periods c s) (closed_kept ds (rest_in r ds left) c e k)

-- no later order closes a call that is gone by then
unclosed : (r : Run) (t u : ℕ) (ds : List Done) (left : List Order) (c s : ℕ) → IsSoFar r t ds left → opened_at c ds ≡ Some s → closed_at c ds ≡ None →
    s + whole_in r c ≤ u → NoOrderTo u left → closed_at c (done_in r) ≡ None
unclosed r t u ds left c s so o l e n =
    ap (closed_at c) (done-rest r t ds left so) ∙ closed-append c ds later ∙ ap (λ v. or_else v (closed_at c later)) l ∙ by (closed_at c later) refl
  where
    later : List Done
    later = rest_in r ds left

    by : (v : Option ℕ) → closed_at c later ≡ v → v ≡ None
    by None f = refl
    by (Some w) f =
        let k = (standing_rest r t ds left so).closed c w (closed-append c ds later ∙ ap (λ v. or_else v (closed_at c later)) l ∙ f) in
        let g : u < w = subst (λ (v : Option ℕ). IfSome v (λ w. u < w)) f (closed_stamp (λ w. u < w) c later (rest_above r t u ds left so n)) in
        let m : k.start ≡ s = (let a = k.opened in let b = opened_kept ds later c s o in cc) in
        let z : w ≤ k.start + whole_in r c = k.alive in
        absurd (omega (arith, m))

-- **A call that lacks a period, before which its orders were executed, has ended there.**
pub end_lacks : (r : Run) (t : ℕ) (ds : List Done) (left : List Order) (c s : ℕ) → IsSoFar r t ds left → opened_at c ds ≡ Some s → closed_at c ds ≡ None →
    s + whole_in r c < r.periods → NoOrderTo (s + whole_in r c) left →
    end_of (given_in r) r.periods (done_in r) c s ≡ record { call = c; at = s + whole_in r c; cause = lack_of (whole_in r c) (given_in r c) }
end_lacks r t ds left c s so o l e n =
    ap (end_by (given_in r) r.periods c s) (unclosed r t (s + whole_in r c) ds left c s so o l (omega arith) n)
    ∙ ap (λ (b : Bool).
    if b then record { call = c; at = r.periods; cause = Limit } else record { call = c; at = s + whole_in r c; cause = lack_of (whole_in r c) (given_in r c) })
    (lt-leb r.periods (s + whole_in r c) e)

-- ---- the run's end

-- of orders from t on none is below P
pub none_left : (P t : ℕ) (os : List Order) → P ≤ t → Rises t os → filter (λ o. nat_lt o.stamp P) os ≡ []
none_left P t [] l h = refl
none_left P t (o ∷ os) l h =
    ap (λ (b : Bool). if b then o ∷ filter (λ o. nat_lt o.stamp P) os else filter (λ o. nat_lt o.stamp P) os) (le-ltb o.stamp P (let k = h.0 in omega arith))
    ∙ none_left P o.stamp os (let k = h.0 in omega arith) h.1

-- nor where the next one is not
none_below : (P t : ℕ) (os : List Order) → Rises t os → IfSome (first_stamp os) (λ s. P ≤ s) → filter (λ o. nat_lt o.stamp P) os ≡ []
none_below P t [] h n = refl
none_below P t (o ∷ os) h n =
    ap (λ (b : Bool). if b then o ∷ filter (λ o. nat_lt o.stamp P) os else filter (λ o. nat_lt o.stamp P) os) (le-ltb o.stamp P n)
    ∙ none_left P o.stamp os n h.1

-- **Once no order below the run's end is left, all orders of the run were executed.**
pub all_done : (r : Run) (t : ℕ) (ds : List Done) (left : List Order) → IsSoFar r t ds left → IfSome (first_stamp left) (λ s. r.periods ≤ s) → done_in r ≡ ds
all_done r t ds left so n =
    done-rest r t ds left so ∙ ap (λ os. ds ++ added (whole_in r) ds os) (none_below r.periods 0 left (left_rises r t ds left so) n) ∙ append-nil ds

-- none of those that were executed is left
others_left : (P : ℕ) (ds : List Done) → AllByRecursion (λ d. d.order.stamp < P) ds → left_of P (map (λ d. d.order) ds) ≡ []
others_left P [] h = refl
others_left P (d ∷ ds) h =
    ap (λ (b : Bool). if not b then d.order ∷ left_of P (map (λ d. d.order) ds) else left_of P (map (λ d. d.order) ds)) (lt-ltb d.order.stamp P h.0)
    ∙ others_left P ds h.1

-- orders from t on are all left
pub all_stay : (P t : ℕ) (os : List Order) → P ≤ t → Rises t os → left_of P os ≡ os
all_stay P t [] l h = refl
all_stay P t (o ∷ os) l h =
    let k : P ≤ o.stamp = (let m = h.0 in omega arith) in
    ap (λ (b : Bool). if not b then o ∷ left_of P os else left_of P os) (le-ltb o.stamp P k) ∙ ap (λ xs. o ∷ xs) (all_stay P o.stamp os k h.1)

-- so are they where the next one is
stay : (P t : ℕ) (os : List Order) → Rises t os → IfSome (first_stamp os) (λ s. P ≤ s) → left_of P os ≡ os
stay P t [] h n = refl
stay P t (o ∷ os) h n =
    ap (λ (b : Bool). if not b then o ∷ left_of P os else left_of P os) (le-ltb o.stamp P n) ∙ ap (λ xs. o ∷ xs) (all_stay P o.stamp os n h.1)

-- **and those that are left are the run's.**
pub all_left : (r : Run) (t : ℕ) (ds : List Done) (left : List Order) → IsSoFar r t ds left → IfSome (first_stamp left) (λ s. r.periods ≤ s) →
    left_of r.periods r.orders ≡ left
all_left r t ds left so n =
    ap (left_of r.periods) (sym so.listed) ∙ filter-append (λ o. not (nat_lt o.stamp r.periods)) (map (λ d. d.order) ds) left
    ∙ ap (λ xs. xs ++ left_of r.periods left) (others_left r.periods ds (recursion_from_All _ ds so.within))
    ∙ stay r.periods 0 left (left_rises r t ds left so) n

-- **A call that goes on to the run's end is ended by it.**
pub end_limit : (r : Run) (t : ℕ) (ds : List Done) (left : List Order) (c s : ℕ) → IsSoFar r t ds left → IfSome (first_stamp left) (λ s. r.periods ≤ s) →
    closed_at c ds ≡ None → r.periods ≤ s + whole_in r c →
    end_of (given_in r) r.periods (done_in r) c s ≡ record { call = c; at = r.periods; cause = Limit }
end_limit r t ds left c s so n l e =
    ap (end_by (given_in r) r.periods c s) (ap (closed_at c) (all_done r t ds left so n) ∙ l)
    ∙ ap (λ (b : Bool).
    if b then record { call = c; at = r.periods; cause = Limit } else record { call = c; at = s + whole_in r c; cause = lack_of (whole_in r c) (given_in r c) })
    (le-leb r.periods (s + whole_in r c) e)

-- **The report, once all orders of the run were executed.**
pub report_end : (r : Run) (t : ℕ) (ds : List Done) (left : List Order) (failed : List Line) → IsSoFar r t ds left →
    IfSome (first_stamp left) (λ s. r.periods ≤ s) →
    report_of r failed ≡ record {
      replies = replies_from 0 ds;
      spans = map (span_line r) (spans_of (given_in r) r.periods ds);
      calls = map (call_line r) (opened_calls ds);
      failed = failed;
      left = length left;
    }
report_end r t ds left failed so n =
    ap {B = ReportView} (λ ds. record {
      replies = replies_from 0 ds;
      spans = map (span_line r) (spans_of (given_in r) r.periods ds);
      calls = map (call_line r) (opened_calls ds);
      failed = failed;
      left = length (left_of r.periods r.orders);
    }) (all_done r t ds left so n)
    ∙ ap {B = ReportView} (λ os. record {
      replies = replies_from 0 ds;
      spans = map (span_line r) (spans_of (given_in r) r.periods ds);
      calls = map (call_line r) (opened_calls ds);
      failed = failed;
      left = length os;
    }) (all_left r t ds left so n)

-- A run and the same run to fewer periods: the orders up to its end are the same, and so is each period of a call
-- before it.
use Rattle.std.proofs.Common.{◌≡◌, refl, sym, ap, ◌∙◌, subst, ℕ, zero, suc, ◌+◌, ◌-◌, ◌<◌, ◌≤◌, Bool, true, false, Option, Some, None, List, [], ◌∷◌, ◌++◌, map}
use Rattle.std.proofs.Common.{inl, inr, arith}
use Rattle.std.specs.Prelude.{pos, IfSome, filter, not, nat_lt, if◌then◌else◌, ◌&&◌, ◌==◌, is_none, option_map}
use Rattle.std.specs.List.{AllByRecursion, list_any}
use Rattle.std.proofs.lemmas.Bool.{ltb-true, lt-ltb, ltb-false}
use Rattle.std.proofs.lemmas.List.Elements.{All-from_recursion}
use Rattle.trau_orders.specs.declared.order.Order.{Order}
use Rattle.trau_orders.specs.declared.order.DtxMode.TheVariants.{Uplink}
use Rattle.trau_orders.specs.Lists.{AreOrders}
use Rattle.switchboard.specs.declared.table.Bridge.{Bridge}
use Rattle.switchboard.specs.Calls.{Done, opened_at, closed_at}
use Rattle.switchboard.specs.Bridges.{bridges, joins, other}
use Rattle.switchboard.specs.State.{first_stamp}
use Rattle.switchboard.specs.Runs.{done_of, left_of, done_after}
use Rattle.switchboard.specs.Ends.{start_of}
use Rattle.call_leg.specs.Periods.{CallPeriod}
use Rattle.run_spec.specs.Run.{Run, whole_in, done_in, level_after, dtx_mode_after, up_in, pcm_in, ups_to, item_of, period_of, periods_to}
use Rattle.run_spec.specs.Now.{IsSoFar, NoOrderTo, has_period, bridge_now, handed_now, period_now}
use Rattle.run_spec.specs.Mark.{cut_at}
use Rattle.run_spec.proofs.Lists.{each_mapped, each_weaker, each_passes, each_all, find_same}
use Rattle.run_spec.proofs.Orders.Executed.{added_orders, done_after-added}
use Rattle.run_spec.proofs.Orders.OpenCalls.{opened_cases}
use Rattle.run_spec.proofs.Periods.Settled.{found_stamp}
use Rattle.run_spec.proofs.Periods.SoFar.{Rises, orders_rise, rest_in, done-rest, rest_above}
use Rattle.run_spec.proofs.Periods.Same.{period_settled}
use Rattle.run_spec.proofs.Ending.{none_left, all_stay}

-- ---- the orders below a stamp

-- Those below a stamp, and then all others, are all.
parted : (n t : ℕ) (os : List Order) → Rises t os → filter (λ o. nat_lt o.stamp n) os ++ left_of n os ≡ os
parted n t [] h = refl
parted n t (o ∷ os) h = by (nat_lt o.stamp n) refl (parted n o.stamp os h.1)
  where
    by : (b : Bool) → nat_lt o.stamp n ≡ b → filter (λ o. nat_lt o.stamp n) os ++ left_of n os ≡ os →
        (if b then o ∷ filter (λ o. nat_lt o.stamp n) os else filter (λ o. nat_lt o.stamp n) os) ++ (if not b then o ∷ left_of n os else left_of n os) ≡ o ∷ os
    by true e rest = ap (λ xs. o ∷ xs) rest
    by false e rest =
        let l : n ≤ o.stamp = ltb-false o.stamp n e in
        ap (λ xs. xs ++ o ∷ left_of n os) (none_left n o.stamp os l h.1) ∙ ap (λ xs. o ∷ xs) (all_stay n o.stamp os l h.1)

-- the others have stamps from n on
left_ahead : (n t : ℕ) (os : List Order) → t ≤ n → IfSome (first_stamp (left_of n os)) (λ s. t ≤ s)
left_ahead n t [] l = tt
left_ahead n t (o ∷ os) l = by (nat_lt o.stamp n) refl (left_ahead n t os l)
  where
    by : (b : Bool) → nat_lt o.stamp n ≡ b → IfSome (first_stamp (left_of n os)) (λ s. t ≤ s) →
        IfSome (first_stamp (if not b then o ∷ left_of n os else left_of n os)) (λ s. t ≤ s)
    by true e rest = rest
    by false e rest = let k = ltb-false o.stamp n e in omega arith

-- so none comes to u
none_to : (u : ℕ) (os : List Order) → NoOrderTo u (left_of (suc u) os)
none_to u os = by (left_of (suc u) os) (left_ahead (suc u) (suc u) os (omega arith))
  where
    by : (os : List Order) → IfSome (first_stamp os) (λ s. suc u ≤ s) → NoOrderTo u os
    by [] h = tt
    by (o ∷ os) h = omega arith

-- the orders that are executed in n periods have stamps below n
pub done_below : (r : Run) (n : ℕ) → AllByRecursion (λ d. d.order.stamp < n) (done_of (whole_in r) n r.orders)
done_below r n =
    each_mapped (λ o. o.stamp < n) (λ d. d.order) (done_of (whole_in r) n r.orders)
    (subst (AllByRecursion (λ o. o.stamp < n)) (sym same)
    (each_weaker (λ o. nat_lt o.stamp n ≡ true) (λ o. o.stamp < n) front (λ o e. ltb-true o.stamp n e) (each_passes (λ o. nat_lt o.stamp n) r.orders)))
  where
    front : List Order
    front = filter (λ o. nat_lt o.stamp n) r.orders

    same : map (λ d. d.order) (done_of (whole_in r) n r.orders) ≡ front
    same = ap (map (λ d. d.order)) (done_after-added (whole_in r) [] front) ∙ added_orders (whole_in r) [] front

-- **Before and after the orders of period t a run has executed those with stamps below n: t, or the period after it.**
pub so_far_below : (r : Run) (t n : ℕ) → AreOrders r.orders → t ≤ n → n ≤ suc t → n ≤ r.periods →
    IsSoFar r t (done_of (whole_in r) n r.orders) (left_of n r.orders)
so_far_below r t n a low high within = record {
  orders = a;
  listed = ap (λ os. os ++ left_of n r.orders) same ∙ parted n 0 r.orders (orders_rise r.orders a);
  replies = sym (ap (done_after (whole_in r) []) same);
  past = All-from_recursion (λ d. d.order.stamp ≤ t) ds (each_weaker (λ d. d.order.stamp < n) (λ d. d.order.stamp ≤ t) ds (λ d l. omega arith) below);
  within =
      All-from_recursion (λ d. d.order.stamp < r.periods) ds
      (each_weaker (λ d. d.order.stamp < n) (λ d. d.order.stamp < r.periods) ds (λ d l. omega arith) below);
  ahead = left_ahead n t r.orders low;
}
  where
    front : List Order
    front = filter (λ o. nat_lt o.stamp n) r.orders

    ds : List Done
    ds = done_after (whole_in r) [] front

    same : map (λ d. d.order) ds ≡ front
    same = ap (map (λ d. d.order)) (done_after-added (whole_in r) [] front) ∙ added_orders (whole_in r) [] front

    below : AllByRecursion (λ d. d.order.stamp < n) ds
    below = done_below r n

-- a call that a run opened up to u was opened by the orders up to u
opened_then : (r : Run) (u c s : ℕ) → AreOrders r.orders → u < r.periods → opened_at c (done_in r) ≡ Some s → s ≤ u →
    opened_at c (done_of (whole_in r) (suc u) r.orders) ≡ Some s
opened_then r u c s a l o su = elim (opened_cases ds rest c s (sym (ap (opened_at c) (done-rest r u ds left so)) ∙ o)) [
  | inl e ↦ e
  | inr e ↦
      let late : u < s =
      subst (λ (v : Option ℕ). IfSome v (λ s. u < s)) e.1 (found_stamp (λ s. u < s) _ rest (rest_above r u u ds left so (none_to u r.orders))) in
      absurd (omega arith)
]
  where
    ds : List Done
    ds = done_of (whole_in r) (suc u) r.orders

    left : List Order
    left = left_of (suc u) r.orders

    so : IsSoFar r u ds left
    so = so_far_below r u (suc u) a (omega arith) (omega arith) (omega arith)

    rest : List Done
    rest = rest_in r ds left

-- ---- what is known in a period before the earlier end

-- the uplink is the same
ups_same : (r : Run) (p c n : ℕ) → ups_to (cut_at p r) c n ≡ ups_to r c n
ups_same r p c zero = refl
ups_same r p c (suc k) = ap (λ ups. up_in r c k ∷ ups) (ups_same r p c k)

-- so is whether a call has a period before the earlier end
has_same : (r : Run) (p u : ℕ) (ds : List Done) (c : ℕ) → u < p → p ≤ r.periods → has_period (cut_at p r) ds u c ≡ has_period r ds u c
has_same r p u ds c l m =
    ap (λ b. is_none (closed_at c ds) && nat_lt u (start_of ds c + whole_in r c) && b) (lt-ltb u p l ∙ sym (lt-ltb u r.periods (omega arith)))

-- its bridge
bridge_same : (r : Run) (p u : ℕ) (ds : List Done) (c : ℕ) → u < p → p ≤ r.periods → bridge_now (cut_at p r) ds u c ≡ bridge_now r ds u c
bridge_same r p u ds c l m = find_same _ _ (bridges ds) (each_all _ (bridges ds) (λ x.
    ap (λ h. joins c x && is_none x.ended && h && has_period (cut_at p r) ds u x.b) (has_same r p u ds x.a l m)
    ∙ ap (λ h. joins c x && is_none x.ended && has_period r ds u x.a && h) (has_same r p u ds x.b l m)))

-- what is handed over
handed_same : (r : Run) (p u : ℕ) (ds : List Done) (c : ℕ) → u < p → p ≤ r.periods → handed_now (cut_at p r) ds u c ≡ handed_now r ds u c
handed_same r p u ds c l m =
    ap (option_map (λ x. let d = other c x in item_of d (ups_to (cut_at p r) d (u + 1 - start_of ds d)))) (bridge_same r p u ds c l m)
    ∙ by (bridge_now r ds u c)
  where
    by : (o : Option Bridge) →
        option_map (λ x. let d = other c x in item_of d (ups_to (cut_at p r) d (u + 1 - start_of ds d))) o
        ≡ option_map (λ x. let d = other c x in item_of d (ups_to r d (u + 1 - start_of ds d))) o
    by None = refl
    by (Some x) = ap (λ ups. Some (item_of (other c x) ups)) (ups_same r p (other c x) (u + 1 - start_of ds (other c x)))

-- and so the period
now_same : (r : Run) (p u : ℕ) (ds : List Done) (c : ℕ) → u < p → p ≤ r.periods → period_now (cut_at p r) ds u c ≡ period_now r ds u c
now_same r p u ds c l m = ap {B = CallPeriod} (λ (handed : Option (List ℕ)). record {
  up = up_in r c (u - start_of ds c);
  pcm = pcm_in r c (u - start_of ds c);
  level = level_after c (pos 256) ds;
  mode = dtx_mode_after c Uplink ds;
  starts = list_any (λ x. joins c x && x.from == u) (bridges ds);
  handed = handed;
}) (handed_same r p u ds c l m)

-- ---- the periods before the earlier end

-- **So it is in the whole run.**
period_kept : (r : Run) (p u c s : ℕ) → AreOrders r.orders → p ≤ r.periods → u < p → opened_at c (done_in (cut_at p r)) ≡ Some s → s ≤ u →
    period_of (cut_at p r) c (u - s) ≡ period_of r c (u - s)
period_kept r p u c s a m l o su =
    let ds = done_of (whole_in r) (suc u) r.orders in
    let left = left_of (suc u) r.orders in
    let here : opened_at c ds ≡ Some s = opened_then (cut_at p r) u c s a l o su in
    let same : u ≤ u = omega arith in
    period_settled (cut_at p r) u u ds left c s (so_far_below (cut_at p r) u (suc u) a (omega arith) (omega arith) (omega arith)) same l
    (none_to u r.orders) here
    ∙ now_same r p u ds c l m
    ∙ sym (period_settled r u u ds left c s (so_far_below r u (suc u) a (omega arith) (omega arith) (omega arith)) same (omega arith) (none_to u r.orders) here)

-- **A call that is opened before the earlier end has the same periods up to it.**
pub periods_kept : (r : Run) (p c s n : ℕ) → AreOrders r.orders → p ≤ r.periods → opened_at c (done_in (cut_at p r)) ≡ Some s → s + n ≤ p →
    periods_to (cut_at p r) c n ≡ periods_to r c n
periods_kept r p c s zero a m o l = refl
periods_kept r p c s (suc k) a m o l =
    let e : s + k - s ≡ k = omega arith in
    ap (λ t. t ∷ periods_to (cut_at p r) c k)
    (ap (period_of (cut_at p r) c) (sym e) ∙ period_kept r p (s + k) c s a m (omega arith) o (omega arith) ∙ ap (period_of r c) e)
    ∙ ap (λ ts. period_of r c k ∷ ts) (periods_kept r p c s k a m o (omega arith))

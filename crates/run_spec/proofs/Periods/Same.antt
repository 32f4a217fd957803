-- For crates above: periods with the same parts are the same (`same_period`).
-- A period of the whole run is that which is known while it goes on.
use Rattle.std.proofs.Common.{◌≡◌, refl, sym, ap, ◌∙◌, ℕ, ◌+◌, ◌-◌, ◌<◌, ◌≤◌, Bool, true, false, Option, Some, None, List, [], ◌∷◌, ◌++◌, arith}
use Rattle.std.specs.Prelude.{ℤ, pos, option_map, find, nat_le, ◌==◌, if◌then◌else◌, ◌&&◌}
use Rattle.std.specs.List.{AllByRecursion, list_any}
use Rattle.std.proofs.lemmas.Bool.{le-leb, lt-leb}
use Rattle.std.proofs.lemmas.List.{append-nil}
use Rattle.std.proofs.lemmas.List.Elements.{filter-append, recursion_from_All}
use Rattle.trau_orders.specs.declared.order.Order.{Order}
use Rattle.trau_orders.specs.declared.order.DtxMode.{DtxMode}
use Rattle.trau_orders.specs.declared.order.DtxMode.TheVariants.{Uplink}
use Rattle.switchboard.specs.declared.act.Span.{Span}
use Rattle.switchboard.specs.declared.table.Bridge.{Bridge}
use Rattle.switchboard.specs.Calls.{Done, opened_at}
use Rattle.switchboard.specs.Bridges.{bridges, other}
use Rattle.switchboard.specs.Ends.{start_of, span_of, spans_of}
use Rattle.call_leg.specs.Periods.{CallPeriod}
use Rattle.run_spec.specs.Run.{Run, whole_in, given_in, done_in, spans_in, level_after, dtx_mode_after, done_to, up_in, pcm_in, ups_to, item_of, is_of}
use Rattle.run_spec.specs.Run.{other_in, handed_to, period_of}
use Rattle.run_spec.specs.Now.{IsSoFar, NoOrderTo, bridge_now, handed_now, period_now}
use Rattle.run_spec.proofs.Lists.{each_weaker, found}
use Rattle.run_spec.proofs.Orders.Executed.{after_all}
use Rattle.run_spec.proofs.Bridges.Standing.{IsSoundBridge}
use Rattle.run_spec.proofs.Orders.OpenCalls.{opened_kept}
use Rattle.run_spec.proofs.Periods.Settled.{start_is, covers, joined_now, span_settled, starts_settled}
use Rattle.run_spec.proofs.Periods.SoFar.{rest_in, done-rest, rest_above, standing_now, standing_rest}

-- ---- the orders up to a period

front_passes : (u : ℕ) (ds : List Done) → AllByRecursion (λ d. d.order.stamp ≤ u) ds → done_to u ds ≡ ds
front_passes u [] h = refl
front_passes u (d ∷ ds) h =
    ap (λ (t : Bool). if t then d ∷ done_to u ds else done_to u ds) (le-leb d.order.stamp u h.0) ∙ ap (λ xs. d ∷ xs) (front_passes u ds h.1)

none_passes : (u : ℕ) (ds : List Done) → AllByRecursion (λ d. u < d.order.stamp) ds → done_to u ds ≡ []
none_passes u [] h = refl
none_passes u (d ∷ ds) h = ap (λ (t : Bool). if t then d ∷ done_to u ds else done_to u ds) (lt-leb d.order.stamp u h.0) ∙ none_passes u ds h.1

done_to-settled : (u : ℕ) (ds later : List Done) → AllByRecursion (λ d. d.order.stamp ≤ u) ds → AllByRecursion (λ d. u < d.order.stamp) later →
    done_to u (ds ++ later) ≡ ds
done_to-settled u ds later h k =
    filter-append (λ d. nat_le d.order.stamp u) ds later ∙ ap (λ xs. done_to u ds ++ xs) (none_passes u later k) ∙ append-nil (done_to u ds)
    ∙ front_passes u ds h

-- ---- what is handed over

abbrev item_from : Run → List Done → ℕ → ℕ → Span → List ℕ
item_from r ds u c x = let d = other_in c x in item_of d (ups_to r d (u + 1 - start_of ds d))

abbrev handed_by : Run → List Done → ℕ → ℕ → Option (List ℕ)
handed_by r ds u c = option_map (item_from r ds u c) (find (covers c u) (spans_of (given_in r) r.periods ds))

start_kept : (ds later : List Done) (c s : ℕ) → opened_at c ds ≡ Some s → start_of (ds ++ later) c ≡ start_of ds c
start_kept ds later c s e = start_is (ds ++ later) c s (opened_kept ds later c s e) ∙ sym (start_is ds c s e)

other_start : (whole : ℕ → ℕ) (t : ℕ) (ds later : List Done) (c : ℕ) (x : Bridge) → IsSoundBridge whole t ds x →
    start_of (ds ++ later) (other c x) ≡ start_of ds (other c x)
other_start whole t ds later c x y = by (c == x.a)
  where
    by : (t : Bool) → start_of (ds ++ later) (if t then x.b else x.a) ≡ start_of ds (if t then x.b else x.a)
    by true = start_kept ds later x.b y.start_b y.opened_b
    by false = start_kept ds later x.a y.start_a y.opened_a

-- what is handed over is settled
pub handed_settled : (r : Run) (t u : ℕ) (ds : List Done) (left : List Order) (c : ℕ) → IsSoFar r t ds left → t ≤ u → u < r.periods → NoOrderTo u left →
    handed_to r c u ≡ handed_now r ds u c
handed_settled r t u ds left c s tu up n =
    ap (λ ds. handed_by r ds u c) (done-rest r t ds left s)
    ∙ ap (option_map (item_from r (ds ++ rest_in r ds left) u c))
    (span_settled (given_in r) r.periods t u ds (rest_in r ds left) c (standing_now r t ds left s) tu (standing_rest r t ds left s) up
    (rest_above r t u ds left s n))
    ∙ by (bridge_now r ds u c) refl
  where
    by : (o : Option Bridge) → bridge_now r ds u c ≡ o →
        option_map (item_from r (ds ++ rest_in r ds left) u c)
        (option_map (λ x. span_of (given_in r) r.periods (ds ++ rest_in r ds left) (after_all (rest_in r ds left) x)) o)
        ≡ option_map (λ x. let d = other c x in item_of d (ups_to r d (u + 1 - start_of ds d))) o
    by None e = refl
    by (Some x) e =
        let y = found (IsSoundBridge (whole_in r) t ds) (joined_now (whole_in r) r.periods ds u c) (bridges ds) x (standing_now r t ds left s).sound e in
        ap (λ (n : ℕ). Some (item_of (other c x) (ups_to r (other c x) (u + 1 - n)))) (other_start (whole_in r) t ds (rest_in r ds left) c x y.0)

-- ---- the period

-- periods are the same by their parts
pub same_period : (up up' pcm pcm' : List ℕ) (level level' : ℤ) (mode mode' : DtxMode) (starts starts' : Bool) (handed handed' : Option (List ℕ)) →
    up ≡ up' → pcm ≡ pcm' → level ≡ level' → mode ≡ mode' → starts ≡ starts' → handed ≡ handed' →
    ◌≡◌ {A = CallPeriod} (record { up = up; pcm = pcm; level = level; mode = mode; starts = starts; handed = handed })
    (record { up = up'; pcm = pcm'; level = level'; mode = mode'; starts = starts'; handed = handed' })
same_period up up' pcm pcm' level level' mode mode' starts starts' handed handed' a b c d e f = cc

-- **A period of an open call, once its orders were executed, is settled.**
pub period_settled : (r : Run) (t u : ℕ) (ds : List Done) (left : List Order) (c s : ℕ) → IsSoFar r t ds left → t ≤ u → u < r.periods → NoOrderTo u left →
    opened_at c ds ≡ Some s →
    period_of r c (u - s) ≡ period_now r ds u c
unfolding period_of
period_settled r t u ds left c s so tu up n o =
    let e = done-rest r t ds left so in
    let later = rest_in r ds left in
    let stand = standing_now r t ds left so in
    let begun : s ≤ t = stand.opened c s o in
    let from : start_of (done_in r) c ≡ s = ap (λ ds. start_of ds c) e ∙ start_is (ds ++ later) c s (opened_kept ds later c s o) in
    let at : start_of (done_in r) c + (u - s) ≡ u = omega (arith, from) in
    let past : AllByRecursion (λ d. d.order.stamp ≤ u) ds =
    each_weaker (λ d. d.order.stamp ≤ t) (λ d. d.order.stamp ≤ u) ds (λ d h. omega arith) (recursion_from_All _ ds so.past) in
    let above = rest_above r t u ds left so n in
    let orders : done_to (start_of (done_in r) c + (u - s)) (done_in r) ≡ ds =
    ap (λ (k : ℕ). done_to k (done_in r)) at ∙ ap (done_to u) e ∙ done_to-settled u ds later past above in
    let k : s ≡ start_of ds c = sym (start_is ds c s o) in
    same_period _ _ _ _ _ _ _ _ _ _ _ _
    (ap (λ (k : ℕ). up_in r c (u - k)) k)
    (ap (λ (k : ℕ). pcm_in r c (u - k)) k)
    (ap (level_after c (pos 256)) orders)
    (ap (dtx_mode_after c Uplink) orders)
    (ap (λ (k : ℕ). list_any (λ x. is_of c x && x.from == k) (spans_in r)) at
    ∙ ap (λ ds. list_any (λ x. is_of c x && x.from == u) (spans_of (given_in r) r.periods ds)) e
    ∙ starts_settled (given_in r) r.periods u ds later c above)
    (ap (handed_to r c) at ∙ handed_settled r t u ds left c so tu up n)

-- For crates above: what holds of a run so far, also after the next order or later, and the rest of the whole run
-- (`rest_in`, `done-rest`).
use Rattle.std.proofs.Common.{◌≡◌, refl, sym, ap, ◌∙◌, subst, ℕ, suc, ◌<◌, ◌≤◌, Bool, true, false, List, [], ◌∷◌, ◌++◌, map, length, get_or, arith}
use Rattle.std.specs.Prelude.{IfSome, filter, nat_lt, if◌then◌else◌}
use Rattle.std.specs.List.{AllByRecursion}
use Rattle.std.proofs.lemmas.Bool.{lt-ltb, ltb-true}
use Rattle.std.proofs.lemmas.List.{map-append, append_assoc}
use Rattle.std.proofs.lemmas.List.Elements.{All-nil, All-push, All-weaker, recursion_from_All}
use Rattle.trau_orders.specs.declared.order.Order.{Order}
use Rattle.trau_orders.specs.Lists.{AreOrders}
use Rattle.switchboard.specs.Calls.{Done}
use Rattle.switchboard.specs.Runs.{IsRun}
use Rattle.switchboard.specs.State.{first_stamp}
use Rattle.run_spec.specs.Run.{Run, whole_in, done_in}
use Rattle.run_spec.specs.Now.{IsSoFar, NoOrderTo}
use Rattle.run_spec.proofs.Lists.{each_mapped, each_weaker, each_filter, each_passes}
use Rattle.run_spec.proofs.Orders.Executed.{added, added_orders, added_replies, done_after-added, run_replies, rest_of, done-split}
use Rattle.run_spec.proofs.Bridges.Standing.{Standing, RisesFrom, standing_none}
use Rattle.run_spec.proofs.Bridges.Apart.{standing_all}

-- ---- stamps don't fall

-- the stamps of these orders do not fall, from t on
abbrev pub Rises : ℕ → List Order → Type 0
Rises t [] = Unit {0}
Rises t (o ∷ os) = (t ≤ o.stamp) × Rises o.stamp os

rises : (t : ℕ) (os : List Order) → ((d : Order) → 0 < length os → t ≤ (get_or os 0 d).stamp) →
    ((i j : ℕ) (d : Order) → i ≤ j → j < length os → (get_or os i d).stamp ≤ (get_or os j d).stamp) → Rises t os
rises t [] first rising = tt
rises t (o ∷ os) first rising = (
  first o (omega arith),
  rises o.stamp os (λ d l. rising 0 1 d (omega arith) (omega arith)) (λ i j d l m. rising (suc i) (suc j) d (omega arith) (omega arith)),
)

-- those of a run do not
pub orders_rise : (os : List Order) → AreOrders os → Rises 0 os
orders_rise os a = rises 0 os (λ d l. omega arith) a.rising

sooner : (t u : ℕ) (os : List Order) → t ≤ u → Rises u os → Rises t os
sooner t u [] l h = tt
sooner t u (o ∷ os) l h = (let k = h.0 in omega arith, h.1)

front_rises : (t : ℕ) (xs ys : List Order) → Rises t (xs ++ ys) → Rises t xs
front_rises t [] ys h = tt
front_rises t (x ∷ xs) ys h = (h.0, front_rises x.stamp xs ys h.1)

back_rises : (t : ℕ) (xs ys : List Order) → Rises t (xs ++ ys) → Rises t ys
back_rises t [] ys h = h
back_rises t (x ∷ xs) ys h = sooner t x.stamp ys h.0 (back_rises x.stamp xs ys h.1)

filter_rises : (t : ℕ) (p : Order → Bool) (os : List Order) → Rises t os → Rises t (filter p os)
filter_rises t p [] h = tt
filter_rises t p (o ∷ os) h = by (p o) (filter_rises o.stamp p os h.1)
  where
    by : (s : Bool) → Rises o.stamp (filter p os) → Rises t (if s then o ∷ filter p os else filter p os)
    by true k = (h.0, k)
    by false k = sooner t o.stamp (filter p os) h.0 k

done_rises : (t : ℕ) (ds : List Done) → Rises t (map (λ d. d.order) ds) → RisesFrom t ds
done_rises t [] h = tt
done_rises t (d ∷ ds) h = (h.0, done_rises d.order.stamp ds h.1)

-- all of them come after u, where the first does
above : (u t : ℕ) (os : List Order) → u < t → Rises t os → AllByRecursion (λ o. u < o.stamp) os
above u t [] l h = tt
above u t (o ∷ os) l h = let k : u < o.stamp = (let m = h.0 in omega arith) in (k, above u o.stamp os k h.1)

-- where the next order comes after u all do
pub all_above : (u t : ℕ) (os : List Order) → Rises t os → NoOrderTo u os → AllByRecursion (λ o. u < o.stamp) os
all_above u t [] h n = tt
all_above u t (o ∷ os) h n = (n, above u o.stamp os n h.1)

-- ---- the whole run

-- the orders that are executed after those so far
abbrev pub rest_in : Run → List Done → List Order → List Done
rest_in r ds left = rest_of (whole_in r) r.periods ds left

-- **A whole run executes what it executed so far, and then the rest.**
pub done-rest : (r : Run) (t : ℕ) (ds : List Done) (left : List Order) → IsSoFar r t ds left → done_in r ≡ ds ++ rest_in r ds left
done-rest r t ds left s = done-split (whole_in r) r.periods r.orders left ds s.replies s.listed
    (each_weaker (λ d. d.order.stamp < r.periods) _ ds (λ d l. lt-ltb d.order.stamp r.periods l) (recursion_from_All _ ds s.within))

-- the rest are the orders that are left below its end
pub rest_orders : (r : Run) (ds : List Done) (left : List Order) → map (λ d. d.order) (rest_in r ds left) ≡ filter (λ o. nat_lt o.stamp r.periods) left
rest_orders r ds left = added_orders (whole_in r) ds (filter (λ o. nat_lt o.stamp r.periods) left)

-- those that are left do not fall
pub left_rises : (r : Run) (t : ℕ) (ds : List Done) (left : List Order) → IsSoFar r t ds left → Rises 0 left
left_rises r t ds left s = back_rises 0 (map (λ d. d.order) ds) left (subst (Rises 0) (sym s.listed) (orders_rise r.orders s.orders))

-- the rest comes after u where the next order does
pub rest_above : (r : Run) (t u : ℕ) (ds : List Done) (left : List Order) → IsSoFar r t ds left → NoOrderTo u left →
    AllByRecursion (λ d. u < d.order.stamp) (rest_in r ds left)
rest_above r t u ds left s n = each_mapped (λ o. u < o.stamp) (λ d. d.order) (rest_in r ds left)
    (subst (AllByRecursion (λ o. u < o.stamp)) (sym (rest_orders r ds left)) (each_filter _ _ left (all_above u 0 left (left_rises r t ds left s) n)))

-- and none of them before the clock
pub rest_from : (r : Run) (t : ℕ) (ds : List Done) (left : List Order) → IsSoFar r t ds left → AllByRecursion (λ d. t ≤ d.order.stamp) (rest_in r ds left)
rest_from r t ds left s = each_mapped (λ o. t ≤ o.stamp) (λ d. d.order) (rest_in r ds left)
    (subst (AllByRecursion (λ o. t ≤ o.stamp)) (sym (rest_orders r ds left)) (each_filter _ _ left (from left (left_rises r t ds left s) s.ahead)))
  where
    go : (u : ℕ) (os : List Order) → t ≤ u → Rises u os → AllByRecursion (λ o. t ≤ o.stamp) os
    go u [] l h = tt
    go u (o ∷ os) l h = let k : t ≤ o.stamp = (let m = h.0 in omega arith) in (k, go o.stamp os k h.1)

    from : (os : List Order) → Rises 0 os → IfSome (first_stamp os) (λ s. t ≤ s) → AllByRecursion (λ o. t ≤ o.stamp) os
    from [] h n = tt
    from (o ∷ os) h n = (n, go o.stamp os n h.1)

-- how calls and bridges stand so far
pub standing_now : (r : Run) (t : ℕ) (ds : List Done) (left : List Order) → IsSoFar r t ds left → Standing (whole_in r) t ds
standing_now r t ds left s =
    standing_all (whole_in r) 0 t [] ds (standing_none (whole_in r)) (run_replies (whole_in r) ds s.replies)
    (done_rises 0 ds (front_rises 0 (map (λ d. d.order) ds) left (subst (Rises 0) (sym s.listed) (orders_rise r.orders s.orders)))) (omega arith)
    (recursion_from_All _ ds s.past)

-- no stamp of the whole run falls
pub run_rises : (r : Run) → AreOrders r.orders → RisesFrom 0 (done_in r)
run_rises r a =
    let os = filter (λ o. nat_lt o.stamp r.periods) r.orders in
    subst (RisesFrom 0) (sym (done_after-added (whole_in r) [] os))
    (done_rises 0 (added (whole_in r) [] os) (subst (Rises 0) (sym (added_orders (whole_in r) [] os)) (filter_rises 0 _ r.orders (orders_rise r.orders a))))

-- how they stand at its end
pub standing_end : (r : Run) → AreOrders r.orders → Standing (whole_in r) r.periods (done_in r)
standing_end r a =
    let os = filter (λ o. nat_lt o.stamp r.periods) r.orders in
    let e = done_after-added (whole_in r) [] os in
    let m = added_orders (whole_in r) [] os in
    subst (Standing (whole_in r) r.periods) (sym e)
    (standing_all (whole_in r) 0 r.periods [] (added (whole_in r) [] os) (standing_none (whole_in r)) (added_replies (whole_in r) [] os)
    (done_rises 0 (added (whole_in r) [] os) (subst (Rises 0) (sym m) (filter_rises 0 _ r.orders (orders_rise r.orders a)))) (omega arith)
    (each_mapped (λ o. o.stamp ≤ r.periods) (λ d. d.order) (added (whole_in r) [] os)
    (subst (AllByRecursion (λ o. o.stamp ≤ r.periods)) (sym m)
    (each_weaker (λ o. nat_lt o.stamp r.periods ≡ true) (λ o. o.stamp ≤ r.periods) os (λ o b. below o.stamp r.periods b) (each_passes _ r.orders)))))
  where
    below : (a b : ℕ) → nat_lt a b ≡ true → a ≤ b
    below a b e = let l = ltb-true a b e in omega arith

-- the whole run's standing, by the orders so far and the others
pub standing_rest : (r : Run) (t : ℕ) (ds : List Done) (left : List Order) → IsSoFar r t ds left → Standing (whole_in r) r.periods (ds ++ rest_in r ds left)
standing_rest r t ds left s = subst (Standing (whole_in r) r.periods) (done-rest r t ds left s) (standing_end r s.orders)

-- ---- how a run goes on

-- **At its start.**
pub so_far_at_first : (r : Run) → AreOrders r.orders → IsSoFar r 0 [] r.orders
so_far_at_first r a = record { orders = a; listed = refl; replies = refl; past = All-nil _; within = All-nil _; ahead = by r.orders }
  where
    by : (os : List Order) → IfSome (first_stamp os) (λ s. 0 ≤ s)
    by [] = tt
    by (o ∷ os) = omega arith

-- **At a later clock.**
pub so_far_later : (r : Run) (t u : ℕ) (ds : List Done) (left : List Order) → IsSoFar r t ds left → t ≤ u → IfSome (first_stamp left) (λ s. u ≤ s) →
    IsSoFar r u ds left
so_far_later r t u ds left s l n = record {
  orders = s.orders;
  listed = s.listed;
  replies = s.replies;
  past = All-weaker (λ d. d.order.stamp ≤ t) (λ d. d.order.stamp ≤ u) (λ d h. omega arith) ds s.past;
  within = s.within;
  ahead = n;
}

-- **After the next order.**
pub so_far_more : (r : Run) (t : ℕ) (ds : List Done) (d : Done) (left : List Order) → IsSoFar r t ds (d.order ∷ left) → d.order.stamp ≡ t → t < r.periods →
    IsRun (whole_in r) (ds ++ d ∷ []) →
    IsSoFar r t (ds ++ d ∷ []) left
so_far_more r t ds d left s e l run = record {
  orders = s.orders;
  listed =
      ap (λ os. os ++ left) (map-append (λ (d : Done). d.order) ds (d ∷ [])) ∙ append_assoc (map (λ (d : Done). d.order) ds) (d.order ∷ []) left ∙ s.listed;
  replies = run;
  past = All-push (λ d. d.order.stamp ≤ t) ds d s.past (omega arith);
  within = All-push (λ d. d.order.stamp < r.periods) ds d s.within (omega arith);
  ahead = by left (left_rises r t ds (d.order ∷ left) s);
}
  where
    by : (os : List Order) → Rises 0 (d.order ∷ os) → IfSome (first_stamp os) (λ s. t ≤ s)
    by [] h = tt
    by (p ∷ os) h = let k = h.1.0 in omega arith

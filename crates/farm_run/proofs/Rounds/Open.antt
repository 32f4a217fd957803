-- Who is open in a round, and who has a period in it.
use Rattle.std.proofs.Common.{◌≡◌, refl, sym, ap, ◌∙◌, ℕ, ◌+◌, ◌-◌, ◌<◌, ◌≤◌, Bool, true, false, Option, Some, None, List, [], ◌∷◌, inl, inr, arith}
use Rattle.std.specs.Prelude.{min, not, ◌&&◌, is_some, is_none, IfSome, nat_lt, ◌==◌, if◌then◌else◌}
use Rattle.std.proofs.lemmas.Bool.{lt-ltb, le-ltb, ltb-false, cases_lt, eq-eqb, ne_eqb, and_parts, and_from, and_left}
use Rattle.trau_orders.specs.declared.order.Order.{Order}
use Rattle.switchboard.specs.declared.table.Bridge.{Bridge}
use Rattle.switchboard.specs.Calls.{Done, opened_at, closed_at, is_open, gone_at}
use Rattle.switchboard.specs.Bridges.{bridges, joins, lasts, bridge_of}
use Rattle.switchboard.specs.Ends.{start_of}
use Rattle.switchboard.specs.State.{first_stamp}
use Rattle.run_spec.specs.Run.{Run, whole_in}
use Rattle.run_spec.specs.Now.{NoOrderTo, has_period, bridge_now}
use Rattle.run_spec.proofs.Lists.{each_all, found}
use Rattle.run_spec.proofs.Bridges.Standing.{Standing, lasts_parts}
use Rattle.run_spec.proofs.Orders.OpenCalls.{open_facts, gone_is, gone_later}
use Rattle.run_spec.proofs.Periods.Settled.{start_is}
use Rattle.run_spec.proofs.Periods.SoFar.{standing_now}
use Rattle.run_spec.proofs.Bridges.Later.{open_has, bridge_later, bridge_after}
use Rattle.farm_run.proofs.Rounds.Taken.{IsRound, places_in}

-- ---- an open call

-- a call that is open at the clock, by the orders so far
pub record IsOpenAt (r : Run) (t : ℕ) (ds : List Done) (c : ℕ) : Type 0 where
  pub opened : opened_at c ds ≡ Some (start_of ds c)
  pub unclosed : closed_at c ds ≡ None
  pub begun : start_of ds c ≤ t
  pub alive : t ≤ start_of ds c + whole_in r c

-- what is known of a call that is open by its tests
pub open_at : (r : Run) (t : ℕ) (ds : List Done) (c : ℕ) → Standing (whole_in r) t ds →
    is_open (gone_at (whole_in r) t ds) ds c ≡ true → IsOpenAt r t ds c
open_at r t ds c stand e =
    let f = open_facts (gone_at (whole_in r) t ds) ds c e in
    let o : opened_at c ds ≡ Some (start_of ds c) = f.1 ∙ ap Some (sym (start_is ds c f.0 f.1)) in
    record {
      opened = o;
      unclosed = f.2;
      begun = stand.opened c (start_of ds c) o;
      alive = ltb-false (start_of ds c + whole_in r c) t (sym (gone_is (whole_in r) t ds c (start_of ds c) o) ∙ f.3);
    }

-- no order comes up to a period of the round
pub no_order : (r : Run) (t n : ℕ) (ds : List Done) (left : List Order) (u : ℕ) → IsRound r t n ds left → u < t + n → NoOrderTo u left
no_order r t n ds left u h l = by left h.clear
  where
    by : (os : List Order) → IfSome (first_stamp os) (λ s. t + n ≤ s) → IfSome (first_stamp os) (λ s. u < s)
    by [] k = tt
    by (o ∷ os) k = omega arith

-- ---- who has a period

-- a period of the round is one of the run that the call's lines give, where it is among the given ones
place_tests : (t n last P k : ℕ) → t + n ≤ P → k < n → (nat_lt (t + k) last && nat_lt (t + k) P) ≡ nat_lt k (min n (last - t))
place_tests t n last P k w l = elim (cases_lt k (min n (last - t))) [
  | inl h ↦ and_from _ _ (lt-ltb (t + k) last (omega arith)) (lt-ltb (t + k) P (omega arith)) ∙ sym (lt-ltb k (min n (last - t)) h)
  | inr h ↦ and_left _ _ (le-ltb (t + k) last (omega arith)) ∙ sym (le-ltb k (min n (last - t)) h)
]

-- An open call has a period of the round exactly where it has a place for it.
pub has_period_in : (r : Run) (t n : ℕ) (ds : List Done) (c k : ℕ) → closed_at c ds ≡ None → t + n ≤ r.periods → k < n →
    has_period r ds (t + k) c ≡ nat_lt k (places_in r ds t n c)
has_period_in r t n ds c k e w l =
    ap (λ o. is_none o && nat_lt (t + k) (start_of ds c + whole_in r c) && nat_lt (t + k) r.periods) e
    ∙ place_tests t n (start_of ds c + whole_in r c) r.periods k w l

-- ---- who is open after the round

-- the last period of the round is given where all are
all_or_fewer : (n m : ℕ) → 1 ≤ n → nat_lt (n - 1) (min n m) ≡ (min n m == n)
all_or_fewer n m s = elim (cases_lt (n - 1) (min n m)) [
  | inl h ↦ lt-ltb (n - 1) (min n m) h ∙ sym (eq-eqb (min n m) n (omega arith))
  | inr h ↦ le-ltb (n - 1) (min n m) h ∙ sym (ne_eqb (min n m) n (λ e. omega arith))
]

-- **A call that is open at the clock is open after the round exactly where its lines gave all periods of it.**
pub open_after : (r : Run) (t n : ℕ) (ds : List Done) (left : List Order) (c : ℕ) →
    IsRound r t n ds left → is_open (gone_at (whole_in r) t ds) ds c ≡ true →
    is_open (gone_at (whole_in r) (t + n) ds) ds c ≡ (places_in r ds t n c == n)
open_after r t n ds left c h o =
    let some = h.some in
    let within = h.within in
    let at = open_at r t ds c (standing_now r t ds left h.so_far) o in
    let e : t + n ≡ t + (n - 1) + 1 = omega arith in
    ap (λ u. is_open (gone_at (whole_in r) u ds) ds c) e
    ∙ open_has (whole_in r) r.periods (t + (n - 1)) ds c (start_of ds c) at.opened (omega arith)
    ∙ has_period_in r t n ds c (n - 1) at.unclosed within (omega arith)
    ∙ all_or_fewer n (start_of ds c + whole_in r c - t) some

-- **A call that isn't open isn't open later.**
pub shut_after : (r : Run) (t n : ℕ) (ds : List Done) (c : ℕ) → is_open (gone_at (whole_in r) t ds) ds c ≡ false →
    is_open (gone_at (whole_in r) (t + n) ds) ds c ≡ false
shut_after r t n ds c e =
    by (is_some (opened_at c ds) && not (is_some (closed_at c ds))) (gone_at (whole_in r) t ds c) (gone_at (whole_in r) (t + n) ds c)
    (gone_later (whole_in r) t (t + n) ds c (omega arith)) e
  where
    by : (p g k : Bool) → (g ≡ true → k ≡ true) → (p && not g) ≡ false → (p && not k) ≡ false
    by false g k f e = refl
    by true true k f e = ap not (f refl)
    by true false k f e = cc

-- both calls of a bridge that lasts at the clock are open
pub bridge_open : (r : Run) (t : ℕ) (ds : List Done) (c : ℕ) (x : Bridge) → bridge_of (gone_at (whole_in r) t ds) ds c ≡ Some x →
    (joins c x ≡ true) × (is_open (gone_at (whole_in r) t ds) ds x.a ≡ true) × (is_open (gone_at (whole_in r) t ds) ds x.b ≡ true)
bridge_open r t ds c x e =
    let gone = gone_at (whole_in r) t ds in
    let f = found (λ x. Unit {0}) (λ x. joins c x && lasts gone ds x) (bridges ds) x (each_all _ (bridges ds) (λ x. tt)) e in
    let p = and_parts (joins c x) (lasts gone ds x) f.1 in
    let q = lasts_parts gone ds x p.1 in
    (p.0, q.1, q.2)

-- the bridge of a call in a period of the round
pub bridge_at_place : (r : Run) (t n : ℕ) (ds : List Done) (left : List Order) (c k : ℕ) → IsRound r t n ds left → k < n →
    bridge_now r ds (t + k) c ≡ elim (bridge_of (gone_at (whole_in r) t ds) ds c) [
      | None ↦ None
      | Some x ↦ if nat_lt k (places_in r ds t n x.a) && nat_lt k (places_in r ds t n x.b) then Some x else None
    ]
bridge_at_place r t n ds left c k h l =
    let stand = standing_now r t ds left h.so_far in
    bridge_later r t t (t + k) ds c stand (omega arith) (omega arith) ∙ by (bridge_of (gone_at (whole_in r) t ds) ds c) refl
  where
    by : (o : Option Bridge) → bridge_of (gone_at (whole_in r) t ds) ds c ≡ o →
        ◌≡◌ {A = Option Bridge} (elim o [
          | None ↦ None
          | Some x ↦ if has_period r ds (t + k) x.a && has_period r ds (t + k) x.b
              then Some x else None
        ])
        (elim o [ None ↦ None | Some x ↦ if nat_lt k (places_in r ds t n x.a) && nat_lt k (places_in r ds t n x.b) then Some x else None ])
    by None e = refl
    by (Some x) e =
        let stand = standing_now r t ds left h.so_far in
        let b = bridge_open r t ds c x e in
        let a : has_period r ds (t + k) x.a ≡ nat_lt k (places_in r ds t n x.a) = has_period_in r t n ds x.a k (open_at r t ds x.a stand b.1).unclosed h.within l in
        let z : has_period r ds (t + k) x.b ≡ nat_lt k (places_in r ds t n x.b) = has_period_in r t n ds x.b k (open_at r t ds x.b stand b.2).unclosed h.within l in
        ap (λ (p : Bool). if p && has_period r ds (t + k) x.b then Some x else None) a
        ∙ ap (λ (p : Bool). if nat_lt k (places_in r ds t n x.a) && p then Some x else None) z

-- **After the round a bridge lasts which lasted at the clock, where the lines of both of its calls gave all periods.**
pub bridge_after_round : (r : Run) (t n : ℕ) (ds : List Done) (left : List Order) (c : ℕ) → IsRound r t n ds left →
    bridge_of (gone_at (whole_in r) (t + n) ds) ds c ≡ elim (bridge_of (gone_at (whole_in r) t ds) ds c) [
      | None ↦ None
      | Some x ↦ if places_in r ds t n x.a == n && places_in r ds t n x.b == n then Some x else None
    ]
bridge_after_round r t n ds left c h =
    let some = h.some in
    let within = h.within in
    let e : t + n ≡ t + (n - 1) + 1 = omega arith in
    ap (λ u. bridge_of (gone_at (whole_in r) u ds) ds c) e
    ∙ bridge_after r t (t + (n - 1)) ds c (standing_now r t ds left h.so_far) (omega arith)
    ∙ bridge_at_place r t n ds left c (n - 1) h (omega arith)
    ∙ by (bridge_of (gone_at (whole_in r) t ds) ds c)
  where
    by : (o : Option Bridge) →
        ◌≡◌ {A = Option Bridge} (elim o [
          | None ↦ None
          | Some x ↦ if nat_lt (n - 1) (places_in r ds t n x.a) && nat_lt (n - 1) (places_in r ds t n x.b) then Some x else None
        ])
        (elim o [ None ↦ None | Some x ↦ if places_in r ds t n x.a == n && places_in r ds t n x.b == n then Some x else None ])
    by None = refl
    by (Some x) =
        ap (λ (p : Bool). if p && nat_lt (n - 1) (places_in r ds t n x.b) then Some x else None) (all_or_fewer n (start_of ds x.a + whole_in r x.a - t) h.some)
        ∙ ap (λ (p : Bool). if places_in r ds t n x.a == n && p then Some x else None) (all_or_fewer n (start_of ds x.b + whole_in r x.b - t) h.some)

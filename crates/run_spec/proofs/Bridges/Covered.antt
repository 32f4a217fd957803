-- For crates above: the span of a bridge that is over ends before that (`over_within`), and a call ends within its
-- lines (`ends_within`).
-- Which periods a bridge covers: none of them once it was over, and none just before the next one.
use Rattle.std.proofs.Common.{◌≡◌, refl, sym, ap, ◌∙◌, subst, ℕ, ◌+◌, ◌<◌, ◌≤◌, min, Bool, true, false, Option, Some, None, List, [], ◌∷◌, ◌++◌, inl, inr, ◌⊎◌}
use Rattle.std.proofs.Common.{arith}
use Rattle.std.specs.Prelude.{Result, Ok, Err, ◌&&◌, ◌||◌, unwrap_or, nat_le, nat_lt, ◌==◌, if◌then◌else◌}
use Rattle.std.specs.List.{AllByRecursion, list_any}
use Rattle.std.proofs.lemmas.Bool.{and_parts, cases_Bool, leb-true, lt-leb, ltb-true, le-ltb, eqb-true, or_cases}
use Rattle.trau_io.specs.declared.ends.Cause.TheVariants.{Limit}
use Rattle.switchboard.specs.declared.act.Act.{Act}
use Rattle.switchboard.specs.declared.act.Act.TheVariants as act
use Rattle.switchboard.specs.declared.act.Refusal.{Refusal}
use Rattle.switchboard.specs.declared.table.Bridge.{Bridge}
use Rattle.switchboard.specs.Calls.{Done, opened_at, closed_at, gone_at}
use Rattle.switchboard.specs.Bridges.{bridge_by, bridges, joins}
use Rattle.switchboard.specs.Ends.{Given, whole_of, lack_of, ends_at, span_of}
use Rattle.run_spec.specs.Run.{Run, given_in, done_in, spans_in, is_of}
use Rattle.run_spec.proofs.Lists.{each_weaker, any_map}
use Rattle.run_spec.proofs.Bridges.Standing.{IsSoundBridge, NeverOverlap, Standing, RisesFrom, is_before, over_by}
use Rattle.run_spec.proofs.Orders.OpenCalls.{gone_is}
use Rattle.switchboard.proofs.Boards.Whole.{end_by}
use Rattle.switchboard.proofs.Lists.{not_both}
use Rattle.run_spec.proofs.Periods.Settled.{bridge_stamps, at_of, to_of, ends_by, covers}

-- a call has no more periods than its lines give
limit_within : (given : ℕ → Given) (P c s : ℕ) → at_of (end_by given P c s None) ≤ s + whole_of (given c)
limit_within given P c s = by (nat_le P (s + whole_of (given c))) refl
  where
    by : (t : Bool) → nat_le P (s + whole_of (given c)) ≡ t →
        at_of (if t then record { call = c; at = P; cause = Limit }
        else record { call = c; at = s + whole_of (given c); cause = lack_of (whole_of (given c)) (given c) }) ≤ s + whole_of (given c)
    by true e = leb-true P (s + whole_of (given c)) e
    by false e = omega arith

-- nor where it was closed
pub ends_within : (given : ℕ → Given) (P : ℕ) (ds : List Done) (c s : ℕ) → Standing (λ c. whole_of (given c)) P ds → opened_at c ds ≡ Some s →
    ends_at given P ds c ≤ s + whole_of (given c)
ends_within given P ds c s st o = by (closed_at c ds) refl
  where
    by : (l : Option ℕ) → closed_at c ds ≡ l → ends_at given P ds c ≤ s + whole_of (given c)
    by None e = let f = ends_by given P ds c s None o e in let g = limit_within given P c s in subst (λ (n : ℕ). n ≤ s + whole_of (given c)) (sym f) g
    by (Some t) e =
        let f = ends_by given P ds c s (Some t) o e in
        let k = st.closed c t e in
        let m : k.start ≡ s = (let a = k.opened in cc) in
        let z : t ≤ k.start + whole_of (given c) = k.alive in
        let y : t ≤ s + whole_of (given c) = omega (arith, m) in
        subst (λ (n : ℕ). n ≤ s + whole_of (given c)) (sym f) y

-- a bridge that was over by some period has its span's end before
pub over_within : (given : ℕ → Given) (P v : ℕ) (ds : List Done) (x : Bridge) → Standing (λ c. whole_of (given c)) P ds →
    IsSoundBridge (λ c. whole_of (given c)) P ds x →
    over_by (λ c. whole_of (given c)) v ds x ≡ true → to_of (span_of given P ds x) < v
over_within given P v ds x s y o = elim (or_cases (is_before v x.ended) (gone_at whole v ds x.a || gone_at whole v ds x.b) o) [
  | inl p ↦ by_order x.ended refl p
  | inr p ↦ elim (or_cases (gone_at whole v ds x.a) (gone_at whole v ds x.b) p) [
    | inl q ↦
        let m : ea ≤ y.start_a + whole x.a = ends_within given P ds x.a y.start_a s y.opened_a in
        let l : y.start_a + whole x.a < v = ltb-true (y.start_a + whole x.a) v (sym (gone_is whole v ds x.a y.start_a y.opened_a) ∙ q) in
        least (unwrap_or x.ended (min ea eb)) ea eb v (inl (omega arith))
    | inr q ↦
        let m : eb ≤ y.start_b + whole x.b = ends_within given P ds x.b y.start_b s y.opened_b in
        let l : y.start_b + whole x.b < v = ltb-true (y.start_b + whole x.b) v (sym (gone_is whole v ds x.b y.start_b y.opened_b) ∙ q) in
        least (unwrap_or x.ended (min ea eb)) ea eb v (inr (omega arith))
  ]
]
  where
    whole : ℕ → ℕ
    whole = λ c. whole_of (given c)

    ea : ℕ
    ea = ends_at given P ds x.a

    eb : ℕ
    eb = ends_at given P ds x.b

    least : (u a b v : ℕ) → (a < v) ⊎ (b < v) → min u (min a b) < v
    least u a b v (inl h) = omega arith
    least u a b v (inr h) = omega arith

    by_order : (o : Option ℕ) → x.ended ≡ o → is_before v x.ended ≡ true → min (unwrap_or x.ended (min ea eb)) (min ea eb) < v
    by_order None e p = absurd (not_both _ (ap (is_before v) e) p)
    by_order (Some w) e p =
        let l : w < v = ltb-true w v (sym (ap (is_before v) e) ∙ p) in
        subst (λ (o : Option ℕ). min (unwrap_or o (min ea eb)) (min ea eb) < v) (sym e) (below w (min ea eb) v l)
      where
        below : (w m v : ℕ) → w < v → min w m < v
        below w m v l = omega arith

-- a bridge that is over covers nothing more
over_covers : (given : ℕ → Given) (P v : ℕ) (ds : List Done) (x : Bridge) → Standing (λ c. whole_of (given c)) P ds →
    IsSoundBridge (λ c. whole_of (given c)) P ds x →
    over_by (λ c. whole_of (given c)) (v + 1) ds x ≡ true → nat_lt v (to_of (span_of given P ds x)) ≡ false
over_covers given P v ds x s y o = let l = over_within given P (v + 1) ds x s y o in le-ltb v (to_of (span_of given P ds x)) (omega arith)

-- ---- bridges begin one after another

-- each begins no earlier than the one before it
abbrev pub FromsRise : List Bridge → Type 0
FromsRise [] = Unit {0}
FromsRise (x ∷ xs) = AllByRecursion (λ y. x.from ≤ y.from) xs × FromsRise xs

-- no stamp is below the first
pub from_above : (t : ℕ) (ds : List Done) → RisesFrom t ds → AllByRecursion (λ d. t ≤ d.order.stamp) ds
from_above t [] h = tt
from_above t (d ∷ ds) h = (h.0, each_weaker (λ e. d.order.stamp ≤ e.order.stamp) _ ds (λ e k. let l = h.0 in omega arith) (from_above d.order.stamp ds h.1))

-- bridges begin in the order of their stamps
pub bridges_rise : (t : ℕ) (ds : List Done) → RisesFrom t ds → FromsRise (bridges ds)
bridges_rise t [] h = tt
bridges_rise t (d ∷ ds) h =
    by d.order.stamp d.result (bridges ds) (bridge_stamps (λ s. d.order.stamp ≤ s) ds (from_above d.order.stamp ds h.1)) (bridges_rise d.order.stamp ds h.1)
  where
    by : (u : ℕ) (r : Result Act Refusal) (xs : List Bridge) → AllByRecursion (λ x. u ≤ x.from) xs → FromsRise xs → FromsRise (bridge_by u r ds ++ xs)
    by u (Ok (act.Bridged a b)) xs k l = (k, l)
    by u (Ok (act.Opened c law)) xs k l = l
    by u (Ok (act.Closed c p)) xs k l = l
    by u (Ok (act.Unbridged a b)) xs k l = l
    by u (Ok (act.LevelSet c v)) xs k l = l
    by u (Ok (act.DtxSet c m)) xs k l = l
    by u (Err e) xs k l = l

-- ---- where a bridge starts, none covers the period before

-- one of which the test holds
any_each : (P : Bridge → Type 0) (q : Bridge → Bool) (xs : List Bridge) → list_any q xs ≡ true → AllByRecursion P xs → (y : Bridge) × (q y ≡ true) × P y
any_each P q [] e h = cc
any_each P q (x ∷ xs) e h = elim (or_cases (q x) (list_any q xs) e) [ inl f ↦ (x, f, h.0) | inr f ↦ any_each P q xs f h.1 ]

late : (j f w : Bool) → f ≡ false → (j && f && w) ≡ false
late true f w e = ap (λ f. f && w) e
late false f w e = refl

past : (j f w : Bool) → (j ≡ true → w ≡ false) → (j && f && w) ≡ false
past true true w h = h refl
past true false w h = refl
past false f w h = refl

-- **Where a bridge begins, none of its calls covers the period before.**
pub apart_covers : (given : ℕ → Given) (P v c : ℕ) (ds : List Done) (xs : List Bridge) → Standing (λ c. whole_of (given c)) P ds →
    NeverOverlap (λ c. whole_of (given c)) ds xs → FromsRise xs →
    AllByRecursion (IsSoundBridge (λ c. whole_of (given c)) P ds) xs → list_any (λ y. joins c y && y.from == v + 1) xs ≡ true →
    AllByRecursion (λ x. covers c v (span_of given P ds x) ≡ false) xs
apart_covers given P v c ds [] s n f h e = tt
apart_covers given P v c ds (x ∷ xs) s n f h e = elim (cases_Bool (joins c x && x.from == v + 1)) [
  | inl p ↦
      let m : x.from ≡ v + 1 = eqb-true x.from (v + 1) (and_parts (joins c x) (x.from == v + 1) p).1 in (
        late (joins c x) (nat_le x.from v) _ (lt-leb x.from v (omega arith)),
        each_weaker (λ y. x.from ≤ y.from) _ xs (λ y l. late (joins c y) (nat_le y.from v) _ (lt-leb y.from v (omega arith))) f.0,
      )
  | inr p ↦
      let later : list_any (λ y. joins c y && y.from == v + 1) xs ≡ true =
      rest (joins c x && x.from == v + 1) (list_any (λ y. joins c y && y.from == v + 1) xs) p e in
      let y =
      any_each (λ y. (c : ℕ) → joins c x ≡ true → joins c y ≡ true → over_by (λ c. whole_of (given c)) y.from ds x ≡ true)
      (λ y. joins c y && y.from == v + 1) xs later n.0 in
      let q = and_parts (joins c y.0) (y.0.from == v + 1) y.1 in (
        past (joins c x) (nat_le x.from v) _
            (λ j. over_covers given P v ds x s h.0
            (subst (λ (u : ℕ). over_by (λ c. whole_of (given c)) u ds x ≡ true) (eqb-true y.0.from (v + 1) q.1) (y.2 c j q.0))),
        apart_covers given P v c ds xs s n.1 f.1 h.1 later,
      )
]
  where
    rest : (a b : Bool) → a ≡ false → (a || b) ≡ true → b ≡ true
    rest true b p e = cc
    rest false b p e = e

-- ---- periods

-- whether a bridge of the call begins at period t of the run
abbrev pub begins : Run → ℕ → ℕ → Bool
begins r c t = list_any (λ x. is_of c x && x.from == t) (spans_in r)

-- by the bridges of the whole run
pub begins_is : (r : Run) (c t : ℕ) → begins r c t ≡ list_any (λ x. joins c x && x.from == t) (bridges (done_in r))
begins_is r c t = any_map (λ x. is_of c x && x.from == t) (span_of (given_in r) r.periods (done_in r)) (bridges (done_in r))

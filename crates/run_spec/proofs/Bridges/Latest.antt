-- The latest bridge of a call, and its span.
use Rattle.std.proofs.Common.{◌≡◌, refl, sym, ap, ◌∙◌, subst, ℕ, zero, suc, ◌<◌, ◌≤◌, Bool, true, false, Some, List, [], ◌∷◌, ◌++◌, map, length}
use Rattle.std.proofs.Common.{get_or, inl, inr, arith}
use Rattle.std.specs.Prelude.{◌&&◌, ◌==◌}
use Rattle.std.specs.List.{AllByRecursion, list_any}
use Rattle.std.proofs.lemmas.Bool.{and_from, cases_eq, eq-eqb, ne_eqb, or_left, or_right}
use Rattle.std.proofs.lemmas.List.{length-map, map-append, append_assoc}
use Rattle.std.proofs.lemmas.List.Folds.{list_any-append}
use Rattle.trau_orders.specs.declared.order.Order.{Order}
use Rattle.switchboard.specs.declared.act.Span.{Span}
use Rattle.switchboard.specs.declared.table.Bridge.{Bridge}
use Rattle.switchboard.specs.Calls.{Done}
use Rattle.switchboard.specs.Bridges.{bridges, joins, no_bridge}
use Rattle.switchboard.specs.Stands.{IsLatest}
use Rattle.switchboard.specs.Ends.{span_of}
use Rattle.run_spec.specs.Run.{Run, given_in, done_in, spans_in}
use Rattle.run_spec.specs.Now.{IsSoFar}
use Rattle.run_spec.proofs.Lists.{each_append, each_front, each_mapped, each_weaker, any_none}
use Rattle.run_spec.proofs.Orders.Executed.{after_all, bridges-append}
use Rattle.run_spec.proofs.Periods.Settled.{bridge_stamps}
use Rattle.run_spec.proofs.Periods.SoFar.{rest_in, done-rest, rest_from, run_rises}
use Rattle.run_spec.proofs.Bridges.Covered.{FromsRise, bridges_rise}
use Rattle.run_spec.proofs.Frames.Known.{IsLast, rise_front, not_at}

-- bridge k of a list, with none of the call behind it
record IsSplit (c k : ℕ) (bs : List Bridge) : Type 0 where
  front : List Bridge
  back : List Bridge
  all : bs ≡ front ++ get_or bs k no_bridge ∷ back
  place : length front ≡ k
  later : AllByRecursion (λ y. joins c y ≡ false) back

-- all of them, by their places
each_from : (P : Bridge → Type 0) (bs : List Bridge) → ((j : ℕ) → j < length bs → P (get_or bs j no_bridge)) → AllByRecursion P bs
each_from P [] h = tt
each_from P (x ∷ bs) h = (h 0 (omega arith), each_from P bs (λ j l. h (suc j) (omega arith)))

-- where none of the call stands behind place k
split : (c k : ℕ) (bs : List Bridge) → k < length bs → ((j : ℕ) → k < j → j < length bs → joins c (get_or bs j no_bridge) ≡ false) → IsSplit c k bs
split c k [] l h = absurd (omega arith)
split c zero (x ∷ bs) l h = record { front = []; back = bs; all = refl; place = refl; later = each_from _ bs (λ j m. h (suc j) (omega arith) (omega arith)) }
split c (suc k) (x ∷ bs) l h =
    let s = split c k bs (omega arith) (λ j m n. h (suc j) (omega arith) (omega arith)) in
    record { front = x ∷ s.front; back = s.back; all = ap (λ xs. x ∷ xs) s.all; place = ap suc s.place; later = s.later }

-- so it is with the latest one
latest_split : (c k : ℕ) (bs : List Bridge) → IsLatest bs c (Some k) → IsSplit c k bs
latest_split c k bs l = split c k bs l.0 l.2

-- **In the whole run it is the last that began up to t.**
pub is_last : (r : Run) (t : ℕ) (ds : List Done) (left : List Order) (c k : ℕ) → IsSoFar r t ds left → IsLatest (bridges ds) c (Some k) →
    IsLast r c t k (after_all (rest_in r ds left) (get_or (bridges ds) k no_bridge))
is_last r t ds left c k so l =
    let s = latest_split c k (bridges ds) l in
    let g = after_all (rest_in r ds left) in
    record {
      front = map g s.front;
      back = map g s.back ++ bridges (rest_in r ds left);
      all =
          ap bridges (done-rest r t ds left so) ∙ bridges-append ds (rest_in r ds left)
          ∙ ap (λ xs. map (after_all (rest_in r ds left)) xs ++ bridges (rest_in r ds left)) s.all
          ∙ ap (λ xs. xs ++ bridges (rest_in r ds left)) (map-append (after_all (rest_in r ds left)) s.front (get_or (bridges ds) k no_bridge ∷ s.back))
          ∙ append_assoc (map (after_all (rest_in r ds left)) s.front)
          (after_all (rest_in r ds left) (get_or (bridges ds) k no_bridge) ∷ map (after_all (rest_in r ds left)) s.back) (bridges (rest_in r ds left));
      place = length-map s.front g ∙ s.place;
      joined = l.1;
      later = each_append _ (map g s.back) (bridges (rest_in r ds left)) (mapped (rest_in r ds left) s.back s.later)
          (each_weaker (λ x. t ≤ x.from) _ (bridges (rest_in r ds left)) (λ x f j. f)
          (bridge_stamps (λ s. t ≤ s) (rest_in r ds left) (rest_from r t ds left so)));
    }
  where
    not_joined : (b : Bool) → b ≡ false → b ≡ true → ⊥
    not_joined b p q = cc

    mapped : (later : List Done) (bs : List Bridge) → AllByRecursion (λ y. joins c y ≡ false) bs →
        AllByRecursion (λ y. joins c y ≡ true → t ≤ y.from) (map (after_all later) bs)
    mapped later [] h = tt
    mapped later (x ∷ bs) h = (λ j. absurd (not_joined (joins c x) h.0 j), mapped later bs h.1)

-- ---- whether it starts now

-- the first ones rise too
froms_front : (later : List Done) (xs ys : List Bridge) → FromsRise (map (after_all later) xs ++ ys) → FromsRise xs
froms_front later [] ys h = tt
froms_front later (x ∷ xs) ys h =
    (each_mapped (λ y. x.from ≤ y.from) (after_all later) xs (each_front _ (map (after_all later) xs) ys h.0), froms_front later xs ys h.1)

-- **It starts at t exactly where the call has a bridge that does.**
pub starts_now : (r : Run) (t : ℕ) (ds : List Done) (left : List Order) (c k : ℕ) → IsSoFar r t ds left → IsLatest (bridges ds) c (Some k) →
    (get_or (bridges ds) k no_bridge).from ≤ t →
    list_any (λ x. joins c x && x.from == t) (bridges ds) ≡ ((get_or (bridges ds) k no_bridge).from == t)
starts_now r t ds left c k so l ft =
    let s = latest_split c k (bridges ds) l in
    let x = get_or (bridges ds) k no_bridge in
    let rise : FromsRise (bridges ds) = froms_front (rest_in r ds left) (bridges ds) (bridges (rest_in r ds left))
    (subst FromsRise (ap bridges (done-rest r t ds left so) ∙ bridges-append ds (rest_in r ds left)) (bridges_rise 0 (done_in r) (run_rises r so.orders))) in
    ap (list_any (λ x. joins c x && x.from == t)) s.all
    ∙ by s.front x s.back l.1 s.later (rise_front s.front x s.back (subst FromsRise s.all rise)) ft
  where
    by : (front : List Bridge) (x : Bridge) (back : List Bridge) → joins c x ≡ true → AllByRecursion (λ y. joins c y ≡ false) back →
        AllByRecursion (λ y. y.from ≤ x.from) front → x.from ≤ t →
        list_any (λ x. joins c x && x.from == t) (front ++ x ∷ back) ≡ (x.from == t)
    by front x back j h f l = elim (cases_eq x.from t) [
      | inl e ↦
          list_any-append (λ x. joins c x && x.from == t) front (x ∷ back)
          ∙ or_right (list_any (λ x. joins c x && x.from == t) front) _
          (or_left _ (list_any (λ x. joins c x && x.from == t) back) (and_from _ _ j (eq-eqb x.from t e)))
          ∙ sym (eq-eqb x.from t e)
      | inr e ↦
          let m : x.from < t = below x.from l e in
          any_none (λ x. joins c x && x.from == t) (front ++ x ∷ back) (each_append _ front (x ∷ back)
          (each_weaker (λ y. y.from ≤ x.from) _ front (λ y g. not_at (joins c y) y.from t (λ j q. omega arith)) f)
          (not_at (joins c x) x.from t (λ j q. omega arith), each_weaker (λ y. joins c y ≡ false) _ back (λ y g. ap (λ j. j && y.from == t) g) h))
          ∙ sym (ne_eqb x.from t e)
    ]
      where
        below : (a : ℕ) → a ≤ t → (a ≡ t → ⊥) → a < t
        below a l e = omega arith

-- ---- its span

-- what stands at its place
get_at : (f : Bridge → Span) (front : List Bridge) (z : Bridge) (back : List Bridge) (d : Span) → get_or (map f (front ++ z ∷ back)) (length front) d ≡ f z
get_at f [] z back d = refl
get_at f (x ∷ front) z back d = get_at f front z back d

-- its span
pub span_last : (r : Run) (c t k : ℕ) (z : Bridge) (d : Span) → IsLast r c t k z → get_or (spans_in r) k d ≡ span_of (given_in r) r.periods (done_in r) z
span_last r c t k z d l =
    ap (λ bs. get_or (map (span_of (given_in r) r.periods (done_in r)) bs) k d) l.all
    ∙ ap (λ k. get_or (map (span_of (given_in r) r.periods (done_in r)) (l.front ++ z ∷ l.back)) k d) (sym l.place)
    ∙ get_at (span_of (given_in r) r.periods (done_in r)) l.front z l.back d

-- For crates above: where a call starts and ends (`start_is`, `ends_by`), and which periods a bridge covers (`covers`),
-- whatever is ordered later.
-- A period with no order between the clock and it: what later orders and ends don't change.
use Rattle.std.proofs.Common.{◌≡◌, refl, sym, ap, ◌∙◌, subst, ℕ, ◌+◌, ◌<◌, ◌≤◌, Bool, true, false, Option, Some, None, List, [], ◌∷◌, ◌++◌, map, min, inl, inr}
use Rattle.std.proofs.Common.{arith}
use Rattle.std.specs.Prelude.{Result, Ok, Err, ◌&&◌, ◌||◌, is_none, option_map, unwrap_or, IfSome, ◌==◌, if◌then◌else◌, find, nat_lt, nat_le}
use Rattle.std.specs.List.{AllByRecursion, list_any}
use Rattle.std.proofs.lemmas.Bool.{lt-ltb, le-ltb, le-leb, lt-leb, leb-true, ne_eqb, cases_lt}
use Rattle.trau_io.specs.declared.ends.Cause.TheVariants.{Limit}
use Rattle.trau_io.specs.declared.ends.CallEnd.{CallEnd}
use Rattle.switchboard.specs.declared.act.Act.{Act}
use Rattle.switchboard.specs.declared.act.Act.TheVariants as act
use Rattle.switchboard.specs.declared.act.Refusal.{Refusal}
use Rattle.switchboard.specs.declared.act.Span.{Span}
use Rattle.switchboard.specs.declared.table.Bridge.{Bridge}
use Rattle.switchboard.specs.Calls.{Done, opened_at, closed_at}
use Rattle.switchboard.specs.Bridges.{ends_bridge, bridge_by, bridges, joins}
use Rattle.switchboard.specs.Ends.{Given, whole_of, lack_of, start_of, ends_at, span_of, spans_of}
use Rattle.switchboard.proofs.Orders.OneMore.{or_else}
use Rattle.switchboard.proofs.Boards.Whole.{end_by}
use Rattle.run_spec.proofs.Lists.{each_append, each_weaker, find_same, find_map, find_front, any_map, any_front}
use Rattle.run_spec.proofs.Orders.Executed.{closed-append, bridges-append, after_all}
use Rattle.run_spec.proofs.Bridges.Standing.{IsSoundBridge, Standing}
use Rattle.run_spec.proofs.Orders.OpenCalls.{opened_kept}

-- ---- stamps

-- what holds of all stamps holds of that which is found
pub found_stamp : (Q : ℕ → Type 0) (p : Done → Bool) (ds : List Done) → AllByRecursion (λ d. Q d.order.stamp) ds →
    IfSome (option_map (λ d. d.order.stamp) (find p ds)) Q
found_stamp Q p [] h = tt
found_stamp Q p (d ∷ ds) h = by Q d (p d) (find p ds) h.0 (found_stamp Q p ds h.1)
  where
    by : (Q : ℕ → Type 0) (d : Done) (t : Bool) (o : Option Done) → Q d.order.stamp → IfSome (option_map (λ d. d.order.stamp) o) Q →
        IfSome (option_map (λ d. d.order.stamp) (if t then Some d else o)) Q
    by Q d true o h k = h
    by Q d false o h k = k

-- so of that of a close
pub closed_stamp : (Q : ℕ → Type 0) (c : ℕ) (ds : List Done) → AllByRecursion (λ d. Q d.order.stamp) ds → IfSome (closed_at c ds) Q
closed_stamp Q c ds h = found_stamp Q _ ds h

-- and of the starts of bridges
pub bridge_stamps : (Q : ℕ → Type 0) (ds : List Done) → AllByRecursion (λ d. Q d.order.stamp) ds → AllByRecursion (λ x. Q x.from) (bridges ds)
bridge_stamps Q [] h = tt
bridge_stamps Q (d ∷ ds) h = each_append _ (bridge_by d.order.stamp d.result ds) (bridges ds) (one Q d.order.stamp d.result ds h.0) (bridge_stamps Q ds h.1)
  where
    one : (Q : ℕ → Type 0) (t : ℕ) (r : Result Act Refusal) (ds : List Done) → Q t → AllByRecursion (λ x. Q x.from) (bridge_by t r ds)
    one Q t (Ok (act.Bridged a b)) ds h = (h, tt)
    one Q t (Ok (act.Opened c law)) ds h = tt
    one Q t (Ok (act.Closed c p)) ds h = tt
    one Q t (Ok (act.Unbridged a b)) ds h = tt
    one Q t (Ok (act.LevelSet c v)) ds h = tt
    one Q t (Ok (act.DtxSet c m)) ds h = tt
    one Q t (Err e) ds h = tt

-- ---- ends

-- where a call ends
abbrev pub at_of : CallEnd → ℕ
at_of e = e.at

-- a call begins where it was opened
pub start_is : (ds : List Done) (c s : ℕ) → opened_at c ds ≡ Some s → start_of ds c ≡ s
start_is ds c s e = ap (λ o. unwrap_or o 0) e

-- it ends where it was closed, or where its lines or the run end it
pub ends_by : (given : ℕ → Given) (P : ℕ) (ds : List Done) (c s : ℕ) (o : Option ℕ) → opened_at c ds ≡ Some s → closed_at c ds ≡ o →
    ends_at given P ds c ≡ at_of (end_by given P c s o)
ends_by given P ds c s o e f =
    ap (λ (o : Option ℕ). at_of (end_by given P c (start_of ds c) o)) f ∙ ap (λ (s : ℕ). at_of (end_by given P c s o)) (start_is ds c s e)

-- a call has period u: it isn't closed, its lines give the period, and the run has it
abbrev pub has : (ℕ → ℕ) → ℕ → List Done → ℕ → ℕ → Bool
has whole P ds u c = is_none (closed_at c ds) && nat_lt u (start_of ds c + whole c) && nat_lt u P

natural_end : (given : ℕ → Given) (P u c s : ℕ) → u < P → nat_lt u (at_of (end_by given P c s None)) ≡ (nat_lt u (s + whole_of (given c)) && nat_lt u P)
natural_end given P u c s l = by (nat_le P (s + whole_of (given c))) refl
  where
    by : (t : Bool) → nat_le P (s + whole_of (given c)) ≡ t →
        nat_lt u (at_of (if t then record { call = c; at = P; cause = Limit }
        else record { call = c; at = s + whole_of (given c); cause = lack_of (whole_of (given c)) (given c) }))
        ≡ (nat_lt u (s + whole_of (given c)) && nat_lt u P)
    by true e =
        let h = leb-true P (s + whole_of (given c)) e in
        lt-ltb u P l ∙ sym (ap (λ t. t && nat_lt u P) (lt-ltb u (s + whole_of (given c)) (omega arith)) ∙ lt-ltb u P l)
    by false e = sym (right (nat_lt u (s + whole_of (given c))) (nat_lt u P) (lt-ltb u P l))
      where
        right : (a b : Bool) → b ≡ true → (a && b) ≡ a
        right true b e = e
        right false b e = refl

has_by : (whole : ℕ → ℕ) (P : ℕ) (ds : List Done) (u c s : ℕ) (o : Option ℕ) → opened_at c ds ≡ Some s → closed_at c ds ≡ o →
    has whole P ds u c ≡ (is_none o && nat_lt u (s + whole c) && nat_lt u P)
has_by whole P ds u c s o e f =
    ap (λ o. is_none o && nat_lt u (start_of ds c + whole c) && nat_lt u P) f ∙ ap (λ s. is_none o && nat_lt u (s + whole c) && nat_lt u P) (start_is ds c s e)

-- a call's end in the whole run comes after u exactly where it has period u
pub ends_has : (given : ℕ → Given) (P t u : ℕ) (ds later : List Done) (c s : ℕ) → Standing (λ c. whole_of (given c)) t ds → t ≤ u →
    Standing (λ c. whole_of (given c)) P (ds ++ later) → u < P →
    AllByRecursion (λ d. u < d.order.stamp) later → opened_at c ds ≡ Some s →
    nat_lt u (ends_at given P (ds ++ later) c) ≡ has (λ c. whole_of (given c)) P ds u c
ends_has given P t u ds later c s sd tu sa up late o = by (closed_at c ds) (closed_at c later) refl refl
  where
    whole : ℕ → ℕ
    whole = λ c. whole_of (given c)

    oo : opened_at c (ds ++ later) ≡ Some s
    oo = opened_kept ds later c s o

    both : (v w : Option ℕ) → closed_at c ds ≡ v → closed_at c later ≡ w → closed_at c (ds ++ later) ≡ or_else v w
    both v w e f = closed-append c ds later ∙ ap (λ v. or_else v (closed_at c later)) e ∙ ap (λ w. or_else v w) f

    by : (v w : Option ℕ) → closed_at c ds ≡ v → closed_at c later ≡ w → nat_lt u (ends_at given P (ds ++ later) c) ≡ has (λ c. whole_of (given c)) P ds u c
    by (Some e) w p q =
        let k = (sd.closed c e p).past in
        ap (λ n. nat_lt u n) (ends_by given P (ds ++ later) c s (Some e) oo (both (Some e) w p q)) ∙ le-ltb u e (omega arith)
        ∙ sym (has_by (λ c. whole_of (given c)) P ds u c s (Some e) o p)
    by None (Some e) p q =
        let f = both None (Some e) p q in
        let k = sa.closed c e f in
        let g : u < e = subst (λ (w : Option ℕ). IfSome w (λ e. u < e)) q (closed_stamp (λ e. u < e) c later late) in
        let m : k.start ≡ s = (let a = k.opened in cc (a, oo)) in
        let b : e ≤ k.start + whole_of (given c) = k.alive in
        ap (λ n. nat_lt u n) (ends_by given P (ds ++ later) c s (Some e) oo f) ∙ lt-ltb u e g
        ∙ sym (has_by (λ c. whole_of (given c)) P ds u c s None o p ∙ ap (λ t. t && nat_lt u P) (lt-ltb u (s + whole_of (given c)) (omega (arith, m)))
        ∙ lt-ltb u P up)
    by None None p q =
        ap (λ n. nat_lt u n) (ends_by given P (ds ++ later) c s None oo (both None None p q)) ∙ natural_end given P u c s up
        ∙ sym (has_by (λ c. whole_of (given c)) P ds u c s None o p)

-- ---- spans

-- where a span ends
abbrev pub to_of : Span → ℕ
to_of x = x.to

min_test : (u a b : ℕ) (x y : Bool) → nat_lt u a ≡ x → nat_lt u b ≡ y → nat_lt u (min a b) ≡ (x && y)
min_test u a b x y p q = elim (cases_lt u a) [
  | inl l ↦ elim (cases_lt u b) [
    | inl m ↦ lt-ltb u (min a b) (omega arith) ∙ sym (cc (lt-ltb u a l, lt-ltb u b m, p, q))
    | inr m ↦ le-ltb u (min a b) (omega arith) ∙ sym (fail x y (sym q ∙ le-ltb u b m))
  ]
  | inr l ↦ le-ltb u (min a b) (omega arith) ∙ sym (ap (λ x. x && y) (sym p ∙ le-ltb u a l))
]
  where
    fail : (x y : Bool) → y ≡ false → (x && y) ≡ false
    fail true y e = e
    fail false y e = refl

later_end : (u n : ℕ) (v : Option ℕ) → IfSome v (λ e. u < e) → nat_lt u (min (unwrap_or v n) n) ≡ nat_lt u n
later_end u n None h = ap (λ m. nat_lt u m) (let e : min n n ≡ n = omega arith in e)
later_end u n (Some e) h = elim (cases_lt u n) [
  | inl l ↦ lt-ltb u (min e n) (omega arith) ∙ sym (lt-ltb u n l)
  | inr l ↦ le-ltb u (min e n) (omega arith) ∙ sym (le-ltb u n l)
]

-- a span goes on after u exactly where no order ended its bridge and both of its calls have period u
pub span_has : (given : ℕ → Given) (P t u : ℕ) (ds later : List Done) (x : Bridge) → Standing (λ c. whole_of (given c)) t ds → t ≤ u →
    Standing (λ c. whole_of (given c)) P (ds ++ later) → u < P →
    AllByRecursion (λ d. u < d.order.stamp) later → IsSoundBridge (λ c. whole_of (given c)) t ds x →
    nat_lt u (to_of (span_of given P (ds ++ later) (after_all later x)))
    ≡ (is_none x.ended && has (λ c. whole_of (given c)) P ds u x.a && has (λ c. whole_of (given c)) P ds u x.b)
span_has given P t u ds later x sd tu sa up late y = by x.ended refl
  where
    ends : ℕ
    ends = min (ends_at given P (ds ++ later) x.a) (ends_at given P (ds ++ later) x.b)

    by : (o : Option ℕ) → x.ended ≡ o →
        nat_lt u (to_of (span_of given P (ds ++ later) (after_all later x)))
        ≡ (is_none x.ended && has (λ c. whole_of (given c)) P ds u x.a && has (λ c. whole_of (given c)) P ds u x.b)
    by (Some e) q =
        let k = y.ended e q in
        ap (λ o. nat_lt u
        (min (unwrap_or (or_else o (option_map (λ d. d.order.stamp) (find (λ d. ends_bridge x.a x.b d.result) later)))
        (min (ends_at given P (ds ++ later) x.a) (ends_at given P (ds ++ later) x.b)))
        (min (ends_at given P (ds ++ later) x.a) (ends_at given P (ds ++ later) x.b)))) q
        ∙ le-ltb u (min e (min (ends_at given P (ds ++ later) x.a) (ends_at given P (ds ++ later) x.b))) (omega arith)
        ∙ sym (ap (λ o. is_none o && has (λ c. whole_of (given c)) P ds u x.a && has (λ c. whole_of (given c)) P ds u x.b) q)
    by None q =
        ap (λ o. nat_lt u
        (min (unwrap_or (or_else o (option_map (λ d. d.order.stamp) (find (λ d. ends_bridge x.a x.b d.result) later)))
        (min (ends_at given P (ds ++ later) x.a) (ends_at given P (ds ++ later) x.b)))
        (min (ends_at given P (ds ++ later) x.a) (ends_at given P (ds ++ later) x.b)))) q
        ∙ later_end u (min (ends_at given P (ds ++ later) x.a) (ends_at given P (ds ++ later) x.b))
        (option_map (λ d. d.order.stamp) (find (λ d. ends_bridge x.a x.b d.result) later)) (found_stamp (λ e. u < e) _ later late)
        ∙ min_test u _ _ _ _ (ends_has given P t u ds later x.a y.start_a sd tu sa up late y.opened_a)
        (ends_has given P t u ds later x.b y.start_b sd tu sa up late y.opened_b)
        ∙ sym (ap (λ o. is_none o && has (λ c. whole_of (given c)) P ds u x.a && has (λ c. whole_of (given c)) P ds u x.b) q)

covers_same : (j f w n a b : Bool) → f ≡ true → w ≡ (n && a && b) → (j && f && w) ≡ (j && n && a && b)
covers_same true f w n a b e g = ap (λ f. f && w) e ∙ g
covers_same false f w n a b e g = refl

-- whether a span of the call covers period u
abbrev pub covers : ℕ → ℕ → Span → Bool
covers c u x = (c == x.a || c == x.b) && nat_le x.from u && nat_lt u x.to

-- whether a bridge of the call lasts in period u
abbrev pub joined_now : (ℕ → ℕ) → ℕ → List Done → ℕ → ℕ → Bridge → Bool
joined_now whole P ds u c x = joins c x && is_none x.ended && has whole P ds u x.a && has whole P ds u x.b

-- **The span of a call that covers period u is that of its bridge that has the period.**
pub span_settled : (given : ℕ → Given) (P t u : ℕ) (ds later : List Done) (c : ℕ) → Standing (λ c. whole_of (given c)) t ds → t ≤ u →
    Standing (λ c. whole_of (given c)) P (ds ++ later) → u < P →
    AllByRecursion (λ d. u < d.order.stamp) later →
    find (covers c u) (spans_of given P (ds ++ later))
    ≡ option_map (λ x. span_of given P (ds ++ later) (after_all later x)) (find (joined_now (λ c. whole_of (given c)) P ds u c) (bridges ds))
span_settled given P t u ds later c sd tu sa up late =
    find_map (covers c u) (span_of given P (ds ++ later)) (bridges (ds ++ later))
    ∙ ap (λ xs. option_map (span_of given P (ds ++ later)) (find (λ x. covers c u (span_of given P (ds ++ later) x)) xs)) (bridges-append ds later)
    ∙ ap (option_map (span_of given P (ds ++ later)))
    (find_front (λ x. covers c u (span_of given P (ds ++ later) x)) (map (after_all later) (bridges ds)) (bridges later)
    (each_weaker (λ x. u < x.from) _ (bridges later) (λ x l. not_yet (c == x.a || c == x.b) (nat_le x.from u) _ (lt-leb x.from u l))
    (bridge_stamps (λ s. u < s) later late))
    ∙ find_map (λ x. covers c u (span_of given P (ds ++ later) x)) (after_all later) (bridges ds)
    ∙ ap (option_map (after_all later)) (find_same _ _ (bridges ds)
    (each_weaker _ _ (bridges ds)
    (λ x y. covers_same (joins c x) (nat_le x.from u) _ (is_none x.ended) (has (λ c. whole_of (given c)) P ds u x.a) (has (λ c. whole_of (given c)) P ds u x.b)
    (le-leb x.from u (let f = y.from in omega arith)) (span_has given P t u ds later x sd tu sa up late y)) sd.sound)))
    ∙ mapped (span_of given P (ds ++ later)) (after_all later) (find (joined_now (λ c. whole_of (given c)) P ds u c) (bridges ds))
  where
    not_yet : (j f w : Bool) → f ≡ false → (j && f && w) ≡ false
    not_yet true f w e = ap (λ f. f && w) e
    not_yet false f w e = refl

    mapped : {X Y Z : Type 0} (f : Y → Z) (g : X → Y) (o : Option X) → option_map f (option_map g o) ≡ option_map (λ x. f (g x)) o
    mapped f g None = refl
    mapped f g (Some x) = refl

-- **A span of a call starts at u exactly where its bridge is known to.**
pub starts_settled : (given : ℕ → Given) (P u : ℕ) (ds later : List Done) (c : ℕ) → AllByRecursion (λ d. u < d.order.stamp) later →
    list_any (λ x. (c == x.a || c == x.b) && x.from == u) (spans_of given P (ds ++ later)) ≡ list_any (λ x. joins c x && x.from == u) (bridges ds)
starts_settled given P u ds later c late =
    any_map (λ x. (c == x.a || c == x.b) && x.from == u) (span_of given P (ds ++ later)) (bridges (ds ++ later))
    ∙ ap (list_any (λ x. joins c x && x.from == u)) (bridges-append ds later)
    ∙ any_front (λ x. joins c x && x.from == u) (map (after_all later) (bridges ds)) (bridges later)
    (each_weaker (λ x. u < x.from) _ (bridges later) (λ x l. other (joins c x) (x.from == u) (ne_eqb x.from u (λ e. omega arith)))
    (bridge_stamps (λ s. u < s) later late))
    ∙ any_map (λ x. joins c x && x.from == u) (after_all later) (bridges ds)
  where
    other : (j f : Bool) → f ≡ false → (j && f) ≡ false
    other true f e = e
    other false f e = refl

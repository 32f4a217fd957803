-- Which calls are bridged after an order that ends a bridge: an `unbridge` or a `close`.
use Rattle.std.proofs.Common.{◌≡◌, refl, sym, ap, ◌∙◌, subst, ℕ, ◌≤◌, ◌≢◌, Bool, true, false, Option, Some, None, List, [], ◌∷◌, inl, inr}
use Rattle.std.specs.Prelude.{not, ◌&&◌, ◌||◌, is_some, option_map, Ok, ◌==◌, if◌then◌else◌}
use Rattle.std.specs.List.{AllByRecursion}
use Rattle.std.proofs.lemmas.Bool.{and_parts, and_from, cases_Bool, eq-eqb, ne_eqb, eqb-true, eqb-false, or_cases, or_from, or_parts, false_from_ne_true}
use Rattle.trau_orders.specs.declared.order.Order.{Order}
use Rattle.switchboard.specs.declared.act.Act.TheVariants as act
use Rattle.switchboard.specs.declared.table.Bridge.{Bridge}
use Rattle.switchboard.specs.Calls.{Done, is_this, opened_at, closed_at, is_open, has_ended, gone_at}
use Rattle.switchboard.specs.Bridges.{ends_bridge, bridges, joins, other, lasts, bridge_of}
use Rattle.switchboard.proofs.Lists.{not_both}
use Rattle.run_spec.proofs.Lists.{each_weaker, each_both, found, one_found, none_each}
use Rattle.run_spec.proofs.Orders.Shown.{done}
use Rattle.run_spec.proofs.Bridges.Standing.{IsSoundBridge, Standing, standing_one}
use Rattle.run_spec.proofs.Bridges.Later.{bridge_each, joins_other}
use Rattle.run_spec.proofs.Orders.NewOrder.{lasts_more, lasted, lasts_same, bridged_more, bridged_kept, bridged_off}

-- a call that was not opened has no bridge
pub none_joins : (whole : ℕ → ℕ) (u : ℕ) (ds : List Done) (c : ℕ) → Standing whole u ds → opened_at c ds ≡ None →
    AllByRecursion (λ x. joins c x ≡ false) (bridges ds)
none_joins whole u ds c s n =
    each_weaker (IsSoundBridge whole u ds) _ (bridges ds)
    (λ x y. or_from (c == x.a) (c == x.b) (differ x.a y.start_a y.opened_a) (differ x.b y.start_b y.opened_b)) s.sound
  where
    differ : (d v : ℕ) → opened_at d ds ≡ Some v → (c == d) ≡ false
    differ d v e = ne_eqb c d (λ q. let f : opened_at c ds ≡ Some v = ap (λ c. opened_at c ds) q ∙ e in cc)

-- what is neither open nor over was not opened
pub unopened : (gone : ℕ → Bool) (ds : List Done) (c : ℕ) → is_open gone ds c ≡ false → has_ended gone ds c ≡ false → opened_at c ds ≡ None
unopened gone ds c e f = by (opened_at c ds) (is_open gone ds c) e f
  where
    by : (o : Option ℕ) (t : Bool) → t ≡ false → (is_some o && not t) ≡ false → o ≡ None
    by None t e f = refl
    by (Some s) true e f = cc
    by (Some s) false e f = cc

-- ---- an `unbridge`

-- **An `unbridge` takes the bridge of both calls off.**
pub unbridged : (whole : ℕ → ℕ) (t u : ℕ) (ds : List Done) (o : Order) (c d : ℕ) (z : Bridge) → Standing whole u ds → u ≤ t →
    bridge_of (gone_at whole t ds) ds d ≡ Some z → (c == z.a || c == z.b) ≡ true →
    bridged_more whole t ds (done o (Ok (act.Unbridged z.a z.b))) c ≡ false
unbridged whole t u ds o c d z s l e j =
    bridged_off whole t ds x c tt
    (each_weaker (λ y. IsSoundBridge whole u ds y × ((joins c y && lasts (gone_at whole t ds) ds y) ≡ true → y ≡ z)) _ (bridges ds)
    (λ y f. false_from_ne_true _ (λ p.
    let g = and_parts (joins c y) (lasts_more whole t ds x y) p in
    let h = lasted whole t u ds x y f.0 g.1 in
    let same : y ≡ z = f.1 (and_from _ _ g.0 h.0) in
    not_both _ (ap (λ (y : Bridge). ends_bridge y.a y.b (Ok (act.Unbridged z.a z.b))) (sym same) ∙ h.1)
    (and_from _ _ (eq-eqb z.a z.a refl) (eq-eqb z.b z.b refl))))
    (each_both _ _ (bridges ds) s.sound (one_found _ (bridges ds) z (standing_one whole u t ds c s l) (bridge_each whole u t ds d c z s l e j))))
  where
    x : Done
    x = done o (Ok (act.Unbridged z.a z.b))

-- and that of no other call
pub unbridged_other : (whole : ℕ → ℕ) (t u : ℕ) (ds : List Done) (o : Order) (c a b : ℕ) → Standing whole u ds → (c == a || c == b) ≡ false →
    bridged_more whole t ds (done o (Ok (act.Unbridged a b))) c ≡ is_some (bridge_of (gone_at whole t ds) ds c)
unbridged_other whole t u ds o c a b s n =
    let x : Done = done o (Ok (act.Unbridged a b)) in
    bridged_kept whole t ds x c tt (each_weaker (IsSoundBridge whole u ds) _ (bridges ds) (λ y h. by y h (joins c y) refl) s.sound)
  where
    unended : (y : Bridge) → joins c y ≡ true → ends_bridge y.a y.b (Ok (act.Unbridged a b)) ≡ false
    unended y j = false_from_ne_true _ (λ p.
        let q = and_parts (a == y.a) (b == y.b) p in
        let m = or_parts (c == a) (c == b) n in
        elim (or_cases (c == y.a) (c == y.b) j) [
          | inl e ↦ eqb-false c a m.0 (eqb-true c y.a e ∙ sym (eqb-true a y.a q.0))
          | inr e ↦ eqb-false c b m.1 (eqb-true c y.b e ∙ sym (eqb-true b y.b q.1))
        ])

    by : (y : Bridge) → IsSoundBridge whole u ds y → (j : Bool) → joins c y ≡ j →
        (j && lasts_more whole t ds (done o (Ok (act.Unbridged a b))) y) ≡ (j && lasts (gone_at whole t ds) ds y)
    by y h true e = lasts_same whole t u ds (done o (Ok (act.Unbridged a b))) y h (unended y e) refl refl
    by y h false e = refl

-- ---- a `close`

-- the bridges of the closed call last no more
closed_joins : (whole : ℕ → ℕ) (t u : ℕ) (ds : List Done) (o : Order) (d : ℕ) (p : Option ℕ) (y : Bridge) → IsSoundBridge whole u ds y → joins d y ≡ true →
    lasts_more whole t ds (done o (Ok (act.Closed d p))) y ≡ true → ⊥
closed_joins whole t u ds o d p y h j e =
    let f = lasted whole t u ds (done o (Ok (act.Closed d p))) y h e in
    elim (or_cases (d == y.a) (d == y.b) j) [
      | inl q ↦ shuts y.a (eqb-true d y.a q) f.2
      | inr q ↦ shuts y.b (eqb-true d y.b q) f.3
    ]
  where
    some : (t : Bool) (x : Done) → t ≡ true → option_map (λ (d : Done). d.order.stamp) (if t then Some x else None) ≡ None → ⊥
    some true x e f = cc
    some false x e f = cc

    shuts : (c : ℕ) → d ≡ c → closed_at c (done o (Ok (act.Closed d p)) ∷ []) ≡ None → ⊥
    shuts c e f = some (c == d) (done o (Ok (act.Closed d p))) (eq-eqb c d (sym e)) f

-- **A `close` takes the bridge of its call off.**
pub closed_itself : (whole : ℕ → ℕ) (t u : ℕ) (ds : List Done) (o : Order) (c d : ℕ) (p : Option ℕ) → Standing whole u ds → c ≡ d →
    bridged_more whole t ds (done o (Ok (act.Closed d p))) c ≡ false
closed_itself whole t u ds o c d p s e =
    bridged_off whole t ds (done o (Ok (act.Closed d p))) c tt (each_weaker (IsSoundBridge whole u ds) _ (bridges ds)
    (λ y h. false_from_ne_true _ (λ q.
    let g = and_parts (joins c y) (lasts_more whole t ds (done o (Ok (act.Closed d p))) y) q in
    closed_joins whole t u ds o d p y h (subst (λ (c : ℕ). joins c y ≡ true) e g.0) g.1)) s.sound)

-- the bridge of a call is its
found_joins : (whole : ℕ → ℕ) (t u : ℕ) (ds : List Done) (d : ℕ) (z : Bridge) → Standing whole u ds → bridge_of (gone_at whole t ds) ds d ≡ Some z →
    joins d z ≡ true
found_joins whole t u ds d z s e =
    (and_parts (joins d z) (lasts (gone_at whole t ds) ds z)
    (found (IsSoundBridge whole u ds) (λ x. joins d x && lasts (gone_at whole t ds) ds x) (bridges ds) z s.sound e).1).0

-- and that of its partner
pub closed_partner : (whole : ℕ → ℕ) (t u : ℕ) (ds : List Done) (o : Order) (d : ℕ) (p : Option ℕ) (z : Bridge) → Standing whole u ds → u ≤ t →
    bridge_of (gone_at whole t ds) ds d ≡ Some z →
    bridged_more whole t ds (done o (Ok (act.Closed d p))) (other d z) ≡ false
closed_partner whole t u ds o d p z s l e =
    bridged_off whole t ds x c tt
    (each_weaker (λ y. IsSoundBridge whole u ds y × ((joins c y && lasts (gone_at whole t ds) ds y) ≡ true → y ≡ z)) _ (bridges ds)
    (λ y f. false_from_ne_true _ (λ q.
    let g = and_parts (joins c y) (lasts_more whole t ds x y) q in
    let h = lasted whole t u ds x y f.0 g.1 in
    let same : y ≡ z = f.1 (and_from _ _ g.0 h.0) in
    closed_joins whole t u ds o d p y f.0 (subst (λ (y : Bridge). joins d y ≡ true) (sym same) (found_joins whole t u ds d z s e)) g.1))
    (each_both _ _ (bridges ds) s.sound
    (one_found _ (bridges ds) z (standing_one whole u t ds c s l) (bridge_each whole u t ds d c z s l e (joins_other d z)))))
  where
    x : Done
    x = done o (Ok (act.Closed d p))

    c : ℕ
    c = other d z

-- the two calls of a bridge
other_is : (c d : ℕ) (z : Bridge) → joins c z ≡ true → joins d z ≡ true → c ≢ d → c ≡ other d z
other_is c d z j k n = elim (cases_Bool (d == z.a)) [
  | inl e ↦ elim (or_cases (c == z.a) (c == z.b) j) [
    | inl f ↦ absurd (n (eqb-true c z.a f ∙ sym (eqb-true d z.a e)))
    | inr f ↦ eqb-true c z.b f ∙ sym (ap (λ (t : Bool). if t then z.b else z.a) e)
  ]
  | inr e ↦ elim (or_cases (c == z.a) (c == z.b) j) [
    | inl f ↦ eqb-true c z.a f ∙ sym (ap (λ (t : Bool). if t then z.b else z.a) e)
    | inr f ↦ elim (or_cases (d == z.a) (d == z.b) k) [ inl g ↦ absurd (not_both _ e g) | inr g ↦ absurd (n (eqb-true c z.b f ∙ sym (eqb-true d z.b g))) ]
  ]
]

-- and that of no other call
pub closed_other : (whole : ℕ → ℕ) (t u : ℕ) (ds : List Done) (o : Order) (c d : ℕ) (p : Option ℕ) → Standing whole u ds → u ≤ t →
    p ≡ option_map (other d) (bridge_of (gone_at whole t ds) ds d) →
    (c == d) ≡ false → is_this c p ≡ false → bridged_more whole t ds (done o (Ok (act.Closed d p))) c ≡ is_some (bridge_of (gone_at whole t ds) ds c)
closed_other whole t u ds o c d p s l e n m =
    bridged_kept whole t ds (done o (Ok (act.Closed d p))) c tt
    (each_weaker (λ y. IsSoundBridge whole u ds y × (joins c y ≡ true → joins d y ≡ true → lasts (gone_at whole t ds) ds y ≡ false)) _ (bridges ds)
    (λ y h. by y h.0 h.1 (joins c y) (joins d y) refl refl) (each_both _ _ (bridges ds) s.sound (alone (bridge_of (gone_at whole t ds) ds d) refl)))
  where
    apart : c ≢ d
    apart = eqb-false c d n

    -- no bridge of both lasts
    alone : (o : Option Bridge) → bridge_of (gone_at whole t ds) ds d ≡ o →
        AllByRecursion (λ y. joins c y ≡ true → joins d y ≡ true → lasts (gone_at whole t ds) ds y ≡ false) (bridges ds)
    alone None f = each_weaker _ _ (bridges ds) (λ y h j k. false_from_ne_true _ (λ q. not_both _ h (and_from _ _ k q))) (none_each _ (bridges ds) f)
    alone (Some z) f = each_weaker _ _ (bridges ds) (λ y h j k. false_from_ne_true _ (λ q.
        let same : y ≡ z = h (and_from (joins d y) (lasts (gone_at whole t ds) ds y) k q) in
        let this : c ≡ other d z = other_is c d z (subst (λ (y : Bridge). joins c y ≡ true) same j) (subst (λ (y : Bridge). joins d y ≡ true) same k) apart in
        let g : p ≡ Some (other d z) = e ∙ ap (option_map (other d)) f in
        not_both _ m (ap (is_this c) g ∙ eq-eqb c (other d z) this)))
        (one_found _ (bridges ds) z (standing_one whole u t ds d s l) f)

    unended : (y : Bridge) (p : Option ℕ) → joins d y ≡ false → ends_bridge y.a y.b (Ok (act.Closed d p)) ≡ false
    unended y None k = refl
    unended y (Some q) k =
        let f = or_parts (d == y.a) (d == y.b) k in
        or_from (d == y.a && q == y.b) (d == y.b && q == y.a) (ap (λ s. s && q == y.b) f.0) (ap (λ s. s && q == y.a) f.1)

    unclosed : (q : ℕ) → (d == q) ≡ false → closed_at q (done o (Ok (act.Closed d p)) ∷ []) ≡ None
    unclosed q f =
        ap (λ (s : Bool). option_map (λ (d : Done). d.order.stamp) (if s then Some (done o (Ok (act.Closed d p))) else None))
        (ne_eqb q d (λ g. eqb-false d q f (sym g)))

    by : (y : Bridge) → IsSoundBridge whole u ds y → (joins c y ≡ true → joins d y ≡ true → lasts (gone_at whole t ds) ds y ≡ false) → (i j : Bool) →
        joins c y ≡ i → joins d y ≡ j →
        (i && lasts_more whole t ds (done o (Ok (act.Closed d p))) y) ≡ (i && lasts (gone_at whole t ds) ds y)
    by y h k false j f g = refl
    by y h k true true f g = false_from_ne_true _ (λ q. closed_joins whole t u ds o d p y h g q) ∙ sym (k f g)
    by y h k true false f g =
        let w = or_parts (d == y.a) (d == y.b) g in
        lasts_same whole t u ds (done o (Ok (act.Closed d p))) y h (unended y p g) (unclosed y.a w.0) (unclosed y.b w.1)

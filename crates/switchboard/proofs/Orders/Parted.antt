-- For crates above: closing either of its calls ends a bridge (`closes_this`).
-- An order that ends a bridge or a call, in the table and in the list of orders.
use Rattle.std.proofs.Common.{◌≡◌, refl, sym, ap, ◌∙◌, subst, ℕ, ◌+◌, ◌<◌, ◌≤◌, ◌≢◌, Bool, true, false, Option, Some, None, List, [], ◌∷◌, ◌++◌, length, map}
use Rattle.std.proofs.Common.{set, arith, inl, inr, ◌⊎◌}
use Rattle.std.specs.Prelude.{Ok, if◌then◌else◌, ◌&&◌, is_none, ◌==◌, IfSome}
use Rattle.std.proofs.lemmas.Bool.{cases_Bool, eqb-true, eq-eqb, and_parts, or_cases, cases_order, and_from, or_left, or_right}
use Rattle.std.proofs.lemmas.List.{append-nil, get_or-set_same}
use Rattle.trau_orders.specs.declared.order.Order.{Order}
use Rattle.switchboard.specs.declared.act.Act.TheVariants as act
use Rattle.switchboard.specs.declared.table.Bridge.{Bridge}
use Rattle.switchboard.specs.Calls.{Done}
use Rattle.switchboard.specs.Bridges.{ends_bridge, joins, other, no_bridge}
use Rattle.switchboard.specs.Rows.{Rows, IsSized, call_in, bridge_at_place, is_open_in, is_live_in, bridge_in, some_if, closed_in, parted_at, parted_in}
use Rattle.switchboard.specs.Rows.{gone_from_in}
use Rattle.switchboard.specs.State.{last_stamp}
use Rattle.switchboard.specs.Stands.{IsLatest, IsTable, Stands}
use Rattle.switchboard.proofs.Orders.OneMore.{or_else, after}
use Rattle.switchboard.proofs.Tables.Known.{open_parts, live_parts, over-not_live}
use Rattle.switchboard.proofs.Orders.Steps.{or_else-none, field_kept, field_set, after_kept, after_had, after_ends, map_after_same, map_after_at, table_later}
use Rattle.switchboard.proofs.Tables.Calls.{joins_left, joins_right, joins_cases, none_live, table_closed}
use Rattle.switchboard.proofs.Tables.Parted.{table_parted}
use Rattle.switchboard.proofs.Orders.Opened.{done_from, stands_by, IsSome_before, stamped}
use Rattle.switchboard.proofs.Lists.{not_both}

-- ---- bridges

pub some_if-none : {X : Type 0} (t : Bool) (x : X) → some_if t x ≡ None → t ≡ false
some_if-none true x e = cc
some_if-none false x e = refl

some_if-some : {X : Type 0} (t : Bool) (x y : X) → some_if t x ≡ Some y → (t ≡ true) × (x ≡ y)
some_if-some true x y e = (refl, cc)
some_if-some false x y e = cc

abbrev pub latest_live : Rows → Option ℕ → Option Bridge
latest_live r o = elim o [ None ↦ None | Some k ↦ some_if (is_live_in r (bridge_at_place r k)) (bridge_at_place r k) ]

pub not_live_at : (r : Rows) (c k : ℕ) → bridge_in r c ≡ None → (call_in r c).bridge ≡ Some k → is_live_in r (bridge_at_place r k) ≡ false
not_live_at r c k e p = some_if-none _ (bridge_at_place r k) (sym (ap (latest_live r) p) ∙ e)

pub bridge_found : (r : Rows) (x : Bridge) (o : Option ℕ) → latest_live r o ≡ Some x →
    (k : ℕ) × (o ≡ Some k) × (is_live_in r (bridge_at_place r k) ≡ true) × (bridge_at_place r k ≡ x)
bridge_found r x None e = cc
bridge_found r x (Some k) e = let p = some_if-some _ (bridge_at_place r k) x e in (k, refl, p.0, p.1)

-- the latest bridge of a call of a live bridge is that one
pub same_latest : (r : Rows) (now a k : ℕ) (o : Option ℕ) → IsTable r now → IsLatest r.bridges a o →
    k < length r.bridges → joins a (bridge_at_place r k) ≡ true → is_live_in r (bridge_at_place r k) ≡ true → o ≡ Some k
same_latest r now a k None s l h q live = absurd (not_both _ (l k h) q)
same_latest r now a k (Some m) s l h q live = elim (cases_order k m) [
  | inl p ↦ ap Some (sym p)
  | inr (inl p) ↦ absurd (not_both _ (over-not_live r _ _ (s.over a k m p l.0 q l.1)) live)
  | inr (inr p) ↦ absurd (not_both _ (l.2 k p h) q)
]

abbrev Pair : Bridge → Bridge → Type 0
Pair x y = ((y.a ≡ x.a) × (y.b ≡ x.b)) ⊎ ((y.a ≡ x.b) × (y.b ≡ x.a))

-- **A call has at most one live bridge.**
pub one_live : (r : Rows) (now c j k : ℕ) → IsTable r now → j < length r.bridges → k < length r.bridges → joins c (bridge_at_place r j) ≡ true →
    joins c (bridge_at_place r k) ≡ true → is_live_in r (bridge_at_place r j) ≡ true → is_live_in r (bridge_at_place r k) ≡ true → j ≡ k
one_live r now c j k s lj lk qj qk vj vk = elim (cases_order j k) [
  | inl p ↦ p
  | inr (inl p) ↦ absurd (not_both _ (over-not_live r _ _ (s.over c j k p lk qj qk)) vj)
  | inr (inr p) ↦ absurd (not_both _ (over-not_live r _ _ (s.over c k j p lj qk qj)) vk)
]

pair_live : (r : Rows) (x y : Bridge) → is_live_in r x ≡ true → Pair x y → y.ended ≡ None → is_live_in r y ≡ true
pair_live r x y live p e =
    let v = live_parts r x live in
    elim p [
      | inl q ↦ live_by _ _ _ e (ap (is_open_in r) q.0 ∙ v.1) (ap (is_open_in r) q.1 ∙ v.2)
      | inr q ↦ live_by _ _ _ e (ap (is_open_in r) q.0 ∙ v.2) (ap (is_open_in r) q.1 ∙ v.1)
    ]
  where
    live_by : (o : Option ℕ) (a b : Bool) → o ≡ None → a ≡ true → b ≡ true → (is_none o && a && b) ≡ true
    live_by o a b p q r = cc

pair_joins : (x y : Bridge) → Pair x y → joins x.a y ≡ true
pair_joins x y p = elim p [ inl q ↦ joins_left x.a y (sym q.0) | inr q ↦ joins_right x.a y (sym q.1) ]

parted_bridges : (r : Rows) (now : ℕ) (d : Done) (k : ℕ) → IsTable r now → k < length r.bridges → is_live_in r (bridge_at_place r k) ≡ true →
    ends_bridge (bridge_at_place r k).a (bridge_at_place r k).b d.result ≡ true →
    ((y : Bridge) → ends_bridge y.a y.b d.result ≡ true → Pair (bridge_at_place r k) y) →
    map (after d) r.bridges ≡ set r.bridges k (record (bridge_at_place r k) { ended = Some d.order.stamp })
parted_bridges r now d k s lk live this pair =
    let x = bridge_at_place r k in
    map_after_at d r.bridges k _ lk (after_ends d x (live_parts r x live).0 this)
    (λ j l ne. elim (cases_Bool (ends_bridge (bridge_at_place r j).a (bridge_at_place r j).b d.result)) [
      | inr e ↦ after_kept d (bridge_at_place r j) e
      | inl e ↦ others r now d k j s lk live l ne (pair (bridge_at_place r j) e) (bridge_at_place r j).ended refl
    ])
  where
    others : (r : Rows) (now : ℕ) (d : Done) (k j : ℕ) → IsTable r now → k < length r.bridges → is_live_in r (bridge_at_place r k) ≡ true →
        j < length r.bridges → j ≢ k → Pair (bridge_at_place r k) (bridge_at_place r j) → (o : Option ℕ) →
        (bridge_at_place r j).ended ≡ o → after d (bridge_at_place r j) ≡ bridge_at_place r j
    others r now d k j s lk live l ne p (Some u) e = after_had d (bridge_at_place r j) u e
    others r now d k j s lk live l ne p None e =
        let x = bridge_at_place r k in
        absurd (ne (one_live r now x.a j k s l lk (pair_joins x (bridge_at_place r j) p) (joins_left x.a x refl) (pair_live r x (bridge_at_place r j) live p e)
        live))

pub stands_unbridged : (r : Rows) (ds : List Done) (o : Order) (k : ℕ) → Stands r ds → IsSized r.calls r.bridges → last_stamp ds ≤ o.stamp →
    k < length r.bridges → is_live_in r (bridge_at_place r k) ≡ true →
    Stands (parted_in r o.stamp (bridge_at_place r k).a) (ds ++ done_from o (Ok (act.Unbridged (bridge_at_place r k).a (bridge_at_place r k).b)) ∷ [])
stands_unbridged r ds o k s z late lk live =
    let x = bridge_at_place r k in
    let d : Done = done_from o (Ok (act.Unbridged x.a x.b)) in
    let t = table_later r _ _ s.table late in
    let e = same_latest r _ x.a k _ s.table (s.table.latest x.a (z.named k lk).0) lk (joins_left x.a x refl) live in
    let at : parted_in r o.stamp x.a ≡ parted_at r o.stamp k = ap (λ (i : Option ℕ). elim i [ None ↦ r | Some k ↦ parted_at r o.stamp k ]) e in
    subst (λ (n : Rows). Stands n (ds ++ d ∷ [])) (sym at)
    (stands_by r (parted_at r o.stamp k) ds d s
    (λ c h. sym (or_else-none _)) (λ c h. sym (or_else-none _)) (λ c q. cc)
    (sym (append-nil _ ∙ parted_bridges r _ d k s.table lk live (and_from _ _ (eq-eqb x.a x.a refl) (eq-eqb x.b x.b refl))
    (λ y q. let p = and_parts (x.a == y.a) (x.b == y.b) q in inl (sym (eqb-true _ _ p.0), sym (eqb-true _ _ p.1)))))
    (table_parted r o.stamp k t lk live))

-- the two ways in which a `close` names a bridge
pub closes_this : (c : ℕ) (x : Bridge) → joins c x ≡ true → ends_bridge x.a x.b (Ok (act.Closed c (Some (other c x)))) ≡ true
closes_this c x q = elim (cases_Bool (c == x.a)) [
  | inl p ↦ or_left _ _ (and_from _ _ p (ap (λ (t : Bool). (if t then x.b else x.a) == x.b) p ∙ eq-eqb x.b x.b refl))
  | inr p ↦ or_right _ _ (and_from _ _ (elim (joins_cases c x q) [ inl e ↦ absurd (not_both _ p (eq-eqb c x.a e)) | inr e ↦ eq-eqb c x.b e ])
      (ap (λ (t : Bool). (if t then x.b else x.a) == x.a) p ∙ eq-eqb x.a x.a refl))
]

closes_pair : (c : ℕ) (x y : Bridge) → joins c x ≡ true → ends_bridge y.a y.b (Ok (act.Closed c (Some (other c x)))) ≡ true → Pair x y
closes_pair c x y q e = elim (cases_Bool (c == x.a)) [
  | inl p ↦
      let o : other c x ≡ x.b = ap (λ (t : Bool). if t then x.b else x.a) p in
      let h = eqb-true c x.a p in
      elim (or_cases (c == y.a && other c x == y.b) (c == y.b && other c x == y.a) e) [
        | inl f ↦ let g = and_parts (c == y.a) (other c x == y.b) f in inl (sym (eqb-true _ _ g.0) ∙ h, sym (eqb-true _ _ g.1) ∙ o)
        | inr f ↦ let g = and_parts (c == y.b) (other c x == y.a) f in inr (sym (eqb-true _ _ g.1) ∙ o, sym (eqb-true _ _ g.0) ∙ h)
      ]
  | inr p ↦
      let o : other c x ≡ x.a = ap (λ (t : Bool). if t then x.b else x.a) p in
      let h : c ≡ x.b = elim (joins_cases c x q) [ inl e ↦ absurd (not_both _ p (eq-eqb c x.a e)) | inr e ↦ e ] in
      elim (or_cases (c == y.a && other c x == y.b) (c == y.b && other c x == y.a) e) [
        | inl f ↦ let g = and_parts (c == y.a) (other c x == y.b) f in inr (sym (eqb-true _ _ g.0) ∙ h, sym (eqb-true _ _ g.1) ∙ o)
        | inr f ↦ let g = and_parts (c == y.b) (other c x == y.a) f in inl (sym (eqb-true _ _ g.1) ∙ o, sym (eqb-true _ _ g.0) ∙ h)
      ]
]

-- ---- closing

-- ends before t lie before t + 1 too
sooner : (r : Rows) (t : ℕ) → IsSome_before r t → (d : ℕ) → IfSome (gone_from_in r d) (λ u. u < t + 1)
sooner r t told d = by t (gone_from_in r d) (told d)
  where
    by : (t : ℕ) (o : Option ℕ) → IfSome o (λ u. u < t) → IfSome o (λ u. u < t + 1)
    by t None h = h
    by t (Some u) h = omega arith

-- the stamp with which a call was closed, after a `close`
closed_field : (r : Rows) (t c : ℕ) → c < length r.calls → (call_in r c).closed ≡ None → (k : ℕ) → (call_in (closed_in r t c) k).closed
    ≡ or_else (call_in r k).closed (if k == c then Some t else None)
closed_field r t c l old k = field_set (λ x. x.closed) r.calls c (record (call_in r c) { closed = Some t }) t l refl old k

pub stands_closed : (r : Rows) (ds : List Done) (o : Order) (c : ℕ) → Stands r ds →
    length r.calls ≡ 4097 → last_stamp ds ≤ o.stamp → c < 4097 → is_open_in r c ≡ true → IsSome_before r o.stamp → bridge_in r c ≡ None →
    Stands (closed_in r o.stamp c) (ds ++ done_from o (Ok (act.Closed c None)) ∷ [])
stands_closed r ds o c s len late h lasts told none =
    let d : Done = done_from o (Ok (act.Closed c None)) in
    stands_by r (closed_in r o.stamp c) ds d s
    (λ k l. field_kept (λ x. x.opened) r.calls c (record (call_in r c) { closed = Some o.stamp }) refl k ∙ sym (or_else-none _))
    (λ k l. closed_field r o.stamp c (omega arith) (open_parts _ _ _ lasts).1 k ∙ ap (λ u. or_else (call_in r k).closed u) (stamped (k == c) d))
    (λ k q. cc)
    (sym (append-nil _ ∙ map_after_same d r.bridges (λ j l. after_kept d _ refl)))
    (table_closed r o.stamp o.stamp c (table_later r _ _ s.table late) (omega arith) (open_parts _ _ _ lasts).0 (open_parts _ _ _ lasts).2 (omega arith)
    (sooner r o.stamp told)
    (none_live r _ c s.table (call_in r c).bridge (s.table.latest c h) (λ k e. not_live_at r c k none e)))

-- the parted bridge is live no more
pub parted_not_live : (r : Rows) (t k : ℕ) → k < length r.bridges → is_live_in (parted_at r t k) (bridge_at_place (parted_at r t k) k) ≡ false
parted_not_live r t k l = ap (is_live_in (parted_at r t k)) (get_or-set_same r.bridges k (record (bridge_at_place r k) { ended = Some t }) no_bridge l)

-- a bridged call is closed
pub stands_closed_bridge : (r : Rows) (ds : List Done) (o : Order) (c k : ℕ) → Stands r ds →
    length r.calls ≡ 4097 → last_stamp ds ≤ o.stamp → c < 4097 → is_open_in r c ≡ true → IsSome_before r o.stamp →
    (call_in r c).bridge ≡ Some k → is_live_in r (bridge_at_place r k) ≡ true →
    Stands (closed_in (parted_in r o.stamp c) o.stamp c) (ds ++ done_from o (Ok (act.Closed c (Some (other c (bridge_at_place r k))))) ∷ [])
stands_closed_bridge r ds o c k s len late h lasts told e live =
    let x = bridge_at_place r k in
    let d : Done = done_from o (Ok (act.Closed c (Some (other c x)))) in
    let n : Rows = parted_at r o.stamp k in
    let t = table_later r _ _ s.table late in
    let l = subst (λ (i : Option ℕ). IsLatest r.bridges c i) e (s.table.latest c h) in
    let at : parted_in r o.stamp c ≡ n = ap (λ (i : Option ℕ). elim i [ None ↦ r | Some k ↦ parted_at r o.stamp k ]) e in
    let q : joins c x ≡ true = l.1 in
    let p : IsTable n o.stamp = table_parted r o.stamp k t l.0 live in
    subst (λ (m : Rows). Stands (closed_in m o.stamp c) (ds ++ d ∷ [])) (sym at)
    (stands_by r (closed_in n o.stamp c) ds d s
    (λ k l. field_kept (λ x. x.opened) r.calls c (record (call_in r c) { closed = Some o.stamp }) refl k ∙ sym (or_else-none _))
    (λ k l. closed_field r o.stamp c (omega arith) (open_parts _ _ _ lasts).1 k ∙ ap (λ u. or_else (call_in r k).closed u) (stamped (k == c) d))
    (λ k q. cc)
    (sym (append-nil _ ∙ parted_bridges r _ d k s.table l.0 live (closes_this c x q) (λ y e. closes_pair c x y q e)))
    (table_closed n o.stamp o.stamp c p (omega arith) (open_parts _ _ _ lasts).0 (open_parts _ _ _ lasts).2 (omega arith) (sooner r o.stamp told)
    (none_live n o.stamp c p (call_in n c).bridge (p.latest c h) (λ j f.
    let g : j ≡ k = cc (f, e) in
    ap (λ (j : ℕ). is_live_in n (bridge_at_place n j)) g ∙ parted_not_live r o.stamp k l.0))))

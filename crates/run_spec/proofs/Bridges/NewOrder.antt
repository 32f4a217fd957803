-- A bridge after one more order, and one that it makes.
use Rattle.std.proofs.Common.{◌≡◌, refl, sym, ap, ◌∙◌, subst, ℕ, ◌+◌, ◌<◌, ◌≤◌, Bool, true, false, Option, Some, None, List, [], ◌∷◌, ◌++◌, inl, inr, ◌⊎◌}
use Rattle.std.proofs.Common.{arith}
use Rattle.std.specs.Prelude.{Result, Ok, Err, ◌&&◌, option_map, if◌then◌else◌}
use Rattle.std.specs.List.{AllByRecursion}
use Rattle.std.proofs.lemmas.Bool.{eq-eqb, and_from, or_left, or_right, ltb-true, ltb-false, false_from_ne_true}
use Rattle.trau_orders.specs.declared.order.Order.{Order}
use Rattle.switchboard.specs.declared.act.Act.{Act}
use Rattle.switchboard.specs.declared.act.Act.TheVariants as act
use Rattle.switchboard.specs.declared.act.Refusal.{Refusal}
use Rattle.switchboard.specs.declared.table.Bridge.{Bridge}
use Rattle.switchboard.specs.Calls.{Done, opened_at, closed_at, is_open, gone_at}
use Rattle.switchboard.specs.Bridges.{ends_bridge, bridge_by, bridges, joins, other, lasts, bridge_of}
use Rattle.switchboard.specs.Replies.{known_of}
use Rattle.switchboard.proofs.Orders.OneMore.{or_else, after}
use Rattle.switchboard.proofs.Orders.Parted.{closes_this}
use Rattle.switchboard.proofs.Lists.{not_both}
use Rattle.run_spec.proofs.Lists.{each_weaker, each_all, none_each, AtMostOne, one_found}
use Rattle.run_spec.proofs.Orders.Executed.{closed-append}
use Rattle.run_spec.proofs.Orders.Shown.{ShownBy, closes, done}
use Rattle.run_spec.proofs.Orders.OpenCalls.{open_facts, shut_cases, gone_is, opened_kept, either, closed_cases}
use Rattle.run_spec.proofs.Bridges.Standing.{IsSoundBridge, Standing, lasts_from}

-- a close ends the bridge of its call that lasts
abbrev pub IsParted : (ℕ → ℕ) → ℕ → List Done → Result Act Refusal → Bridge → Type 0
IsParted whole t ds r x =
    (c : ℕ) (p : Option ℕ) → r ≡ Ok (act.Closed c p) → joins c x ≡ true → lasts (gone_at whole t ds) ds x ≡ true → ends_bridge x.a x.b r ≡ true

-- a `close` parts every bridge of its call that lasts
pub parted : (whole : ℕ → ℕ) (t : ℕ) (ds : List Done) (r : Result Act Refusal) →
    ((c : ℕ) → AtMostOne (λ x. joins c x && lasts (gone_at whole t ds) ds x) (bridges ds)) →
    ShownBy (known_of (gone_at whole t ds) t ds) r → AllByRecursion (IsParted whole t ds r) (bridges ds)
parted whole t ds (Ok (act.Closed c p)) one h = by (bridge_of (gone_at whole t ds) ds c) refl
  where
    ends : (p q : Option ℕ) (x : Bridge) → p ≡ q → ends_bridge x.a x.b (Ok (act.Closed c q)) ≡ true → ends_bridge x.a x.b (Ok (act.Closed c p)) ≡ true
    ends p q x e f = subst (λ (q : Option ℕ). ends_bridge x.a x.b (Ok (act.Closed c q)) ≡ true) (sym e) f

    same_call : (d : ℕ) (q : Option ℕ) → ◌≡◌ {A = Result Act Refusal} (Ok (act.Closed c p)) (Ok (act.Closed d q)) → d ≡ c
    same_call d q e = cc

    by : (o : Option Bridge) → bridge_of (gone_at whole t ds) ds c ≡ o → AllByRecursion (IsParted whole t ds (Ok (act.Closed c p))) (bridges ds)
    by None e = each_weaker (λ x. (joins c x && lasts (gone_at whole t ds) ds x) ≡ false) (IsParted whole t ds (Ok (act.Closed c p))) (bridges ds)
        (λ x f d q g j l. let m : joins c x ≡ true = rw (← same_call d q g) j in absurd (not_both _ f (and_from _ _ m l))) (none_each _ (bridges ds) e)
    by (Some z) e = each_weaker (λ x. (joins c x && lasts (gone_at whole t ds) ds x) ≡ true → x ≡ z) (IsParted whole t ds (Ok (act.Closed c p))) (bridges ds)
        (λ x f d q g j l.
        let m : joins c x ≡ true = rw (← same_call d q g) j in
        let w : p ≡ Some (other c x) = h.1 ∙ ap (option_map (other c)) e ∙ ap (λ z. Some (other c z)) (sym (f (and_from _ _ m l))) in
        ends p (Some (other c x)) x w (closes_this c x m))
        (one_found _ (bridges ds) z (one c) e)
parted whole t ds (Ok (act.Opened c law)) one h = each_all _ (bridges ds) (λ x d q g. cc)
parted whole t ds (Ok (act.Bridged a b)) one h = each_all _ (bridges ds) (λ x d q g. cc)
parted whole t ds (Ok (act.Unbridged a b)) one h = each_all _ (bridges ds) (λ x d q g. cc)
parted whole t ds (Ok (act.LevelSet c v)) one h = each_all _ (bridges ds) (λ x d q g. cc)
parted whole t ds (Ok (act.DtxSet c m)) one h = each_all _ (bridges ds) (λ x d q g. cc)
parted whole t ds (Err f) one h = each_all _ (bridges ds) (λ x d q g. cc)

-- ---- a bridge after one more order

-- the stamp of the order, if it was that one
one_stamp : (t : Bool) (d : Done) (e : ℕ) → option_map (λ d. d.order.stamp) (if t then Some d else None) ≡ Some e → e ≡ d.order.stamp
one_stamp true d e h = cc
one_stamp false d e h = cc

-- it was not
no_stamp : (t : Bool) (d : Done) → option_map (λ d. d.order.stamp) (if t then Some d else None) ≡ None → t ≡ false
no_stamp true d h = cc
no_stamp false d h = refl

-- none of both
neither : (u v : Option ℕ) → or_else u v ≡ None → (u ≡ None) × (v ≡ None)
neither None v e = (refl, e)
neither (Some x) v e = cc

-- what has ended was over before, or the order ended it
pub after_some : (d : Done) (x : Bridge) (e : ℕ) → (after d x).ended ≡ Some e → (x.ended ≡ Some e) ⊎ ((x.ended ≡ None) × (e ≡ d.order.stamp))
after_some d x e h = elim (either x.ended _ e h) [ inl p ↦ inl p | inr p ↦ inr (p.0, one_stamp (ends_bridge x.a x.b d.result) d e p.1) ]

-- what goes on was not over, and the order did not end it
pub after_none : (d : Done) (x : Bridge) → (after d x).ended ≡ None → (x.ended ≡ None) × (ends_bridge x.a x.b d.result ≡ false)
after_none d x h = let p = neither x.ended _ h in (p.0, no_stamp (ends_bridge x.a x.b d.result) d p.1)

-- the other call of a bridge was gone, where a call of it is closed and that doesn't end it
other_gone : (whole : ℕ → ℕ) (t u : ℕ) (ds : List Done) (q m start_q start_m : ℕ) → Standing whole t ds → t ≤ u →
    opened_at q ds ≡ Some start_q → opened_at m ds ≡ Some start_m → ((e : ℕ) → closed_at m ds ≡ Some e → start_q + whole q < e) →
    is_open (gone_at whole u ds) ds q ≡ true → is_open (gone_at whole u ds) ds m ≡ false → start_m + whole m < u
other_gone whole t u ds q m start_q start_m s l oq om shut open_q shut_m =
    let f = open_facts (gone_at whole u ds) ds q open_q in
    elim (shut_cases (gone_at whole u ds) ds m start_m om shut_m) [
      | inl p ↦
          let a : u ≤ start_q + whole q = ltb-false (start_q + whole q) u (sym (gone_is whole u ds q start_q oq) ∙ f.3) in
          let b : start_q + whole q < p.0 = shut p.0 p.1 in
          let k : p.0 ≤ t = (s.closed m p.0 p.1).past in
          absurd (omega arith)
      | inr g ↦ ltb-true (start_m + whole m) u (sym (gone_is whole u ds m start_m om) ∙ g)
    ]

-- **A bridge is sound after one more order.**
pub sound_more : (whole : ℕ → ℕ) (t : ℕ) (ds : List Done) (o : Order) (r : Result Act Refusal) → Standing whole t ds → t ≤ o.stamp →
    ShownBy (known_of (gone_at whole o.stamp ds) o.stamp ds) r →
    (x : Bridge) → IsSoundBridge whole t ds x → IsParted whole o.stamp ds r x → IsSoundBridge whole o.stamp (ds ++ done o r ∷ []) (after (done o r) x)
sound_more whole t ds o r s l h x y cut = record {
  start_a = y.start_a;
  start_b = y.start_b;
  opened_a = opened_kept ds (done o r ∷ []) x.a y.start_a y.opened_a;
  opened_b = opened_kept ds (done o r ∷ []) x.b y.start_b y.opened_b;
  after_a = y.after_a;
  after_b = y.after_b;
  from = let f = y.from in omega arith;
  ended = λ e q. elim (after_some (done o r) x e q) [ inl p ↦ (let f = y.ended e p in omega arith) | inr p ↦ (let f : e ≡ o.stamp = p.1 in omega arith) ];
  shut_a = λ e n c. elim (closed_cases ds (done o r ∷ []) x.a e c) [
    | inl p ↦ y.shut_a e (after_none (done o r) x n).0 p
    | inr p ↦
        let k = closes x.a e o r p.1 in
        let w : ends_bridge x.a x.b r ≡ false = (after_none (done o r) x n).1 in
        let v : is_open (gone_at whole o.stamp ds) ds x.a ≡ true = open_call x.a k.0 k.1 in
        let z : is_open (gone_at whole o.stamp ds) ds x.b ≡ false =
        false_from_ne_true _
        (λ b. not_both _ w (cut x.a k.0 k.1 (or_left _ _ (eq-eqb x.a x.a refl))
        (lasts_from (gone_at whole o.stamp ds) ds x (after_none (done o r) x n).0 v b))) in
        let g = other_gone whole t o.stamp ds x.a x.b y.start_a y.start_b s l y.opened_a y.opened_b (λ e f. y.shut_b e (after_none (done o r) x n).0 f) v z in
        omega (arith, k.2)
  ];
  shut_b = λ e n c. elim (closed_cases ds (done o r ∷ []) x.b e c) [
    | inl p ↦ y.shut_b e (after_none (done o r) x n).0 p
    | inr p ↦
        let k = closes x.b e o r p.1 in
        let w : ends_bridge x.a x.b r ≡ false = (after_none (done o r) x n).1 in
        let v : is_open (gone_at whole o.stamp ds) ds x.b ≡ true = open_call x.b k.0 k.1 in
        let z : is_open (gone_at whole o.stamp ds) ds x.a ≡ false =
        false_from_ne_true _
        (λ b. not_both _ w (cut x.b k.0 k.1 (or_right _ _ (eq-eqb x.b x.b refl))
        (lasts_from (gone_at whole o.stamp ds) ds x (after_none (done o r) x n).0 b v))) in
        let g = other_gone whole t o.stamp ds x.b x.a y.start_b y.start_a s l y.opened_b y.opened_a (λ e f. y.shut_a e (after_none (done o r) x n).0 f) v z in
        omega (arith, k.2)
  ];
}
  where
    open_call : (q : ℕ) (p : Option ℕ) → r ≡ Ok (act.Closed q p) → is_open (gone_at whole o.stamp ds) ds q ≡ true
    open_call q p e =
        let f : ShownBy (known_of (gone_at whole o.stamp ds) o.stamp ds) (Ok (act.Closed q p)) =
        subst (ShownBy (known_of (gone_at whole o.stamp ds) o.stamp ds)) e h in
        f.0

-- ---- a new bridge

-- **And so is one that the order makes.**
pub sound_new : (whole : ℕ → ℕ) (t : ℕ) (ds : List Done) (o : Order) (r : Result Act Refusal) → Standing whole t ds → t ≤ o.stamp →
    ShownBy (known_of (gone_at whole o.stamp ds) o.stamp ds) r →
    AllByRecursion (IsSoundBridge whole o.stamp (ds ++ done o r ∷ [])) (bridge_by o.stamp r [])
sound_new whole t ds o (Ok (act.Bridged a b)) s l h = (
  let p = open_facts (gone_at whole o.stamp ds) ds a h.open_a in
      let q = open_facts (gone_at whole o.stamp ds) ds b h.open_b in
      let d : Done = done o (Ok (act.Bridged a b)) in
      record {
        start_a = p.0;
        start_b = q.0;
        opened_a = opened_kept ds (d ∷ []) a p.0 p.1;
        opened_b = opened_kept ds (d ∷ []) b q.0 q.1;
        after_a = let f = s.opened a p.0 p.1 in omega arith;
        after_b = let f = s.opened b q.0 q.1 in omega arith;
        from = omega arith;
        ended = λ e f. cc;
        shut_a = λ e n c. absurd (let z : closed_at a (ds ++ d ∷ []) ≡ None = closed-append a ds (d ∷ []) ∙ ap (λ o. or_else o None) p.2 in cc);
        shut_b = λ e n c. absurd (let z : closed_at b (ds ++ d ∷ []) ≡ None = closed-append b ds (d ∷ []) ∙ ap (λ o. or_else o None) q.2 in cc);
      },
  tt,
)
sound_new whole t ds o (Ok (act.Opened c law)) s l h = tt
sound_new whole t ds o (Ok (act.Closed c p)) s l h = tt
sound_new whole t ds o (Ok (act.Unbridged a b)) s l h = tt
sound_new whole t ds o (Ok (act.LevelSet c v)) s l h = tt
sound_new whole t ds o (Ok (act.DtxSet c m)) s l h = tt
sound_new whole t ds o (Err f) s l h = tt

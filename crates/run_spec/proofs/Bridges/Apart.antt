-- A call's bridges don't overlap after more orders either.
use Rattle.std.proofs.Common.{◌≡◌, refl, sym, ap, ◌∙◌, subst, ℕ, ◌+◌, ◌<◌, ◌≤◌, Bool, true, false, Option, Some, None, List, [], ◌∷◌, ◌++◌, map, inl, inr}
use Rattle.std.proofs.Common.{arith}
use Rattle.std.specs.Prelude.{Result, Ok, Err, ◌&&◌, ◌||◌, ◌==◌, nat_lt}
use Rattle.std.specs.List.{AllByRecursion}
use Rattle.std.proofs.lemmas.Bool.{cases_Bool, eqb-true, eq-eqb, or_cases, or_left, or_right, lt-ltb, ltb-false, cases_order}
use Rattle.std.proofs.lemmas.List.{append-nil, append_assoc}
use Rattle.trau_orders.specs.declared.order.Order.{Order}
use Rattle.switchboard.specs.declared.act.Act.{Act}
use Rattle.switchboard.specs.declared.act.Act.TheVariants as act
use Rattle.switchboard.specs.declared.act.Refusal.{Refusal}
use Rattle.switchboard.specs.declared.table.Bridge.{Bridge}
use Rattle.switchboard.specs.Calls.{Done, is_this, opened_at, closed_at, is_open, gone_at}
use Rattle.switchboard.specs.Bridges.{bridge_by, bridges, joins, lasts, bridge_of, bridge_ended}
use Rattle.switchboard.specs.Replies.{known_of, reply_to}
use Rattle.switchboard.proofs.Orders.OneMore.{or_else, after, bridges-more}
use Rattle.switchboard.proofs.Lists.{not_both}
use Rattle.run_spec.proofs.Lists.{each_append, each_map, each_weaker, each_both, none_each}
use Rattle.run_spec.proofs.Orders.Executed.{AreReplies}
use Rattle.run_spec.proofs.Orders.Shown.{ShownBy, shown, opens, closes, done}
use Rattle.run_spec.proofs.Orders.OpenCalls.{open_facts, shut_cases, gone_is, opened_kept, gone_kept, opened_cases, closed_cases}
use Rattle.run_spec.proofs.Bridges.Standing.{IsSoundBridge, is_before, over_by, NeverOverlap, IsClosed, Standing, lasts_from, standing_one, RisesFrom}
use Rattle.run_spec.proofs.Bridges.NewOrder.{IsParted, parted, sound_more, sound_new}

-- a bridge that an order ended is over
by_order : (whole : ℕ → ℕ) (v : ℕ) (ds : List Done) (x : Bridge) → is_before v x.ended ≡ true → over_by whole v ds x ≡ true
by_order whole v ds x p = or_left (is_before v x.ended) (gone_at whole v ds x.a || gone_at whole v ds x.b) p

-- one whose first call is gone too
by_a : (whole : ℕ → ℕ) (v : ℕ) (ds : List Done) (x : Bridge) → gone_at whole v ds x.a ≡ true → over_by whole v ds x ≡ true
by_a whole v ds x p =
    or_right (is_before v x.ended) (gone_at whole v ds x.a || gone_at whole v ds x.b) (or_left (gone_at whole v ds x.a) (gone_at whole v ds x.b) p)

-- and one whose second call is gone
by_b : (whole : ℕ → ℕ) (v : ℕ) (ds : List Done) (x : Bridge) → gone_at whole v ds x.b ≡ true → over_by whole v ds x ≡ true
by_b whole v ds x p =
    or_right (is_before v x.ended) (gone_at whole v ds x.a || gone_at whole v ds x.b) (or_right (gone_at whole v ds x.a) (gone_at whole v ds x.b) p)

-- what was over stays over after one more order
over_more : (whole : ℕ → ℕ) (t v : ℕ) (ds : List Done) (d : Done) (x : Bridge) → IsSoundBridge whole t ds x → over_by whole v ds x ≡ true →
    over_by whole v (ds ++ d ∷ []) (after d x) ≡ true
over_more whole t v ds d x y o = elim (or_cases (is_before v x.ended) (gone_at whole v ds x.a || gone_at whole v ds x.b) o) [
  | inl p ↦ by_order whole v (ds ++ d ∷ []) (after d x) (kept v x.ended _ p)
  | inr p ↦ elim (or_cases (gone_at whole v ds x.a) (gone_at whole v ds x.b) p) [
    | inl q ↦ by_a whole v (ds ++ d ∷ []) (after d x) (gone_kept whole v ds (d ∷ []) x.a y.start_a y.opened_a ∙ q)
    | inr q ↦ by_b whole v (ds ++ d ∷ []) (after d x) (gone_kept whole v ds (d ∷ []) x.b y.start_b y.opened_b ∙ q)
  ]
]
  where
    kept : (v : ℕ) (o w : Option ℕ) → is_before v o ≡ true → is_before v (or_else o w) ≡ true
    kept v None w e = cc
    kept v (Some e) w f = f

-- so bridges stay apart
overlap_mapped : (whole : ℕ → ℕ) (t : ℕ) (ds : List Done) (d : Done) (xs : List Bridge) → NeverOverlap whole ds xs →
    AllByRecursion (IsSoundBridge whole t ds) xs → NeverOverlap whole (ds ++ d ∷ []) (map (after d) xs)
overlap_mapped whole t ds d [] h k = tt
overlap_mapped whole t ds d (x ∷ xs) h k = (
  each_map _ (after d) xs (each_weaker (λ y. (c : ℕ) → joins c x ≡ true → joins c y ≡ true → over_by whole y.from ds x ≡ true)
      (λ y. (c : ℕ) → joins c x ≡ true → joins c y ≡ true → over_by whole y.from (ds ++ d ∷ []) (after d x) ≡ true) xs
      (λ y f c p q. over_more whole t y.from ds d x k.0 (f c p q)) h.0),
  overlap_mapped whole t ds d xs h.1 k.1,
)

-- and with one that begins when all others are over
overlap_append : (whole : ℕ → ℕ) (ds : List Done) (xs : List Bridge) (y : Bridge) → NeverOverlap whole ds xs →
    AllByRecursion (λ x. (c : ℕ) → joins c x ≡ true → joins c y ≡ true → over_by whole y.from ds x ≡ true) xs → NeverOverlap whole ds (xs ++ y ∷ [])
overlap_append whole ds [] y h k = (tt, tt)
overlap_append whole ds (x ∷ xs) y h k = (each_append _ xs (y ∷ []) h.0 (k.0, tt), overlap_append whole ds xs y h.1 k.1)

-- a bridge that does not last is over
over_now : (whole : ℕ → ℕ) (t u : ℕ) (ds : List Done) (x : Bridge) → IsSoundBridge whole t ds x → t ≤ u → ((c e : ℕ) → closed_at c ds ≡ Some e → e ≤ t) →
    lasts (gone_at whole u ds) ds x ≡ false → is_this u x.ended ≡ false → over_by whole u ds x ≡ true
over_now whole t u ds x y l past f w = by x.ended refl
  where
    other : (c m start e : ℕ) → opened_at m ds ≡ Some start → start + whole m < e → e ≤ t → gone_at whole u ds m ≡ true
    other c m start e o b k = gone_is whole u ds m start o ∙ lt-ltb (start + whole m) u (omega arith)

    later : (s : ℕ) → is_this u (Some s) ≡ false → s ≤ t → nat_lt s u ≡ true
    later s f k = elim (cases_order u s) [
      | inl e ↦ absurd (not_both _ f (eq-eqb u s e))
      | inr (inl e) ↦ absurd (omega arith)
      | inr (inr e) ↦ lt-ltb s u e
    ]

    by : (o : Option ℕ) → x.ended ≡ o → over_by whole u ds x ≡ true
    by (Some s) e = by_order whole u ds x (ap (is_before u) e ∙ later s (ap (is_this u) (sym e) ∙ w) (y.ended s e))
    by None e = elim (cases_Bool (is_open (gone_at whole u ds) ds x.a)) [
      | inr p ↦ elim (shut_cases (gone_at whole u ds) ds x.a y.start_a y.opened_a p) [
        | inl q ↦ by_b whole u ds x (other x.a x.b y.start_b q.0 y.opened_b (y.shut_a q.0 e q.1) (past x.a q.0 q.1))
        | inr q ↦ by_a whole u ds x q
      ]
      | inl p ↦ elim (cases_Bool (is_open (gone_at whole u ds) ds x.b)) [
        | inl q ↦ absurd (not_both _ f (lasts_from (gone_at whole u ds) ds x e p q))
        | inr q ↦ elim (shut_cases (gone_at whole u ds) ds x.b y.start_b y.opened_b q) [
          | inl z ↦ by_a whole u ds x (other x.b x.a y.start_a z.0 y.opened_a (y.shut_b z.0 e z.1) (past x.b z.0 z.1))
          | inr z ↦ by_b whole u ds x z
        ]
      ]
    ]

-- neither does it last as a bridge of a call, nor did an order of this stamp end it
abbrev Misses : (ℕ → ℕ) → ℕ → List Done → ℕ → Bridge → Type 0
Misses whole u ds c x = ((joins c x && lasts (gone_at whole u ds) ds x) ≡ false) × ((joins c x && is_this u x.ended) ≡ false)

-- so is each bridge of the calls of a new one
overlap_new : (whole : ℕ → ℕ) (t : ℕ) (ds : List Done) (o : Order) (r : Result Act Refusal) → Standing whole t ds → t ≤ o.stamp →
    ShownBy (known_of (gone_at whole o.stamp ds) o.stamp ds) r →
    NeverOverlap whole (ds ++ done o r ∷ []) (map (after (done o r)) (bridges ds)) →
    NeverOverlap whole (ds ++ done o r ∷ []) (map (after (done o r)) (bridges ds) ++ bridge_by o.stamp r [])
overlap_new whole t ds o (Ok (act.Bridged a b)) s l h k =
    let d : Done = done o (Ok (act.Bridged a b)) in
    overlap_append whole (ds ++ d ∷ []) (map (after d) (bridges ds)) _ k (each_map _ (after d) (bridges ds)
    (each_weaker (λ x. (IsSoundBridge whole t ds x × (Misses whole o.stamp ds a x × Misses whole o.stamp ds b x)))
    (λ x. (c : ℕ) → joins c x ≡ true → (c == a || c == b) ≡ true → over_by whole o.stamp (ds ++ d ∷ []) (after d x) ≡ true) (bridges ds)
    (λ x f c j q. over_more whole t o.stamp ds d x f.0 (elim (or_cases (c == a) (c == b) q) [
      | inl e ↦ over x a f.0 f.1.0 (subst (λ (c : ℕ). joins c x ≡ true) (eqb-true c a e) j)
      | inr e ↦ over x b f.0 f.1.1 (subst (λ (c : ℕ). joins c x ≡ true) (eqb-true c b e) j)
    ]))
    (each_both _ _ (bridges ds) s.sound (each_both _ _ (bridges ds) (misses a h.alone_a h.drained_a) (misses b h.alone_b h.drained_b)))))
  where
    misses : (c : ℕ) → bridge_of (gone_at whole o.stamp ds) ds c ≡ None → bridge_ended o.stamp ds c ≡ None →
        AllByRecursion (Misses whole o.stamp ds c) (bridges ds)
    misses c p q = each_both _ _ (bridges ds) (none_each _ (bridges ds) p) (none_each _ (bridges ds) q)

    second : (s t : Bool) → s ≡ true → (s && t) ≡ false → t ≡ false
    second true t e f = f
    second false t e f = cc

    over : (x : Bridge) (c : ℕ) → IsSoundBridge whole t ds x → Misses whole o.stamp ds c x → joins c x ≡ true → over_by whole o.stamp ds x ≡ true
    over x c y m j = over_now whole t o.stamp ds x y l (λ c e f. (s.closed c e f).past) (second (joins c x) _ j m.0) (second (joins c x) _ j m.1)
overlap_new whole t ds o (Ok (act.Opened c law)) s l h k = rw append-nil k
overlap_new whole t ds o (Ok (act.Closed c p)) s l h k = rw append-nil k
overlap_new whole t ds o (Ok (act.Unbridged a b)) s l h k = rw append-nil k
overlap_new whole t ds o (Ok (act.LevelSet c v)) s l h k = rw append-nil k
overlap_new whole t ds o (Ok (act.DtxSet c m)) s l h k = rw append-nil k
overlap_new whole t ds o (Err f) s l h k = rw append-nil k

-- ---- all of it

-- **How they stand goes on with one more order.**
pub standing_more : (whole : ℕ → ℕ) (t : ℕ) (ds : List Done) (o : Order) (r : Result Act Refusal) → Standing whole t ds → t ≤ o.stamp →
    r ≡ reply_to (gone_at whole o.stamp ds) ds o →
    Standing whole o.stamp (ds ++ done o r ∷ [])
standing_more whole t ds o r s l e = record {
  sound =
      subst (AllByRecursion (IsSoundBridge whole o.stamp (ds ++ d ∷ []))) (sym (bridges-more ds d))
      (each_append _ (map (after d) (bridges ds)) (bridge_by o.stamp r [])
      (each_map _ (after d) (bridges ds)
      (each_weaker (λ x. IsSoundBridge whole t ds x × IsParted whole o.stamp ds r x) _ (bridges ds) (λ x f. sound_more whole t ds o r s l h x f.0 f.1)
      (each_both _ _ (bridges ds) s.sound (parted whole o.stamp ds r (λ c. standing_one whole t o.stamp ds c s l) h))))
      (sound_new whole t ds o r s l h));
  apart =
      subst (NeverOverlap whole (ds ++ d ∷ [])) (sym (bridges-more ds d))
      (overlap_new whole t ds o r s l h (overlap_mapped whole t ds d (bridges ds) s.apart s.sound));
  opened =
      λ c u p.
      elim (opened_cases ds (d ∷ []) c u p) [ inl q ↦ (let f = s.opened c u q in omega arith) | inr q ↦ (let f = opens c u o r q.1 in omega (arith, f.1)) ];
  closed = λ c u p. elim (closed_cases ds (d ∷ []) c u p) [ inl q ↦ kept c u (s.closed c u q) | inr q ↦ new c u (closes c u o r q.1) ];
}
  where
    d : Done
    d = done o r

    h : ShownBy (known_of (gone_at whole o.stamp ds) o.stamp ds) r
    h = subst (ShownBy (known_of (gone_at whole o.stamp ds) o.stamp ds)) (sym e) (shown (known_of (gone_at whole o.stamp ds) o.stamp ds) o.what)

    kept : (c u : ℕ) → IsClosed whole t ds c u → IsClosed whole o.stamp (ds ++ d ∷ []) c u
    kept c u k =
        record { start = k.start; opened = opened_kept ds (d ∷ []) c k.start k.opened; after = k.after; alive = k.alive; past = let f = k.past in omega arith }

    new : (c u : ℕ) → (p : Option ℕ) × (r ≡ Ok (act.Closed c p)) × (u ≡ o.stamp) → IsClosed whole o.stamp (ds ++ d ∷ []) c u
    new c u k =
        let f : ShownBy (known_of (gone_at whole o.stamp ds) o.stamp ds) (Ok (act.Closed c k.0)) =
        subst (ShownBy (known_of (gone_at whole o.stamp ds) o.stamp ds)) k.1 h in
        let g = open_facts (gone_at whole o.stamp ds) ds c f.0 in
        let a : o.stamp ≤ g.0 + whole c = ltb-false (g.0 + whole c) o.stamp (sym (gone_is whole o.stamp ds c g.0 g.1) ∙ g.3) in
        let b = s.opened c g.0 g.1 in
        record { start = g.0; opened = opened_kept ds (d ∷ []) c g.0 g.1; after = omega (arith, k.2); alive = omega (arith, k.2); past = omega (arith, k.2) }

-- a bridge is as sound later
later_bridge : (whole : ℕ → ℕ) (t u : ℕ) (ds : List Done) (x : Bridge) → t ≤ u → IsSoundBridge whole t ds x → IsSoundBridge whole u ds x
later_bridge whole t u ds x l y = record {
  start_a = y.start_a;
  start_b = y.start_b;
  opened_a = y.opened_a;
  opened_b = y.opened_b;
  after_a = y.after_a;
  after_b = y.after_b;
  from = let f = y.from in omega arith;
  ended = λ e p. (let f = y.ended e p in omega arith);
  shut_a = y.shut_a;
  shut_b = y.shut_b;
}

-- **And with the clock.**
pub standing_later : (whole : ℕ → ℕ) (t u : ℕ) (ds : List Done) → t ≤ u → Standing whole t ds → Standing whole u ds
standing_later whole t u ds l s = record {
  sound = each_weaker _ _ (bridges ds) (λ x y. later_bridge whole t u ds x l y) s.sound;
  apart = s.apart;
  opened = λ c v e. (let f = s.opened c v e in omega arith);
  closed =
      λ c e p.
      (let k = s.closed c e p in record { start = k.start; opened = k.opened; after = k.after; alive = k.alive; past = (let f = k.past in omega arith) });
}

-- after all orders of a run, none of them later than u
pub standing_all : (whole : ℕ → ℕ) (t u : ℕ) (ds later : List Done) → Standing whole t ds → AreReplies whole ds later → RisesFrom t later → t ≤ u →
    AllByRecursion (λ d. d.order.stamp ≤ u) later → Standing whole u (ds ++ later)
standing_all whole t u ds [] s h r l k = subst (Standing whole u) (sym (append-nil ds)) (standing_later whole t u ds l s)
standing_all whole t u ds (d ∷ later) s h r l k =
    subst (Standing whole u) (append_assoc ds (d ∷ []) later)
    (standing_all whole d.order.stamp u (ds ++ d ∷ []) later (standing_more whole t ds d.order d.result s r.0 h.0) h.1 r.1 k.0 k.1)

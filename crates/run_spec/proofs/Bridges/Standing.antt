-- For crates above: how the calls and bridges of a run stand after some orders (`Standing`): a call's bridges don't
-- overlap (`NeverOverlap`).
use Rattle.std.proofs.Common.{◌≡◌, refl, ap, ℕ, ◌+◌, ◌<◌, ◌≤◌, Bool, true, false, Option, Some, None, List, [], ◌∷◌, inl, inr, arith}
use Rattle.std.specs.Prelude.{◌&&◌, ◌||◌, is_none, nat_lt}
use Rattle.std.specs.List.{AllByRecursion}
use Rattle.std.proofs.lemmas.Bool.{and_parts, or_cases, false_from_ne_true}
use Rattle.switchboard.specs.declared.table.Bridge.{Bridge}
use Rattle.switchboard.specs.Calls.{Done, opened_at, closed_at, is_open, gone_at}
use Rattle.switchboard.specs.Bridges.{bridges, joins, lasts}
use Rattle.switchboard.proofs.Lists.{not_both}
use Rattle.run_spec.proofs.Lists.{each_weaker, each_both, find_none, AtMostOne}
use Rattle.run_spec.proofs.Orders.OpenCalls.{open_facts, gone_later}

-- a bridge after some orders, none of them later than t
pub record IsSoundBridge (whole : ℕ → ℕ) (t : ℕ) (ds : List Done) (x : Bridge) : Type 0 where
  pub start_a : ℕ
  pub start_b : ℕ
  pub opened_a : opened_at x.a ds ≡ Some start_a
  pub opened_b : opened_at x.b ds ≡ Some start_b
  pub after_a : start_a ≤ x.from
  pub after_b : start_b ≤ x.from
  pub from : x.from ≤ t
  pub ended : (e : ℕ) → x.ended ≡ Some e → e ≤ t
  -- where a call was closed, and the bridge was not ended by that, its other call was gone
  pub shut_a : (e : ℕ) → x.ended ≡ None → closed_at x.a ds ≡ Some e → start_b + whole x.b < e
  pub shut_b : (e : ℕ) → x.ended ≡ None → closed_at x.b ds ≡ Some e → start_a + whole x.a < e

-- an end, if there is one, lies before t
abbrev pub is_before : ℕ → Option ℕ → Bool
is_before t None = false
is_before t (Some e) = nat_lt e t

-- a bridge was over before t
abbrev pub over_by : (ℕ → ℕ) → ℕ → List Done → Bridge → Bool
over_by whole t ds x = is_before t x.ended || (gone_at whole t ds x.a || gone_at whole t ds x.b)

-- a call's bridge was over before the stamp of its next one
abbrev pub NeverOverlap : (ℕ → ℕ) → List Done → List Bridge → Type 0
NeverOverlap whole ds [] = Unit {0}
NeverOverlap whole ds (x ∷ xs) =
    AllByRecursion (λ y. (c : ℕ) → joins c x ≡ true → joins c y ≡ true → over_by whole y.from ds x ≡ true) xs × NeverOverlap whole ds xs

-- a call that was closed at e
pub record IsClosed (whole : ℕ → ℕ) (t : ℕ) (ds : List Done) (c e : ℕ) : Type 0 where
  pub start : ℕ
  pub opened : opened_at c ds ≡ Some start
  pub after : start ≤ e
  pub alive : e ≤ start + whole c
  pub past : e ≤ t

-- how calls and bridges stand at the clock t
pub record Standing (whole : ℕ → ℕ) (t : ℕ) (ds : List Done) : Type 0 where
  pub sound : AllByRecursion (IsSoundBridge whole t ds) (bridges ds)
  pub apart : NeverOverlap whole ds (bridges ds)
  pub opened : (c s : ℕ) → opened_at c ds ≡ Some s → s ≤ t
  pub closed : (c e : ℕ) → closed_at c ds ≡ Some e → IsClosed whole t ds c e

-- ---- at most one bridge of a call lasts

-- a bridge that lasts was not ended, and both of its calls are open
pub lasts_parts : (gone : ℕ → Bool) (ds : List Done) (x : Bridge) → lasts gone ds x ≡ true →
    (x.ended ≡ None) × (is_open gone ds x.a ≡ true) × (is_open gone ds x.b ≡ true)
lasts_parts gone ds x e =
    let p = and_parts (is_none x.ended && is_open gone ds x.a) (is_open gone ds x.b) e in
    let q = and_parts (is_none x.ended) (is_open gone ds x.a) p.0 in
    (none x.ended q.0, q.1, p.1)
  where
    none : (o : Option ℕ) → is_none o ≡ true → o ≡ None
    none None e = refl
    none (Some s) e = cc

-- and one of which that holds lasts
pub lasts_from : (gone : ℕ → Bool) (ds : List Done) (x : Bridge) → x.ended ≡ None → is_open gone ds x.a ≡ true → is_open gone ds x.b ≡ true →
    lasts gone ds x ≡ true
lasts_from gone ds x e a b = cc

-- what is over does not last
over_lasts : (whole : ℕ → ℕ) (v u : ℕ) (ds : List Done) (x : Bridge) → over_by whole v ds x ≡ true → v ≤ u → lasts (gone_at whole u ds) ds x ≡ true → ⊥
over_lasts whole v u ds x o l e =
    let p = lasts_parts (gone_at whole u ds) ds x e in
    let a = open_facts (gone_at whole u ds) ds x.a p.1 in
    let b = open_facts (gone_at whole u ds) ds x.b p.2 in
    elim (or_cases (is_before v x.ended) (gone_at whole v ds x.a || gone_at whole v ds x.b) o) [
      | inl q ↦ not_both (is_before v x.ended) (ap (is_before v) p.0) q
      | inr q ↦ elim (or_cases (gone_at whole v ds x.a) (gone_at whole v ds x.b) q) [
        | inl r ↦ not_both _ a.3 (gone_later whole v u ds x.a l r)
        | inr r ↦ not_both _ b.3 (gone_later whole v u ds x.b l r)
      ]
    ]

-- so of a call at most one lasts
pub one_lasts : (whole : ℕ → ℕ) (u : ℕ) (ds : List Done) (c : ℕ) (xs : List Bridge) → NeverOverlap whole ds xs → AllByRecursion (λ x. x.from ≤ u) xs →
    AtMostOne (λ x. joins c x && lasts (gone_at whole u ds) ds x) xs
one_lasts whole u ds c [] h k = tt
one_lasts whole u ds c (x ∷ xs) h k = (
  λ e. let p = and_parts (joins c x) (lasts (gone_at whole u ds) ds x) e in
      find_none _ xs (each_weaker
      (λ y. ((c : ℕ) → joins c x ≡ true → joins c y ≡ true → over_by whole y.from ds x ≡ true) × (y.from ≤ u)) _ xs
      (λ y f. false_from_ne_true _ (λ q. over_lasts whole y.from u ds x (f.0 c p.0 (and_parts (joins c y) (lasts (gone_at whole u ds) ds y) q).0) f.1 p.1))
      (each_both _ _ xs h.0 k.1)),
  one_lasts whole u ds c xs h.1 k.1,
)

-- **At most one bridge of a call lasts.**
pub standing_one : (whole : ℕ → ℕ) (t u : ℕ) (ds : List Done) (c : ℕ) → Standing whole t ds → t ≤ u →
    AtMostOne (λ x. joins c x && lasts (gone_at whole u ds) ds x) (bridges ds)
standing_one whole t u ds c s l =
    one_lasts whole u ds c (bridges ds) s.apart
    (each_weaker (IsSoundBridge whole t ds) (λ x. x.from ≤ u) (bridges ds) (λ x f. let g = f.from in omega arith) s.sound)

-- before all orders
pub standing_none : (whole : ℕ → ℕ) → Standing whole 0 []
standing_none whole = record { sound = tt; apart = tt; opened = λ c s e. cc; closed = λ c e f. cc }

-- stamps that don't fall, from t on
abbrev pub RisesFrom : ℕ → List Done → Type 0
RisesFrom t [] = Unit {0}
RisesFrom t (d ∷ ds) = (t ≤ d.order.stamp) × RisesFrom d.order.stamp ds

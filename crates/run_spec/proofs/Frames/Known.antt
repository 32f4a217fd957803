-- What a call sends of a bridge is known once its next bridge begins, or once it has ended.
use Rattle.std.proofs.Common.{◌≡◌, refl, sym, ap, ◌∙◌, subst, ℕ, zero, suc, ◌+◌, ◌-◌, ◌<◌, ◌≤◌, Bool, true, false, Some, List, [], ◌∷◌, ◌++◌, length, inl, inr}
use Rattle.std.proofs.Common.{arith}
use Rattle.std.specs.Prelude.{◌&&◌, is_some, find, filter, ◌==◌, if◌then◌else◌}
use Rattle.std.specs.List.{AllByRecursion, list_any}
use Rattle.std.proofs.lemmas.Bool.{and_from, cases_Bool, cases_lt, cases_order, eq-eqb, ne_eqb, eqb-true, or_left, or_right}
use Rattle.std.proofs.lemmas.List.Folds.{list_any-append}
use Rattle.trau_orders.specs.Lists.{AreOrders}
use Rattle.switchboard.specs.declared.table.Bridge.{Bridge}
use Rattle.switchboard.specs.Calls.{Done}
use Rattle.switchboard.specs.Bridges.{bridges, joins}
use Rattle.switchboard.specs.Ends.{start_of, span_of}
use Rattle.switchboard.proofs.Lists.{not_both}
use Rattle.down_framer.specs.Made.{latest_start, hands_at, epoch_of}
use Rattle.call_leg.specs.Periods.{CallPeriod, bridges_begun}
use Rattle.call_leg.specs.Settings.{Settings, epoch_now}
use Rattle.call_leg.specs.Down.{down_period, down_periods, frames_of}
use Rattle.call_leg.specs.Places.{carried, sent_now}
use Rattle.run_spec.specs.Run.{Run, given_in, whole_in, done_in, handed_to, period_of, periods_to}
use Rattle.run_spec.specs.Facts.{sent_in}
use Rattle.run_spec.proofs.Lists.{each_append, each_back, each_front, each_weaker, each_both, found, any_none}
use Rattle.run_spec.proofs.Bridges.Standing.{IsSoundBridge, NeverOverlap, Standing, over_by}
use Rattle.run_spec.proofs.Periods.Settled.{to_of, covers}
use Rattle.run_spec.proofs.Periods.SoFar.{run_rises, standing_end}
use Rattle.run_spec.proofs.Bridges.Covered.{over_within, FromsRise, bridges_rise, begins, begins_is}
use Rattle.run_spec.proofs.Periods.History.{covering}
use Rattle.run_spec.proofs.Frames.Carried.{carried_latest, carried_next, sent_kept}

-- ---- the latest bridge of a call before a period

-- at place k of all bridges stands one of a call, and the call's later ones begin at t or later
pub record IsLast (r : Run) (c t k : ℕ) (z : Bridge) : Type 0 where
  pub front : List Bridge
  pub back : List Bridge
  pub all : bridges (done_in r) ≡ front ++ z ∷ back
  pub place : length front ≡ k
  pub joined : joins c z ≡ true
  pub later : AllByRecursion (λ y. joins c y ≡ true → t ≤ y.from) back

-- the first bridges do not overlap
pub overlap_front : (whole : ℕ → ℕ) (ds : List Done) (front : List Bridge) (z : Bridge) (back : List Bridge) → NeverOverlap whole ds (front ++ z ∷ back) →
    AllByRecursion (λ x. (c : ℕ) → joins c x ≡ true → joins c z ≡ true → over_by whole z.from ds x ≡ true) front
overlap_front whole ds [] z back h = tt
overlap_front whole ds (x ∷ front) z back h = ((each_back _ front (z ∷ back) h.0).0, overlap_front whole ds front z back h.1)

-- and rise
pub rise_front : (front : List Bridge) (z : Bridge) (back : List Bridge) → FromsRise (front ++ z ∷ back) → AllByRecursion (λ x. x.from ≤ z.from) front
rise_front [] z back h = tt
rise_front (x ∷ front) z back h = ((each_back _ front (z ∷ back) h.0).0, rise_front front z back h.1)

covers_last : (r : Run) (c t k v : ℕ) (z : Bridge) → AreOrders r.orders → IsLast r c t k z → z.from ≤ v → v < t → is_some (handed_to r c v) ≡ true →
    v < to_of (span_of (given_in r) r.periods (done_in r) z)
covers_last r c t k v z a l low high e =
    let x = covering r c v a e in
    (found P _ (l.front ++ z ∷ l.back) x.0 (each_append P l.front (z ∷ l.back) fronts ((λ j f m. m), backs))
    (ap (find (λ x. covers c v (span_of (given_in r) r.periods (done_in r) x))) (sym l.all) ∙ x.1)).0
    x.3 x.4 x.5
  where
    s : Standing (whole_in r) r.periods (done_in r)
    s = standing_end r a

    P : Bridge → Type 0
    P = λ x. joins c x ≡ true → x.from ≤ v → v < to_of (span_of (given_in r) r.periods (done_in r) x) → v < to_of (span_of (given_in r) r.periods (done_in r) z)

    sound : AllByRecursion (IsSoundBridge (whole_in r) r.periods (done_in r)) l.front
    sound = each_front _ l.front (z ∷ l.back) (subst (AllByRecursion (IsSoundBridge (whole_in r) r.periods (done_in r))) l.all s.sound)

    fronts : AllByRecursion (λ x. joins c x
        ≡ true → x.from ≤ v → v < to_of (span_of (given_in r) r.periods (done_in r) x) → v < to_of (span_of (given_in r) r.periods (done_in r) z)) l.front
    fronts = each_weaker
        (λ x. IsSoundBridge (whole_in r) r.periods
        (done_in r) x × ((c : ℕ) → joins c x ≡ true → joins c z ≡ true → over_by (whole_in r) z.from (done_in r) x ≡ true)) _ l.front
        (λ x h j f m. let w = over_within (given_in r) r.periods z.from (done_in r) x s h.0 (h.1 c j l.joined) in absurd (omega arith))
        (each_both _ _ l.front sound (overlap_front (whole_in r) (done_in r) l.front z l.back (subst (NeverOverlap (whole_in r) (done_in r)) l.all s.apart)))

    backs : AllByRecursion (λ x. joins c x
        ≡ true → x.from ≤ v → v < to_of (span_of (given_in r) r.periods (done_in r) x) → v < to_of (span_of (given_in r) r.periods (done_in r) z)) l.back
    backs = each_weaker (λ y. joins c y ≡ true → t ≤ y.from) _ l.back (λ y h j f m. let w : t ≤ y.from = h j in absurd (omega arith)) l.later

-- no bridge of the call begins between
pub not_at : (j : Bool) (f v : ℕ) → (j ≡ true → f ≡ v → ⊥) → (j && f == v) ≡ false
not_at true f v h = ne_eqb f v (h refl)
not_at false f v h = refl

quiet_last : (r : Run) (c t k v : ℕ) (z : Bridge) → AreOrders r.orders → IsLast r c t k z → z.from < v → v < t → begins r c v ≡ false
quiet_last r c t k v z a l low high =
    begins_is r c v ∙ ap (list_any (λ x. joins c x && x.from == v)) l.all
    ∙ any_none (λ x. joins c x && x.from == v) (l.front ++ z ∷ l.back) (each_append _ l.front (z ∷ l.back)
    (each_weaker (λ x. x.from ≤ z.from) _ l.front (λ x h. not_at (joins c x) x.from v (λ j e. omega arith))
    (rise_front l.front z l.back (subst FromsRise l.all (bridges_rise 0 (done_in r) (run_rises r a))))) (
      not_at (joins c z) z.from v (λ j e. omega arith),
      each_weaker (λ y. joins c y ≡ true → t ≤ y.from) _ l.back (λ y h. not_at (joins c y) y.from v (λ j e. let w : t ≤ y.from = h j in omega arith)) l.later,
    ))

begins_last : (r : Run) (c t k : ℕ) (z : Bridge) → IsLast r c t k z → begins r c z.from ≡ true
begins_last r c t k z l =
    begins_is r c z.from ∙ ap (list_any (λ x. joins c x && x.from == z.from)) l.all
    ∙ list_any-append (λ x. joins c x && x.from == z.from) l.front (z ∷ l.back)
    ∙ or_right (list_any (λ x. joins c x && x.from == z.from) l.front) _
    (or_left _ (list_any (λ x. joins c x && x.from == z.from) l.back) (and_from _ _ l.joined (eq-eqb z.from z.from refl)))

-- ---- the periods of a call as its downlink sees them

length_periods : (r : Run) (c n : ℕ) → length (down_periods (periods_to r c n)) ≡ n
length_periods r c zero = refl
length_periods r c (suc n) = ap suc (length_periods r c n)

bridged_handed : (r : Run) (c h n : ℕ) → hands_at h (down_periods (periods_to r c n)) ≡ true → is_some (handed_to r c (start_of (done_in r) c + h)) ≡ true
unfolding period_of
bridged_handed r c h zero e = cc
bridged_handed r c h (suc n) e = elim (cases_Bool (h == length (down_periods (periods_to r c n)))) [
  | inl p ↦
      let q : h ≡ n = eqb-true h _ p ∙ length_periods r c n in
      ap (λ k. is_some (handed_to r c (start_of (done_in r) c + k))) q ∙ first (h == length (down_periods (periods_to r c n))) _ _ p e
  | inr p ↦ bridged_handed r c h n (second (h == length (down_periods (periods_to r c n))) _ _ p e)
]
  where
    first : (t x y : Bool) → t ≡ true → (if t then x else y) ≡ true → x ≡ true
    first true x y p e = e
    first false x y p e = cc

    second : (t x y : Bool) → t ≡ false → (if t then x else y) ≡ true → y ≡ true
    second true x y p e = cc
    second false x y p e = e

latest_is : (r : Run) (c f n : ℕ) → f < n → begins r c (start_of (done_in r) c + f) ≡ true →
    ((j : ℕ) → f < j → j < n → begins r c (start_of (done_in r) c + j) ≡ false) →
    latest_start (down_periods (periods_to r c n)) ≡ Some f
unfolding period_of
latest_is r c f zero l b q = absurd (omega arith)
latest_is r c f (suc n) l b q = elim (cases_order f n) [
  | inl e ↦
      let g : begins r c (start_of (done_in r) c + n) ≡ true = ap (λ n. begins r c (start_of (done_in r) c + n)) (sym e) ∙ b in
      ap (λ (t : Bool). if t then Some (length (down_periods (periods_to r c n))) else latest_start (down_periods (periods_to r c n))) g
      ∙ ap Some (length_periods r c n ∙ sym e)
  | inr (inl m) ↦
      ap (λ (t : Bool). if t then Some (length (down_periods (periods_to r c n))) else latest_start (down_periods (periods_to r c n))) (q n m (omega arith))
      ∙ latest_is r c f n m b (λ j h k. q j h (omega arith))
  | inr (inr m) ↦ absurd (omega arith)
]

latest_from : (r : Run) (c n k : ℕ) → n ≤ k → begins r c (start_of (done_in r) c + n) ≡ true →
    (m : ℕ) × (latest_start (down_periods (periods_to r c (suc k))) ≡ Some m) × (n ≤ m)
unfolding period_of
latest_from r c n zero l b =
    let e : n ≡ 0 = omega arith in
    let g : begins r c (start_of (done_in r) c + 0) ≡ true = ap (λ n. begins r c (start_of (done_in r) c + n)) (sym e) ∙ b in
    (0, ap (λ (t : Bool). if t then Some (length (down_periods (periods_to r c 0))) else latest_start (down_periods (periods_to r c 0))) g, l)
latest_from r c n (suc k) l b = elim (cases_Bool (begins r c (start_of (done_in r) c + suc k))) [
  | inl g ↦ (
    suc k,
    ap (λ (t : Bool). if t then Some (length (down_periods (periods_to r c (suc k)))) else latest_start (down_periods (periods_to r c (suc k)))) g
        ∙ ap Some (length_periods r c (suc k)),
    l,
  )
  | inr g ↦
      let d : n ≤ k = less n k l (λ e. not_both _ g (ap (λ n. begins r c (start_of (done_in r) c + n)) (sym e) ∙ b)) in
      let m = latest_from r c n k d b in (
        m.0,
        ap (λ (t : Bool). if t then Some (length (down_periods (periods_to r c (suc k)))) else latest_start (down_periods (periods_to r c (suc k)))) g ∙ m.1,
        m.2,
      )
]
  where
    less : (n k : ℕ) → n ≤ suc k → (n ≡ suc k → ⊥) → n ≤ k
    less n k l d = omega arith

-- after a later bridge began, no more is sent of the earlier ones
pub sent_later : (r : Run) (c n k s e : ℕ) → n ≤ k → begins r c (start_of (done_in r) c + n) ≡ true → e ≤ n →
    sent_in s e (periods_to r c k) ≡ sent_in s e (periods_to r c n)
sent_later r c n zero s e l b m = let q : 0 ≡ n = omega arith in ap (λ n. sent_in s e (periods_to r c n)) q
sent_later r c n (suc k) s e l b m = elim (cases_lt n (suc k)) [
  | inl d ↦
      let g = latest_from r c n k (omega arith) b in
      sent_kept _ (down_periods (periods_to r c k)) s e g.0 g.1 (let h = g.2 in omega arith) ∙ sent_later r c n k s e (omega arith) b m
  | inr d ↦ let q : suc k ≡ n = omega arith in ap (λ n. sent_in s e (periods_to r c n)) q
]

-- ---- what the leg tells

begun_same : (ts : List CallPeriod) → epoch_of (down_periods ts) ≡ bridges_begun ts
begun_same [] = refl
begun_same (t ∷ past) = by t.starts (begun_same past)
  where
    by : (b : Bool) → epoch_of (down_periods past) ≡ bridges_begun past →
        length (if b then down_period t past ∷ filter (λ p. p.starts) (down_periods past) else filter (λ p. p.starts) (down_periods past))
        ≡ length (if b then t ∷ filter (λ t. t.starts) past else filter (λ t. t.starts) past)
    by true e = ap suc e
    by false e = e

-- **As many are sent as the leg tells.**
pub sent_told : (r : Run) (c t k s : ℕ) (z : Bridge) (now : Settings) → AreOrders r.orders → IsLast r c t k z → start_of (done_in r) c ≡ s → s ≤ z.from →
    z.from ≤ t → now.starts ≡ (z.from == t) →
    sent_now (periods_to r c (t - s)) now ≡ sent_in (z.from - s) (to_of (span_of (given_in r) r.periods (done_in r) z) - s) (periods_to r c (t - s))
sent_told r c t k s z now a l o sf ft st = elim (cases_lt z.from t) [
  | inl m ↦
      epoch (bridges_begun ts) (sym (ap (λ (b : Bool). if b then suc (bridges_begun ts) else bridges_begun ts) (st ∙ ne_eqb z.from t (λ q. omega arith))))
      ∙ ap (λ e. carried e (frames_of ts)) (sym (begun_same ts))
      ∙ carried_latest (down_periods ts) (z.from - s) e
      (latest_is r c (z.from - s) (t - s) (omega arith)
      (ap (begins r c) (at (z.from - s)) ∙ ap (begins r c) (let q : s + (z.from - s) ≡ z.from = omega arith in q) ∙ begins_last r c t k z l)
      (λ j h i. ap (begins r c) (at j) ∙ quiet_last r c t k (s + j) z a l (omega arith) (omega arith)))
      (λ h low high b. let n = length_periods r c (t - s) in
      let c = covers_last r c t k (s + h) z a l (omega arith) (omega arith)
      (ap (λ v. is_some (handed_to r c v)) (sym (at h)) ∙ bridged_handed r c h (t - s) b) in omega arith)
  | inr m ↦
      epoch (suc (bridges_begun ts)) (sym (ap (λ (b : Bool). if b then suc (bridges_begun ts) else bridges_begun ts) (st ∙ eq-eqb z.from t (omega arith))))
      ∙ ap (λ e. carried (suc e) (frames_of ts)) (sym (begun_same ts))
      ∙ carried_next (down_periods ts) (z.from - s) e (let n = length_periods r c (t - s) in omega arith)
]
  where
    ts : List CallPeriod
    ts = periods_to r c (t - s)

    e : ℕ
    e = to_of (span_of (given_in r) r.periods (done_in r) z) - s

    at : (j : ℕ) → start_of (done_in r) c + j ≡ s + j
    at j = ap (λ s. s + j) o

    epoch : (n : ℕ) → n ≡ epoch_now (periods_to r c (t - s)) now → sent_now (periods_to r c (t - s)) now ≡ carried n (frames_of (periods_to r c (t - s)))
    epoch n q = ap (λ e. carried e (frames_of (periods_to r c (t - s)))) (sym q)

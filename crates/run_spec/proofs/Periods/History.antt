-- The periods of a call are a history of its downlink: bridges leave a period between.
use Rattle.std.proofs.Common.{◌≡◌, refl, sym, ap, ◌∙◌, ℕ, zero, suc, ◌+◌, ◌<◌, ◌≤◌, Bool, true, false, Option, Some, None, inl, inr, arith}
use Rattle.std.specs.Prelude.{◌&&◌, ◌||◌, is_some, option_map, find, nat_le, nat_lt, ◌==◌}
use Rattle.std.proofs.lemmas.Bool.{and_parts, and_from, cases_Bool, leb-true, le-leb, ltb-true, lt-ltb, eq-eqb, eqb-true, eqb-false, or_cases, or_left}
use Rattle.std.proofs.lemmas.Bool.{or_right, true_from_ne_false}
use Rattle.trau_orders.specs.Lists.{AreOrders}
use Rattle.switchboard.specs.declared.table.Bridge.{Bridge}
use Rattle.switchboard.specs.Bridges.{bridges, joins}
use Rattle.switchboard.specs.Ends.{start_of, span_of}
use Rattle.switchboard.proofs.Lists.{not_both}
use Rattle.call_leg.specs.Down.{down_periods}
use Rattle.down_framer.specs.Bridges.{IsHistory, LeavePeriodsBetween}
use Rattle.down_framer.proofs.FrameLaws.{apart}
use Rattle.run_spec.specs.Run.{Run, given_in, whole_in, done_in, span_at, handed_to, period_of, periods_to}
use Rattle.run_spec.proofs.Lists.{some_mapped, find_none, find_map, found, none_each, none_any}
use Rattle.run_spec.proofs.Bridges.Standing.{IsSoundBridge}
use Rattle.run_spec.proofs.Periods.Settled.{to_of, start_is, covers}
use Rattle.run_spec.proofs.Periods.SoFar.{run_rises, standing_end}
use Rattle.run_spec.proofs.Bridges.Covered.{bridges_rise, apart_covers, begins, begins_is}

-- the span that covers a period is of the bridge that does
span_is : (r : Run) (c t : ℕ) →
    span_at r c t ≡ option_map (span_of (given_in r) r.periods (done_in r))
    (find (λ x. covers c t (span_of (given_in r) r.periods (done_in r) x)) (bridges (done_in r)))
span_is r c t = find_map (covers c t) (span_of (given_in r) r.periods (done_in r)) (bridges (done_in r))

-- something is handed over exactly where there is one
handed_some : (r : Run) (c t : ℕ) →
    is_some (handed_to r c t) ≡ is_some (find (λ x. covers c t (span_of (given_in r) r.periods (done_in r) x)) (bridges (done_in r)))
handed_some r c t =
    some_mapped _ (span_at r c t) ∙ ap is_some (span_is r c t)
    ∙ some_mapped (span_of (given_in r) r.periods (done_in r)) (find (λ x. covers c t (span_of (given_in r) r.periods (done_in r) x)) (bridges (done_in r)))

-- before a bridge begins nothing is handed over
apart_before : (r : Run) (c v : ℕ) → AreOrders r.orders → begins r c (v + 1) ≡ true → is_some (handed_to r c v) ≡ false
apart_before r c v a e =
    let s = standing_end r a in
    handed_some r c v ∙ ap is_some (find_none _ (bridges (done_in r))
    (apart_covers (given_in r) r.periods v c (done_in r) (bridges (done_in r)) s s.apart (bridges_rise 0 (done_in r) (run_rises r a)) s.sound
    (sym (begins_is r c (v + 1)) ∙ e)))

-- the bridge that covers a period
pub covering : (r : Run) (c t : ℕ) → AreOrders r.orders → is_some (handed_to r c t) ≡ true →
    (x : Bridge) × (find (λ x. covers c t (span_of (given_in r) r.periods (done_in r) x)) (bridges (done_in r)) ≡ Some x)
    × IsSoundBridge (whole_in r) r.periods (done_in r) x
    × (joins c x ≡ true) × (x.from ≤ t) × (t < to_of (span_of (given_in r) r.periods (done_in r) x))
covering r c t a e = by (find test (bridges (done_in r))) refl (sym (handed_some r c t) ∙ e)
  where
    test : Bridge → Bool
    test = λ x. covers c t (span_of (given_in r) r.periods (done_in r) x)

    by : (o : Option Bridge) → find test (bridges (done_in r)) ≡ o → is_some o ≡ true →
        (x : Bridge) × (find (λ x. covers c t (span_of (given_in r) r.periods (done_in r) x)) (bridges (done_in r)) ≡ Some x)
        × IsSoundBridge (whole_in r) r.periods (done_in r) x
        × (joins c x ≡ true) × (x.from ≤ t) × (t < to_of (span_of (given_in r) r.periods (done_in r) x))
    by None f g = cc
    by (Some x) f g =
        let h = found (IsSoundBridge (whole_in r) r.periods (done_in r)) test (bridges (done_in r)) x (standing_end r a).sound f in
        let p = and_parts (joins c x && nat_le x.from t) (nat_lt t (to_of (span_of (given_in r) r.periods (done_in r) x))) h.1 in
        let q = and_parts (joins c x) (nat_le x.from t) p.0 in
        (x, f, h.0, q.0, leb-true x.from t q.1, ltb-true t _ p.1)

-- a found bridge that starts then
begins_found : (r : Run) (c t : ℕ) (p : Bridge → Bool) (x : Bridge) → find p (bridges (done_in r)) ≡ Some x → joins c x ≡ true → x.from ≡ t →
    begins r c t ≡ true
begins_found r c t p x f j e = begins_is r c t ∙ true_from_ne_false _ (λ n.
    not_both _ (found (λ y. (joins c y && y.from == t) ≡ false) p (bridges (done_in r)) x (none_any _ (bridges (done_in r)) n) f).0
    (and_from _ _ j (eq-eqb x.from t e)))

-- what is handed over begins with a bridge and goes on without a gap
goes_on : (r : Run) (c v : ℕ) → AreOrders r.orders → is_some (handed_to r c (v + 1)) ≡ true → (begins r c (v + 1) || is_some (handed_to r c v)) ≡ true
goes_on r c v a e =
    let x = covering r c (v + 1) a e in
    elim (cases_Bool (x.0.from == v + 1)) [
      | inl p ↦
          or_left (begins r c (v + 1)) (is_some (handed_to r c v))
          (begins_found r c (v + 1) (λ x. covers c (v + 1) (span_of (given_in r) r.periods (done_in r) x)) x.0 x.1 x.3 (eqb-true x.0.from (v + 1) p))
      | inr p ↦
          let n = eqb-false x.0.from (v + 1) p in
          let l : x.0.from ≤ v + 1 = x.4 in
          let m : v + 1 < to_of (span_of (given_in r) r.periods (done_in r) x.0) = x.5 in
          let low : x.0.from ≤ v = below x.0.from v l n in
          or_right (begins r c (v + 1)) (is_some (handed_to r c v)) (handed_some r c v ∙ true_from_ne_false _ (λ g.
          not_both _ (found (λ y. covers c v (span_of (given_in r) r.periods (done_in r) y) ≡ false)
          (λ x. covers c (v + 1) (span_of (given_in r) r.periods (done_in r) x)) (bridges (done_in r)) x.0 (none_each _ (bridges (done_in r)) (none _ g)) x.1).0
          (and_from _ _ (and_from _ _ x.3 (le-leb x.0.from v low)) (lt-ltb v _ (omega arith)))))
    ]
  where
    below : (a b : ℕ) → a ≤ b + 1 → (a ≡ b + 1 → ⊥) → a ≤ b
    below a b l n = omega arith

    none : (o : Option Bridge) → is_some o ≡ false → o ≡ None
    none None e = refl
    none (Some x) e = cc

-- in a call's first period a bridge can only start
starts_first : (r : Run) (c : ℕ) → AreOrders r.orders → is_some (handed_to r c (start_of (done_in r) c)) ≡ true → begins r c (start_of (done_in r) c) ≡ true
starts_first r c a e =
    let t = start_of (done_in r) c in
    let x = covering r c t a e in
    begins_found r c t (λ x. covers c t (span_of (given_in r) r.periods (done_in r) x)) x.0 x.1 x.3 (elim (or_cases (c == x.0.a) (c == x.0.b) x.3) [
      | inl p ↦
          same (start_of (done_in r) c) x.0.from x.2.start_a
          (ap (start_of (done_in r)) (eqb-true c x.0.a p) ∙ start_is (done_in r) x.0.a x.2.start_a x.2.opened_a) x.2.after_a x.4
      | inr p ↦
          same (start_of (done_in r) c) x.0.from x.2.start_b
          (ap (start_of (done_in r)) (eqb-true c x.0.b p) ∙ start_is (done_in r) x.0.b x.2.start_b x.2.opened_b) x.2.after_b x.4
    ])
  where
    same : (t f s : ℕ) → t ≡ s → s ≤ f → f ≤ t → f ≡ t
    same t f s e l m = omega arith

-- ---- all periods of a call

next : (s k : ℕ) → s + suc k ≡ (s + k) + 1
next s k = omega arith

-- **Bridges leave a period between.**
pub periods_apart : (r : Run) (c n : ℕ) → AreOrders r.orders → LeavePeriodsBetween (down_periods (periods_to r c n))
unfolding period_of
periods_apart r c zero a = tt
periods_apart r c (suc zero) a =
    let e : start_of (done_in r) c + 0 ≡ start_of (done_in r) c = omega arith in
    (tt, λ p. refl, λ p. or_left _ false (ap (begins r c) e ∙ starts_first r c a (ap (λ t. is_some (handed_to r c t)) (sym e) ∙ p)))
periods_apart r c (suc (suc k)) a =
    let s = start_of (done_in r) c in (
      periods_apart r c (suc k) a,
      λ p. apart_before r c (s + k) a (ap (begins r c) (sym (next s k)) ∙ p),
      λ p. ap (λ t. begins r c t || is_some (handed_to r c (s + k))) (next s k)
          ∙ goes_on r c (s + k) a (ap (λ t. is_some (handed_to r c t)) (sym (next s k)) ∙ p),
    )

-- **The periods of a call are a history of its downlink.**
pub periods_history : (r : Run) (c n : ℕ) → AreOrders r.orders → IsHistory (down_periods (periods_to r c n))
periods_history r c n a = apart (down_periods (periods_to r c n)) (periods_apart r c n a)

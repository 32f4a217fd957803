-- For crates above: a call's bridge and settings from period to period (`bridge_after`, `bridge_later`,
-- `next_settings`).
use Rattle.std.proofs.Common.{◌≡◌, refl, sym, ap, ◌∙◌, ℕ, ◌+◌, ◌<◌, ◌≤◌, Bool, true, false, Option, Some, None, List, inl, inr, arith}
use Rattle.std.specs.Prelude.{ℤ, pos, not, ◌&&◌, is_some, is_none, nat_lt, ◌==◌, if◌then◌else◌}
use Rattle.std.specs.List.{list_any}
use Rattle.std.proofs.lemmas.Bool.{and_parts, and_from, lt-ltb, le-ltb, ltb-true, ne_eqb, eq-eqb, or_left, or_right, cases_lt}
use Rattle.trau_orders.specs.declared.order.DtxMode.{DtxMode}
use Rattle.trau_orders.specs.declared.order.DtxMode.TheVariants.{Uplink}
use Rattle.switchboard.specs.declared.table.Bridge.{Bridge}
use Rattle.switchboard.specs.Calls.{Done, opened_at, closed_at, is_open, gone_at}
use Rattle.switchboard.specs.Bridges.{bridges, joins, other, lasts, bridge_of}
use Rattle.switchboard.specs.Ends.{start_of}
use Rattle.switchboard.proofs.Lists.{not_both}
use Rattle.call_leg.specs.Settings.{Settings, settings_later, without_bridge}
use Rattle.run_spec.specs.Run.{Run, whole_in, level_after, dtx_mode_after}
use Rattle.run_spec.specs.Now.{has_period, bridge_now, settings_now, settings_in}
use Rattle.run_spec.proofs.Lists.{each_weaker, find_same, find_and, found, one_found, none_each, any_none}
use Rattle.run_spec.proofs.Bridges.Standing.{IsSoundBridge, Standing, standing_one}
use Rattle.run_spec.proofs.Orders.OpenCalls.{open_from, gone_is}
use Rattle.run_spec.proofs.Periods.Settled.{start_is, has}

-- ---- a call that has a period is open up to it

-- the three parts of having a period
has_parts : (l : Option ℕ) (p q : Bool) → (is_none l && p && q) ≡ true → (l ≡ None) × (p ≡ true) × (q ≡ true)
has_parts None p q e = let h = and_parts p q e in (refl, h.0, h.1)
has_parts (Some s) p q e = cc

-- a call that has a period is open up to it
pub has_open : (whole : ℕ → ℕ) (P u k : ℕ) (ds : List Done) (c s : ℕ) → opened_at c ds ≡ Some s → u ≤ k → has whole P ds k c ≡ true →
    is_open (gone_at whole u ds) ds c ≡ true
has_open whole P u k ds c s o l e =
    let h = has_parts (closed_at c ds) (nat_lt k (start_of ds c + whole c)) (nat_lt k P) e in
    let m = ltb-true k (start_of ds c + whole c) h.1 in
    let f = start_is ds c s o in
    open_from (gone_at whole u ds) ds c s o h.0 (gone_is whole u ds c s o ∙ le-ltb (s + whole c) u (omega arith))

-- it is open at the start of the next one exactly then
pub open_has : (whole : ℕ → ℕ) (P u : ℕ) (ds : List Done) (c s : ℕ) → opened_at c ds ≡ Some s → u < P →
    is_open (gone_at whole (u + 1) ds) ds c ≡ has whole P ds u c
open_has whole P u ds c s o l =
    ap (λ o. is_some o && not (is_some (closed_at c ds)) && not (gone_at whole (u + 1) ds c)) o
    ∙ ap (λ t. not (is_some (closed_at c ds)) && not t) (gone_is whole (u + 1) ds c s o)
    ∙ by (closed_at c ds) (tests u (s + whole c))
    ∙ sym (ap (λ t. is_none (closed_at c ds) && nat_lt u (start_of ds c + whole c) && t) (lt-ltb u P l)
    ∙ ap (λ s. is_none (closed_at c ds) && nat_lt u (s + whole c) && true) (start_is ds c s o) ∙ last (is_none (closed_at c ds) && nat_lt u (s + whole c)))
  where
    tests : (u n : ℕ) → not (nat_lt n (u + 1)) ≡ nat_lt u n
    tests u n = elim (cases_lt u n) [
      | inl h ↦ ap not (le-ltb n (u + 1) (omega arith)) ∙ sym (lt-ltb u n h)
      | inr h ↦ ap not (lt-ltb n (u + 1) (omega arith)) ∙ sym (le-ltb u n h)
    ]

    by : (l : Option ℕ) {p q : Bool} → p ≡ q → (not (is_some l) && p) ≡ (is_none l && q)
    by None e = e
    by (Some s) e = refl

    last : (b : Bool) → (b && true) ≡ b
    last true = refl
    last false = refl

-- ---- the bridge in a period

test_and : (j n a b p q : Bool) → (p ≡ true → a ≡ true) → (q ≡ true → b ≡ true) → (j && n && p && q) ≡ ((j && (n && a && b)) && (p && q))
test_and false n a b p q f g = refl
test_and true false a b p q f g = refl
test_and true true a b false q f g = sym (second (a && b))
  where
    second : (t : Bool) → (t && false) ≡ false
    second true = refl
    second false = refl
test_and true true a b true false f g = sym (second (a && b))
  where
    second : (t : Bool) → (t && false) ≡ false
    second true = refl
    second false = refl
test_and true true a b true true f g = sym (cc (f refl, g refl))

-- **The bridge of a call in a later period is the one that lasts now, where both of its calls have the period.**
pub bridge_later : (r : Run) (t u k : ℕ) (ds : List Done) (c : ℕ) → Standing (whole_in r) t ds → t ≤ u → u ≤ k →
    bridge_now r ds k c ≡ elim (bridge_of (gone_at (whole_in r) u ds) ds c) [
      | None ↦ None
      | Some x ↦ if has_period r ds k x.a && has_period r ds k x.b
          then Some x else None
    ]
bridge_later r t u k ds c s tu uk =
    find_same _ (λ x. (joins c x && lasts (gone_at (whole_in r) u ds) ds x) && (has_period r ds k x.a && has_period r ds k x.b)) (bridges ds)
    (each_weaker (IsSoundBridge (whole_in r) t ds) _ (bridges ds)
    (λ x y. test_and (joins c x) (is_none x.ended) (is_open (gone_at (whole_in r) u ds) ds x.a) (is_open (gone_at (whole_in r) u ds) ds x.b)
    (has_period r ds k x.a) (has_period r ds k x.b)
    (has_open (whole_in r) r.periods u k ds x.a y.start_a y.opened_a uk) (has_open (whole_in r) r.periods u k ds x.b y.start_b y.opened_b uk)) s.sound)
    ∙ find_and (λ x. joins c x && lasts (gone_at (whole_in r) u ds) ds x) (λ x. has_period r ds k x.a && has_period r ds k x.b) (bridges ds)
    (standing_one (whole_in r) t u ds c s tu)

-- **After a period that bridge lasts which the call had in it, and no other.**
pub bridge_after : (r : Run) (t u : ℕ) (ds : List Done) (c : ℕ) → Standing (whole_in r) t ds → u < r.periods →
    bridge_of (gone_at (whole_in r) (u + 1) ds) ds c ≡ bridge_now r ds u c
bridge_after r t u ds c s l = find_same _ _ (bridges ds) (each_weaker (IsSoundBridge (whole_in r) t ds) _ (bridges ds)
    (λ x y. same (joins c x) (is_none x.ended) _ _ _ _ (open_has (whole_in r) r.periods u ds x.a y.start_a y.opened_a l)
    (open_has (whole_in r) r.periods u ds x.b y.start_b y.opened_b l)) s.sound)
  where
    same : (j n a b p q : Bool) → a ≡ p → b ≡ q → (j && (n && a && b)) ≡ (j && n && p && q)
    same true n a b p q e f = cc
    same false n a b p q e f = refl

-- ---- both calls of a bridge

-- the partner is of the bridge too
pub joins_other : (c : ℕ) (x : Bridge) → joins (other c x) x ≡ true
joins_other c x = by (c == x.a)
  where
    by : (t : Bool) → joins (if t then x.b else x.a) x ≡ true
    by true = or_right (x.b == x.a) (x.b == x.b) (eq-eqb x.b x.b refl)
    by false = or_left (x.a == x.a) (x.a == x.b) (eq-eqb x.a x.a refl)

-- a lasting bridge is that of each call that it joins
pub bridge_each : (whole : ℕ → ℕ) (t u : ℕ) (ds : List Done) (c d : ℕ) (x : Bridge) → Standing whole t ds → t ≤ u →
    bridge_of (gone_at whole u ds) ds c ≡ Some x → joins d x ≡ true → bridge_of (gone_at whole u ds) ds d ≡ Some x
bridge_each whole t u ds c d x s l e j = by (bridge_of (gone_at whole u ds) ds d) refl
  where
    lasting : lasts (gone_at whole u ds) ds x ≡ true
    lasting =
        let f = found (λ x. Unit {0}) (λ x. joins c x && lasts (gone_at whole u ds) ds x) (bridges ds) x (each_weaker _ _ (bridges ds) (λ x y. tt) s.sound) e in
        (and_parts (joins c x) (lasts (gone_at whole u ds) ds x) f.1).1

    passes : (joins d x && lasts (gone_at whole u ds) ds x) ≡ true
    passes = and_from (joins d x) (lasts (gone_at whole u ds) ds x) j lasting

    by : (o : Option Bridge) → bridge_of (gone_at whole u ds) ds d ≡ o → o ≡ Some x
    by None f =
        absurd (not_both _
        (found (λ x. (joins d x && lasts (gone_at whole u ds) ds x) ≡ false) (λ x. joins c x && lasts (gone_at whole u ds) ds x) (bridges ds) x
        (none_each _ (bridges ds) f) e).0 passes)
    by (Some y) f =
        ap Some (sym
        ((found (λ x. (joins d x && lasts (gone_at whole u ds) ds x) ≡ true → x ≡ y) (λ x. joins c x && lasts (gone_at whole u ds) ds x) (bridges ds) x
        (one_found _ (bridges ds) y (standing_one whole t u ds d s l) f) e).0 passes))

-- ---- settings

-- settings are the same by their parts
pub same_settings : (level level' : ℤ) (mode mode' : DtxMode) (starts starts' bridged bridged' : Bool) → level ≡ level' → mode ≡ mode' → starts ≡ starts' →
    bridged ≡ bridged' →
    ◌≡◌ {A = Settings} (record { level = level; mode = mode; starts = starts; bridged = bridged })
    (record { level = level'; mode = mode'; starts = starts'; bridged = bridged' })
same_settings level level' mode mode' starts starts' bridged bridged' a b c d = cc

-- a call whose bridge goes on is bridged, and another isn't
pub settings_bridged : (r : Run) (t u : ℕ) (ds : List Done) (c : ℕ) → Standing (whole_in r) t ds → t ≤ u →
    settings_in r ds u c ≡ record {
      level = level_after c (pos 256) ds;
      mode = dtx_mode_after c Uplink ds;
      starts = list_any (λ x. joins c x && x.from == u) (bridges ds);
      bridged = is_some (bridge_now r ds u c);
    }
settings_bridged r t u ds c s l = by (bridge_of (gone_at (whole_in r) u ds) ds c) (bridge_now r ds u c) refl (bridge_later r t u u ds c s l (omega arith))
  where
    settled : Bool → Settings
    settled b =
        record {
          level = level_after c (pos 256) ds;
          mode = dtx_mode_after c Uplink ds;
          starts = list_any (λ x. joins c x && x.from == u) (bridges ds);
          bridged = b;
        }

    by : (o p : Option Bridge) → bridge_of (gone_at (whole_in r) u ds) ds c ≡ o →
        p ≡ elim (bridge_of (gone_at (whole_in r) u ds) ds c) [
          | None ↦ None
          | Some x ↦ if has_period r ds u x.a && has_period r ds u x.b then Some x
              else None
        ] →
        (if is_some p then settings_now r ds u c else without_bridge (settings_now r ds u c))
        ≡ record {
          level = level_after c (pos 256) ds;
          mode = dtx_mode_after c Uplink ds;
          starts = list_any (λ x. joins c x && x.from == u) (bridges ds);
          bridged = is_some p;
        }
    by o None e f = refl
    by None (Some y) e f =
        absurd (let g : Some y ≡ None = f
        ∙ ap (λ (o : Option Bridge). elim o [ None ↦ None | Some x ↦ if has_period r ds u x.a && has_period r ds u x.b then Some x else None ]) e in cc)
    by (Some x) (Some y) e f =
        ap (λ (o : Option Bridge).
        record {
          level = level_after c (pos 256) ds;
          mode = dtx_mode_after c Uplink ds;
          starts = list_any (λ x. joins c x && x.from == u) (bridges ds);
          bridged = is_some o;
        }) e

-- **After a period that is set which the period was worked with, but that no bridge starts.**
pub next_settings : (r : Run) (t u : ℕ) (ds : List Done) (c : ℕ) → Standing (whole_in r) t ds → t ≤ u → u < r.periods →
    settings_now r ds (u + 1) c ≡ settings_later (settings_in r ds u c)
next_settings r t u ds c s l m =
    same_settings _ _ _ _ _ _ _ _ refl refl
    (any_none _ (bridges ds)
    (each_weaker (IsSoundBridge (whole_in r) t ds) _ (bridges ds)
    (λ x y. other_stamp (joins c x) (x.from == u + 1) (ne_eqb x.from (u + 1) (λ e. let f = y.from in omega arith))) s.sound))
    (ap is_some (bridge_after r t u ds c s m))
    ∙ sym (ap settings_later (settings_bridged r t u ds c s l))
  where
    other_stamp : (j f : Bool) → f ≡ false → (j && f) ≡ false
    other_stamp true f e = e
    other_stamp false f e = refl

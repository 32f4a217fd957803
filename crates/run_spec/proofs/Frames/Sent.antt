-- For crates above: how many frames a call sent in its latest bridge, as the report says, at its end and at its next
-- bridge (`sent_at_end`).
use Rattle.std.proofs.Common.{◌≡◌, refl, sym, ap, ◌∙◌, subst, ℕ, zero, suc, ◌+◌, ◌-◌, ◌<◌, ◌≤◌, Bool, true, false, Option, Some, None, List, [], ◌∷◌, ◌++◌, map}
use Rattle.std.proofs.Common.{length, get_or, inl, inr, arith}
use Rattle.std.specs.Prelude.{Ok, ◌&&◌, ◌||◌, nat_le, ◌==◌, if◌then◌else◌, IfSome}
use Rattle.std.specs.List.{AllByRecursion, list_any}
use Rattle.std.proofs.lemmas.Bool.{and_from, eq-eqb, eqb-true, or_cases, or_left, or_right, ltb-false}
use Rattle.std.proofs.lemmas.List.{length-map, map-append, append_assoc}
use Rattle.std.proofs.lemmas.List.Folds.{list_any-append}
use Rattle.trau_io.specs.declared.ends.Cause.TheVariants.{Limit}
use Rattle.trau_orders.specs.declared.order.Order.{Order}
use Rattle.trau_orders.specs.Lists.{AreOrders}
use Rattle.switchboard.specs.declared.act.Act.TheVariants as act
use Rattle.switchboard.specs.declared.act.Span.{Span}
use Rattle.switchboard.specs.declared.table.Bridge.{Bridge}
use Rattle.switchboard.specs.Calls.{Done, opened_at, closed_at, gone_at, is_open}
use Rattle.switchboard.specs.Bridges.{bridges, bridge_by, joins, no_bridge}
use Rattle.switchboard.specs.Stands.{IsLatest}
use Rattle.switchboard.specs.Replies.{known_of}
use Rattle.switchboard.specs.Runs.{IsRun}
use Rattle.switchboard.specs.Ends.{lack_of, start_of, ends_at, span_of}
use Rattle.switchboard.proofs.Orders.OneMore.{or_else, after, bridges-more}
use Rattle.call_leg.specs.Places.{sent_now}
use Rattle.run_spec.specs.Run.{Run, given_in, whole_in, done_in, spans_in, periods_to, periods_in}
use Rattle.run_spec.specs.Now.{IsSoFar, settings_now}
use Rattle.run_spec.specs.Facts.{sent_in, sent_by, span_line}
use Rattle.run_spec.proofs.Lists.{each_back}
use Rattle.run_spec.proofs.Orders.Executed.{after_all, bridges-append, closed-append, last_reply}
use Rattle.run_spec.proofs.Orders.Shown.{ShownBy, shown}
use Rattle.run_spec.proofs.Bridges.Standing.{IsSoundBridge, NeverOverlap, Standing, over_by}
use Rattle.run_spec.proofs.Orders.OpenCalls.{open_facts, gone_is}
use Rattle.run_spec.proofs.Periods.Settled.{to_of, at_of, ends_by, closed_stamp}
use Rattle.run_spec.proofs.Periods.SoFar.{rest_in, done-rest, rest_from, standing_now, standing_end, so_far_more}
use Rattle.run_spec.proofs.Periods.Next.{opened_run, start_run}
use Rattle.run_spec.proofs.Bridges.Covered.{over_within, begins, begins_is}
use Rattle.call_leg.specs.Down.{down_periods}
use Rattle.run_spec.proofs.Frames.Once.{sent_few}
use Rattle.run_spec.proofs.Frames.Known.{IsLast, overlap_front, sent_later, sent_told}
use Rattle.run_spec.proofs.Bridges.Latest.{is_last, starts_now, span_last}

in_front : (Q : Bridge → Type 0) (xs ys front : List Bridge) (z : Bridge) (back : List Bridge) → xs ++ ys ≡ front ++ z ∷ back → length front < length xs →
    AllByRecursion Q xs → Q z
in_front Q [] ys front z back e l h = absurd (omega arith)
in_front Q (x ∷ xs) ys [] z back e l h = let q : x ≡ z = cc in subst Q q h.0
in_front Q (x ∷ xs) ys (y ∷ front) z back e l h = let q : xs ++ ys ≡ front ++ z ∷ back = cc in in_front Q xs ys front z back q (omega arith) h.1

abbrev new_bridge : ℕ → ℕ → ℕ → Bridge
new_bridge a b t = record { a = a; b = b; from = t; ended = None }

record IsNext (r : Run) (ds : List Done) (a b t : ℕ) : Type 0 where
  later : List Done
  old : List Bridge
  long : length old ≡ length (bridges ds)
  all : bridges (done_in r) ≡ old ++ after_all later (new_bridge a b t) ∷ bridges later

next_split : (r : Run) (t : ℕ) (ds : List Done) (d : Done) (left : List Order) (a b : ℕ) → IsSoFar r t ds (d.order ∷ left) → d.order.stamp ≡ t → t < r.periods →
    IsRun (whole_in r) (ds ++ d ∷ []) →
    d.result ≡ Ok (act.Bridged a b) → IsNext r ds a b d.order.stamp
next_split r t ds d left a b so e l run w =
    let later = rest_in r (ds ++ d ∷ []) left in
    let old = map (after d) (bridges ds) in
    record {
      later = later;
      old = map (after_all later) old;
      long = length-map old (after_all later) ∙ length-map (bridges ds) (after d);
      all =
          ap bridges (done-rest r t (ds ++ d ∷ []) left (so_far_more r t ds d left so e l run)) ∙ bridges-append (ds ++ d ∷ []) (rest_in r (ds ++ d ∷ []) left)
          ∙ ap (λ xs. map (after_all (rest_in r (ds ++ d ∷ []) left)) xs ++ bridges (rest_in r (ds ++ d ∷ []) left))
          (bridges-more ds d ∙ ap (λ res. map (after d) (bridges ds) ++ bridge_by d.order.stamp res []) w)
          ∙ ap (λ xs. xs ++ bridges (rest_in r (ds ++ d ∷ []) left))
          (map-append (after_all (rest_in r (ds ++ d ∷ []) left)) (map (after d) (bridges ds)) (new_bridge a b d.order.stamp ∷ []))
          ∙ append_assoc (map (after_all (rest_in r (ds ++ d ∷ []) left)) (map (after d) (bridges ds)))
          (after_all (rest_in r (ds ++ d ∷ []) left) (new_bridge a b d.order.stamp) ∷ []) (bridges (rest_in r (ds ++ d ∷ []) left));
    }

-- the earlier bridge was over
over_next : (r : Run) (ds : List Done) (a b c t k : ℕ) (z : Bridge) → AreOrders r.orders → IsNext r ds a b t → IsLast r c t k z → k < length (bridges ds) →
    (c == a || c == b) ≡ true → over_by (whole_in r) t (done_in r) z ≡ true
over_next r ds a b c t k z o n l lk j =
    in_front (λ x. (c : ℕ) → joins c x ≡ true → (c == a || c == b) ≡ true → over_by (whole_in r) t (done_in r) x ≡ true) n.old
    (after_all n.later (new_bridge a b t) ∷ bridges n.later) l.front z l.back (sym n.all ∙ l.all)
    (let p = l.place in let q = n.long in omega arith)
    (overlap_front (whole_in r) (done_in r) n.old (after_all n.later (new_bridge a b t)) (bridges n.later)
    (subst (NeverOverlap (whole_in r) (done_in r)) n.all (standing_end r o).apart)) c l.joined j

begins_next : (r : Run) (ds : List Done) (a b c t : ℕ) → IsNext r ds a b t → (c == a || c == b) ≡ true → begins r c t ≡ true
begins_next r ds a b c t n j =
    begins_is r c t ∙ ap (list_any (λ x. joins c x && x.from == t)) n.all
    ∙ list_any-append (λ x. joins c x && x.from == t) n.old (after_all n.later (new_bridge a b t) ∷ bridges n.later)
    ∙ or_right (list_any (λ x. joins c x && x.from == t) n.old) _
    (or_left _ (list_any (λ x. joins c x && x.from == t) (bridges n.later)) (and_from _ _ j (eq-eqb t t refl)))

-- an open call ends at the clock at the earliest
ends_from : (r : Run) (t : ℕ) (ds : List Done) (left : List Order) (c s : ℕ) → IsSoFar r t ds left → t < r.periods → opened_at c ds ≡ Some s →
    closed_at c ds ≡ None → t ≤ s + whole_in r c →
    t ≤ ends_at (given_in r) r.periods (done_in r) c
ends_from r t ds left c s so l o e n = by (closed_at c (rest_in r ds left)) refl
  where
    closed : (v : Option ℕ) → closed_at c (rest_in r ds left) ≡ v → closed_at c (done_in r) ≡ v
    closed v f =
        ap (closed_at c) (done-rest r t ds left so) ∙ closed-append c ds (rest_in r ds left) ∙ ap (λ u. or_else u (closed_at c (rest_in r ds left))) e ∙ f

    by : (v : Option ℕ) → closed_at c (rest_in r ds left) ≡ v → t ≤ ends_at (given_in r) r.periods (done_in r) c
    by (Some u) f =
        subst (λ (n : ℕ). t ≤ n) (sym (ends_by (given_in r) r.periods (done_in r) c s (Some u) (opened_run r t ds left c s so o) (closed (Some u) f)))
        (subst (λ (v : Option ℕ). IfSome v (λ e. t ≤ e)) f (closed_stamp (λ e. t ≤ e) c (rest_in r ds left) (rest_from r t ds left so)))
    by None f = subst (λ (n : ℕ). t ≤ n) (sym (ends_by (given_in r) r.periods (done_in r) c s None (opened_run r t ds left c s so o) (closed None f)))
        (at_if (nat_le r.periods (s + whole_in r c)))
      where
        at_if : (b : Bool) →
            t ≤ at_of (if b then record { call = c; at = r.periods; cause = Limit }
            else record { call = c; at = s + whole_in r c; cause = lack_of (whole_in r c) (given_in r c) })
        at_if true = omega arith
        at_if false = n

-- ---- what the report wants

abbrev bridge_at : List Done → ℕ → Bridge
bridge_at ds k = get_or (bridges ds) k no_bridge

-- a bridge of a call began after the call's opening
record IsPlaced (r : Run) (t : ℕ) (ds : List Done) (c s k : ℕ) : Type 0 where
  from : (bridge_at ds k).from ≤ t
  start : s ≤ (bridge_at ds k).from

each_at : (P : Bridge → Type 0) (bs : List Bridge) (k : ℕ) → k < length bs → AllByRecursion P bs → P (get_or bs k no_bridge)
each_at P [] k l h = absurd (omega arith)
each_at P (x ∷ bs) zero l h = h.0
each_at P (x ∷ bs) (suc k) l h = each_at P bs k (omega arith) h.1

placed : (r : Run) (t : ℕ) (ds : List Done) (left : List Order) (c s k : ℕ) → IsSoFar r t ds left → opened_at c ds ≡ Some s → IsLatest (bridges ds) c (Some k) →
    IsPlaced r t ds c s k
placed r t ds left c s k so o l =
    let y = each_at (IsSoundBridge (whole_in r) t ds) (bridges ds) k l.0 (standing_now r t ds left so).sound in
    record {
      from = y.from;
      start = elim (or_cases (c == (bridge_at ds k).a) (c == (bridge_at ds k).b) l.1) [
        | inl p ↦ same y.start_a (bridge_at ds k).from (ap (λ c. opened_at c ds) (sym (eqb-true c (bridge_at ds k).a p)) ∙ o) y.opened_a y.after_a
        | inr p ↦ same y.start_b (bridge_at ds k).from (ap (λ c. opened_at c ds) (sym (eqb-true c (bridge_at ds k).b p)) ∙ o) y.opened_b y.after_b
      ];
    }
  where
    same : {v : Option ℕ} (u f : ℕ) → v ≡ Some s → v ≡ Some u → u ≤ f → s ≤ f
    same u f e g l = let q : u ≡ s = cc in omega arith

-- what the leg tells at the clock, over the periods up to it
told_now : (r : Run) (t : ℕ) (ds : List Done) (left : List Order) (c s k : ℕ) (d : Span) → IsSoFar r t ds left → opened_at c ds ≡ Some s →
    IsLatest (bridges ds) c (Some k) →
    sent_now (periods_to r c (t - s)) (settings_now r ds t c)
    ≡ sent_in ((get_or (spans_in r) k d).from - s) ((get_or (spans_in r) k d).to - s) (periods_to r c (t - s))
told_now r t ds left c s k d so o l =
    let z = after_all (rest_in r ds left) (bridge_at ds k) in
    let p = placed r t ds left c s k so o l in
    sent_told r c t k s z (settings_now r ds t c) so.orders (is_last r t ds left c k so l) (start_run r t ds left c s so o) p.start p.from
    (starts_now r t ds left c k so l p.from)
    ∙ ap (λ (x : Span). sent_in (x.from - s) (x.to - s) (periods_to r c (t - s))) (sym (span_last r c t k z d (is_last r t ds left c k so l)))

sent_is : (r : Run) (c s n : ℕ) (x : Span) → start_of (done_in r) c ≡ s → ends_at (given_in r) r.periods (done_in r) c - s ≡ n →
    sent_by r x c ≡ sent_in (x.from - s) (x.to - s) (periods_to r c n)
sent_is r c s n x e f =
    ap (λ v. sent_in (x.from - v) (x.to - v) (periods_to r c (ends_at (given_in r) r.periods (done_in r) c - v))) e
    ∙ ap (λ n. sent_in (x.from - s) (x.to - s) (periods_to r c n)) f

-- **At a call's end the leg tells what it sent in its latest bridge.**
pub sent_at_end : (r : Run) (t : ℕ) (ds : List Done) (left : List Order) (c s k : ℕ) (d : Span) → IsSoFar r t ds left → opened_at c ds ≡ Some s →
    IsLatest (bridges ds) c (Some k) →
    ends_at (given_in r) r.periods (done_in r) c ≡ t → sent_by r (get_or (spans_in r) k d) c ≡ sent_now (periods_to r c (t - s)) (settings_now r ds t c)
sent_at_end r t ds left c s k d so o l e =
    sent_is r c s (t - s) (get_or (spans_in r) k d) (start_run r t ds left c s so o) (ap (λ n. n - s) e) ∙ sym (told_now r t ds left c s k d so o l)

-- **Where an order makes its next bridge, too.**
pub sent_at_bridge : (r : Run) (t : ℕ) (ds : List Done) (d : Done) (left : List Order) (a b c s k : ℕ) (x : Span) → IsSoFar r t ds (d.order ∷ left) →
    d.order.stamp ≡ t → t < r.periods → IsRun (whole_in r) (ds ++ d ∷ []) →
    d.result ≡ Ok (act.Bridged a b) → (c == a || c == b) ≡ true → opened_at c ds ≡ Some s → IsLatest (bridges ds) c (Some k) →
    sent_by r (get_or (spans_in r) k x) c ≡ sent_now (periods_to r c (t - s)) (settings_now r ds t c)
sent_at_bridge r t ds d left a b c s k x so e l run w j o latest =
    let z = after_all (rest_in r ds (d.order ∷ left)) (bridge_at ds k) in
    let last = is_last r t ds (d.order ∷ left) c k so latest in
    let next : IsNext r ds a b t = subst (IsNext r ds a b) e (next_split r t ds d left a b so e l run w) in
    let from : start_of (done_in r) c ≡ s = start_run r t ds (d.order ∷ left) c s so o in
    let begun : s ≤ t = (standing_now r t ds (d.order ∷ left) so).opened c s o in
    let at : start_of (done_in r) c + (t - s) ≡ t = omega (arith, from) in
    let ends = ends_from r t ds (d.order ∷ left) c s so l o lives.1 lives.2 in
    let to = over_within (given_in r) r.periods t (done_in r) z (standing_end r so.orders)
    (each_at_last r t c k z (standing_end r so.orders) last) (over_next r ds a b c t k z so.orders next last latest.0 j) in
    sent_is r c s (ends_at (given_in r) r.periods (done_in r) c - s) (get_or (spans_in r) k x) from refl
    ∙ sent_later r c (t - s) (ends_at (given_in r) r.periods (done_in r) c - s) ((get_or (spans_in r) k x).from - s) ((get_or (spans_in r) k x).to - s)
    (omega arith)
    (ap (begins r c) at ∙ begins_next r ds a b c t next j)
    (let q : (get_or (spans_in r) k x).to ≡ to_of (span_of (given_in r) r.periods (done_in r) z) = ap to_of (span_last r c t k z x last) in omega arith)
    ∙ sym (told_now r t ds (d.order ∷ left) c s k x so o latest)
  where
    each_at_last : (r : Run) (t c k : ℕ) (z : Bridge) → Standing (whole_in r) r.periods (done_in r) → IsLast r c t k z →
        IsSoundBridge (whole_in r) r.periods (done_in r) z
    each_at_last r t c k z st last =
        (each_back _ last.front (z ∷ last.back) (subst (AllByRecursion (IsSoundBridge (whole_in r) r.periods (done_in r))) last.all st.sound)).0

    h : ShownBy (known_of (gone_at (whole_in r) t ds) t ds) (Ok (act.Bridged a b))
    h = subst (ShownBy (known_of (gone_at (whole_in r) t ds) t ds)) w (subst (λ (v : ℕ). ShownBy (known_of (gone_at (whole_in r) v ds) v ds) d.result) e
        (subst (ShownBy (known_of (gone_at (whole_in r) d.order.stamp ds) d.order.stamp ds)) (sym (last_reply (whole_in r) ds d run))
        (shown (known_of (gone_at (whole_in r) d.order.stamp ds) d.order.stamp ds) d.order.what)))

    is_open_now : is_open (gone_at (whole_in r) t ds) ds c ≡ true
    is_open_now = elim (or_cases (c == a) (c == b) j) [
      | inl p ↦ ap (is_open (gone_at (whole_in r) t ds) ds) (eqb-true c a p) ∙ h.open_a
      | inr p ↦ ap (is_open (gone_at (whole_in r) t ds) ds) (eqb-true c b p) ∙ h.open_b
    ]

    lives : (Unit {0}) × (closed_at c ds ≡ None) × (t ≤ s + whole_in r c)
    lives =
        let f = open_facts (gone_at (whole_in r) t ds) ds c is_open_now in
        (tt, f.2, ltb-false (s + whole_in r c) t (sym (gone_is (whole_in r) t ds c s o) ∙ f.3))

-- ---- what is handed over is sent or lost

sent_within : (r : Run) (x : Span) (c : ℕ) → sent_by r x c ≤ x.to - x.from
sent_within r x c =
    let m = sent_few (x.from - start_of (done_in r) c) (x.to - start_of (done_in r) c) (down_periods (periods_in r c)) in
    below (sent_by r x c) x.from x.to (start_of (done_in r) c) m
  where
    below : (n f t s : ℕ) → n ≤ (t - s) - (f - s) → n ≤ t - f
    below n f t s m = omega arith

-- **What is handed over is sent or lost.**
pub sent_or_lost : (r : Run) (x : Span) →
    ((span_line r x).sent_a + (span_line r x).lost_a ≡ x.to - x.from) × ((span_line r x).sent_b + (span_line r x).lost_b ≡ x.to - x.from)
sent_or_lost r x = (rest (sent_by r x x.b) (x.to - x.from) (sent_within r x x.b), rest (sent_by r x x.a) (x.to - x.from) (sent_within r x x.a))
  where
    rest : (a b : ℕ) → a ≤ b → a + (b - a) ≡ b
    rest a b l = omega arith

-- The two calls of a bridge in a round: each is handed what the other hands over, period by period.
use Rattle.std.proofs.Common.{◌≡◌, refl, sym, ap, ◌∙◌, ℕ, zero, suc, ◌+◌, ◌-◌, ◌<◌, ◌≤◌, Bool, true, false, Option, Some, None, List, ◌∷◌, inl, inr, arith}
use Rattle.std.specs.Prelude.{not, ◌&&◌, ◌||◌, is_some, option_map, nat_lt, ◌==◌, if◌then◌else◌}
use Rattle.std.proofs.lemmas.Bool.{lt-ltb, le-ltb, cases_lt, cases_Bool, eqb-true, eq-eqb, ne_eqb, and_parts, and_from}
use Rattle.trau_params.specs.Bits260.{bits260}
use Rattle.trau_orders.specs.declared.order.Order.{Order}
use Rattle.switchboard.specs.declared.table.Bridge.{Bridge}
use Rattle.switchboard.specs.Calls.{Done, is_open, gone_at}
use Rattle.switchboard.specs.Bridges.{joins, other, bridge_of}
use Rattle.switchboard.specs.Ends.{start_of}
use Rattle.call_leg.specs.Uplink.{handed_fields}
use Rattle.call_leg.specs.Periods.{CallPeriod, ups_of, effective_now}
use Rattle.call_leg.specs.Settings.{without_bridge, settings_at}
use Rattle.call_pair.specs.Memory.{IoMemory}
use Rattle.call_pair.specs.Periods.{up_at}
use Rattle.call_pair.specs.History.{period_at, handed_at, bridged_periods, settings_past}
use Rattle.run_spec.specs.Run.{Run, whole_in, up_in, ups_to, item_of, periods_to}
use Rattle.run_spec.specs.Now.{handed_now, settings_now}
use Rattle.run_spec.proofs.Periods.SoFar.{standing_now}
use Rattle.run_spec.proofs.Bridges.Later.{bridge_each, joins_other}
use Rattle.run_spec.proofs.Periods.Next.{ups_periods, item_ups}
use Rattle.farm_run.proofs.Rounds.Taken.{IsRound, IsFed, start_at, places_in}
use Rattle.farm_run.proofs.Rounds.Open.{IsOpenAt, open_at, bridge_open, bridge_at_place, bridge_after_round}
use Rattle.farm_run.proofs.Rounds.Histories.{bridge_kept, settings_kept, but_for_bridge, place_more}

-- ---- the calls of a bridge

-- the order of two tests doesn't matter
and_other : (p q : Bool) → (p && q) ≡ (q && p)
and_other true true = refl
and_other true false = refl
and_other false true = refl
and_other false false = refl

-- what holds of both of its calls holds of either and of its other
pub both_calls : (p : ℕ → Bool) (c : ℕ) (x : Bridge) → joins c x ≡ true → (p x.a && p x.b) ≡ (p c && p (other c x))
both_calls p c x j = elim (cases_Bool (c == x.a)) [
  | inl e ↦ ap (λ (d : ℕ). p d && p x.b) (sym (eqb-true c x.a e)) ∙ ap (λ (t : Bool). p c && p (if t then x.b else x.a)) (sym e)
  | inr e ↦ and_other (p x.a) (p x.b) ∙ ap (λ (d : ℕ). p d && p x.a) (sym (eqb-true c x.b (second (c == x.a) (c == x.b) e j)))
      ∙ ap (λ (t : Bool). p c && p (if t then x.b else x.a)) (sym e)
]
  where
    second : (p q : Bool) → p ≡ false → (p || q) ≡ true → q ≡ true
    second p q e f = cc

-- a call is the other one of its partner
other_back : (c : ℕ) (x : Bridge) → joins c x ≡ true → other (other c x) x ≡ c
other_back c x j = elim (cases_Bool (c == x.a)) [
  | inl e ↦ ap (λ (t : Bool). other (if t then x.b else x.a) x) e ∙ either (x.b == x.a) refl ∙ sym (eqb-true c x.a e)
  | inr e ↦ ap (λ (t : Bool). other (if t then x.b else x.a) x) e ∙ ap (λ (t : Bool). if t then x.b else x.a) (eq-eqb x.a x.a refl)
      ∙ sym (eqb-true c x.b (second (c == x.a) (c == x.b) e j))
]
  where
    second : (p q : Bool) → p ≡ false → (p || q) ≡ true → q ≡ true
    second p q e f = cc

    either : (t : Bool) → (x.b == x.a) ≡ t → (if t then x.b else x.a) ≡ x.a
    either true e = eqb-true x.b x.a e
    either false e = refl

-- call c in bridge x with call d, and their octets in the round
record ArePartners (r : Run) (t n : ℕ) (ds : List Done) (c d : ℕ) (x : Bridge) (io io' : IoMemory) : Type 0 where
  pub alive : IsOpenAt r t ds c
  pub alive_other : IsOpenAt r t ds d
  pub bridge : bridge_of (gone_at (whole_in r) t ds) ds c ≡ Some x
  pub bridge_other : bridge_of (gone_at (whole_in r) t ds) ds d ≡ Some x
  pub in_bridge : joins c x ≡ true
  pub in_bridge_other : joins d x ≡ true
  pub partner : other c x ≡ d
  pub back : other d x ≡ c
  pub fed : IsFed r ds t n c io
  pub fed_other : IsFed r ds t n d io'

-- what ties the two calls of a bridge goes both ways
swapped : (r : Run) (t n : ℕ) (ds : List Done) (c d : ℕ) (x : Bridge) (io io' : IoMemory) → ArePartners r t n ds c d x io io' →
    ArePartners r t n ds d c x io' io
swapped r t n ds c d x io io' p = record {
  alive = p.alive_other;
  alive_other = p.alive;
  bridge = p.bridge_other;
  bridge_other = p.bridge;
  in_bridge = p.in_bridge_other;
  in_bridge_other = p.in_bridge;
  partner = p.back;
  back = p.partner;
  fed = p.fed_other;
  fed_other = p.fed;
}

-- two calls of a bridge at the clock are partners in the round
partners : (r : Run) (t n : ℕ) (ds : List Done) (left : List Order) (c : ℕ) (x : Bridge) (io io' : IoMemory) → IsRound r t n ds left →
    bridge_of (gone_at (whole_in r) t ds) ds c ≡ Some x → IsFed r ds t n c io →
    IsFed r ds t n (other c x) io' → ArePartners r t n ds c (other c x) x io io'
partners r t n ds left c x io io' h b f g =
    let stand = standing_now r t ds left h.so_far in
    let parts = bridge_open r t ds c x b in
    let both = both_calls (is_open (gone_at (whole_in r) t ds) ds) c x parts.0 in
    let opens = and_parts _ _ (sym both ∙ and_from _ _ parts.1 parts.2) in
    record {
      alive = open_at r t ds c stand opens.0;
      alive_other = open_at r t ds (other c x) stand opens.1;
      bridge = b;
      bridge_other = bridge_each (whole_in r) t t ds c (other c x) x stand (omega arith) b (joins_other c x);
      in_bridge = parts.0;
      in_bridge_other = joins_other c x;
      partner = refl;
      back = other_back c x parts.0;
      fed = f;
      fed_other = g;
    }

-- ---- what is handed over

-- what a call hands over in a period
abbrev item_in : Run → List Done → ℕ → ℕ → List ℕ
item_in r ds u d = item_of d (ups_to r d (u + 1 - start_of ds d))

-- in a period of the round a call is handed its partner's item, as long as the partner has a place
handed_is : (r : Run) (t n : ℕ) (ds : List Done) (left : List Order) (c d k : ℕ) (x : Bridge) (io io' : IoMemory) → IsRound r t n ds left →
    ArePartners r t n ds c d x io io' → k < io.given →
    handed_now r ds (t + k) c ≡ (if nat_lt k io'.given then Some (item_in r ds (t + k) d) else None)
handed_is r t n ds left c d k x io io' h p l =
    let given = p.fed.given in
    let places : ℕ → Bool = λ (c : ℕ). nat_lt k (places_in r ds t n c) in
    let mine : places c ≡ true = lt-ltb k (places_in r ds t n c) (omega arith) in
    let both : (places x.a && places x.b) ≡ nat_lt k io'.given =
    both_calls places c x p.in_bridge ∙ ap (λ (t : Bool). t && places (other c x)) mine ∙ ap places p.partner ∙ ap (nat_lt k) (sym p.fed_other.given) in
    ap (option_map (λ (x : Bridge). item_in r ds (t + k) (other c x)))
    (bridge_at_place r t n ds left c k h (omega arith)
    ∙ ap (λ (o : Option Bridge). elim o [
      | None ↦ None
      | Some x ↦ if nat_lt k (places_in r ds t n x.a) && nat_lt k
          (places_in r ds t n x.b) then Some x else None
    ]) p.bridge
    ∙ ap (λ (t : Bool). if t then Some x else None) both)
    ∙ by (nat_lt k io'.given)
  where
    by : (b : Bool) → option_map (λ (x : Bridge). item_in r ds (t + k) (other c x)) (if b then Some x else None)
        ≡ (if b then Some (item_in r ds (t + k) d) else None)
    by true = ap (λ (d : ℕ). Some (item_in r ds (t + k) d)) p.partner
    by false = refl

-- what a call hands over in a place is its item
item_is : (r : Run) (t n : ℕ) (ds : List Done) (d k : ℕ) (io : IoMemory) (ts : List CallPeriod) →
    IsOpenAt r t ds d → IsFed r ds t n d io → k < io.given →
    ts ≡ periods_to r d (t + k - start_of ds d) →
    bits260 (handed_fields (effective_now io.call (period_at k (start_at r ds t d io) None ∷ ts))) ≡ item_in r ds (t + k) d
item_is r t n ds d k io ts o f l e =
    let begun = o.begun in
    let at : t - start_of ds d + k ≡ t + k - start_of ds d = omega arith in
    let next : suc (t + k - start_of ds d) ≡ t + k + 1 - start_of ds d = omega arith in
    sym (item_ups io.call (period_at k (start_at r ds t d io) None ∷ ts))
    ∙ ap (λ (c : ℕ). item_of c (up_at k io ∷ ups_of ts)) f.call
    ∙ ap (λ (up : List ℕ). item_of d (up ∷ ups_of ts)) (f.up k l ∙ ap (up_in r d) at)
    ∙ ap (λ (ups : List (List ℕ)). item_of d (up_in r d (t + k - start_of ds d) ∷ ups)) (ap ups_of e ∙ ups_periods r d (t + k - start_of ds d))
    ∙ ap (λ (m : ℕ). item_of d (ups_to r d m)) next

-- ---- the periods

-- period by period, for the first k of them
bridged_go : (r : Run) (t n : ℕ) (ds : List Done) (left : List Order) (c d k : ℕ) (x : Bridge) (io io' : IoMemory) → IsRound r t n ds left →
    ArePartners r t n ds c d x io io' → k ≤ io.given →
    bridged_periods k (start_at r ds t c io) (start_at r ds t d io') ≡ periods_to r c (t + k - start_of ds c)
bridged_go r t n ds left c d zero x io io' h p l = let e : t ≡ t + 0 = omega arith in ap (λ (u : ℕ). periods_to r c (u - start_of ds c)) e
bridged_go r t n ds left c d (suc k) x io io' h p l =
    let a = start_at r ds t c io in
    let b = start_at r ds t d io' in
    let past = bridged_periods k b a in
    let item = bits260 (handed_fields (effective_now io'.call (period_at k b None ∷ past))) in
    let same : handed_at k b past ≡ (if nat_lt k io'.given then Some (item_in r ds (t + k) d) else None) = elim (cases_lt k io'.given) [
      | inl m ↦
          ap (λ (t : Bool). if t then Some item else None) (lt-ltb k io'.given m)
          ∙ ap Some (item_is r t n ds d k io' past p.alive_other p.fed_other m
          (bridged_go r t n ds left d c k x io' io h (swapped r t n ds c d x io io' p) (omega arith)))
          ∙ sym (ap (λ (s : Bool). if s then Some (item_in r ds (t + k) d) else None) (lt-ltb k io'.given m))
      | inr m ↦
          ap (λ (t : Bool). if t then Some item else None) (le-ltb k io'.given m)
          ∙ sym (ap (λ (s : Bool). if s then Some (item_in r ds (t + k) d) else None) (le-ltb k io'.given m))
    ] in
    place_more r t n ds left c k io (handed_at k b past) (bridged_periods k a b) h p.alive p.fed (omega arith)
    (same ∙ sym (handed_is r t n ds left c d k x io io' h p (omega arith))) (bridged_go r t n ds left c d k x io io' h p (omega arith))

-- **The periods of a call that lies in a bridge.**
pub bridged_worked : (r : Run) (t n : ℕ) (ds : List Done) (left : List Order) (c : ℕ) (x : Bridge)
    (io io' : IoMemory) → IsRound r t n ds left →
    bridge_of (gone_at (whole_in r) t ds) ds c ≡ Some x → IsFed r ds t n c io → IsFed r ds t n (other c x) io' →
    bridged_periods io.given (start_at r ds t c io) (start_at r ds t (other c x) io') ≡ periods_to r c (t + io.given - start_of ds c)
bridged_worked r t n ds left c x io io' h b f g =
    bridged_go r t n ds left c (other c x) io.given x io io' h (partners r t n ds left c x io io' h b f g) (omega arith)

-- ---- what is set after the round

-- **What is set for the next period of a call that has all places of the round: past its partner's places the bridge is
-- off.**
pub bridged_settings : (r : Run) (t n : ℕ) (ds : List Done) (left : List Order) (c : ℕ) (x : Bridge)
    (io io' : IoMemory) → IsRound r t n ds left →
    bridge_of (gone_at (whole_in r) t ds) ds c ≡ Some x → IsFed r ds t n c io → IsFed r ds t n (other c x) io' → io.given ≡ n →
    settings_past io.given io'.given (settings_now r ds t c) ≡ settings_now r ds (t + io.given) c
bridged_settings r t n ds left c x io io' h b f g all =
    ap (λ (k : ℕ). settings_past k io'.given (settings_now r ds t c)) all ∙ off (nat_lt io'.given n) refl
    ∙ ap (λ (k : ℕ). settings_now r ds (t + k) c) (sym all)
  where
    parts : (joins c x ≡ true) × (is_open (gone_at (whole_in r) t ds) ds x.a ≡ true) × (is_open (gone_at (whole_in r) t ds) ds x.b ≡ true)
    parts = bridge_open r t ds c x b

    whole : ℕ → Bool
    whole c = places_in r ds t n c == n

    fewer : (nat_lt io'.given n) ≡ not (io'.given == n)
    fewer = let given = g.given in elim (cases_lt io'.given n) [
      | inl l ↦ lt-ltb io'.given n l ∙ sym (ap not (ne_eqb io'.given n (λ e. omega arith)))
      | inr l ↦ le-ltb io'.given n l ∙ sym (ap not (eq-eqb io'.given n (omega arith)))
    ]

    lasting : is_some (bridge_of (gone_at (whole_in r) (t + n) ds) ds c) ≡ not (nat_lt io'.given n)
    lasting =
        let mine : whole c ≡ true = eq-eqb (places_in r ds t n c) n (sym f.given ∙ all) in
        ap is_some (bridge_after_round r t n ds left c h
        ∙ ap (λ (o : Option Bridge). elim o [ None ↦ None | Some x ↦ if places_in r ds t n x.a == n && places_in r ds t n x.b == n then Some x else None ]) b)
        ∙ ap (λ (t : Bool). is_some (if t then Some x else None)) (both_calls whole c x parts.0 ∙ ap (λ (t : Bool). t && whole (other c x)) mine
        ∙ ap (λ (k : ℕ). k == n) (sym g.given))
        ∙ some_if (io'.given == n) ∙ sym (ap not fewer)
      where
        some_if : (t : Bool) → is_some (if t then Some x else None) ≡ not (not t)
        some_if true = refl
        some_if false = refl

    off : (s : Bool) → nat_lt io'.given n ≡ s →
        (if s then without_bridge (settings_at n (settings_now r ds t c))
        else settings_at n (settings_now r ds t c))
        ≡ settings_now r ds (t + n) c
    off true e = but_for_bridge _ _ (settings_kept r t n ds left c n h (omega arith)) (sym (lasting ∙ ap not e))
    off false e =
        but_for_bridge _ _ (settings_kept r t n ds left c n h (omega arith)) (bridge_kept n (settings_now r ds t c) ∙ ap is_some b ∙ sym (lasting ∙ ap not e))

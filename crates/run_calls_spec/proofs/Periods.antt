-- The periods of a call as a whole are those that it has in the run.
use Rattle.std.proofs.Common.{◌≡◌, refl, sym, ap, ◌∙◌, subst, ℕ, zero, suc, ◌+◌, ◌-◌, ◌*◌, ◌/◌, ◌<◌, ◌≤◌, min, true, List, ◌∷◌, length, take, drop, pos, arith}
use Rattle.std.specs.Prelude.{is_some}
use Rattle.std.proofs.lemmas.List.{length-take-le, drop-take, take-take}
use Rattle.std.proofs.lemmas.List.FromFn.{length-map-range_with_len, get_or-map-range_with_len}
use Rattle.trau_orders.specs.declared.order.DtxMode.TheVariants.{Uplink}
use Rattle.trau_orders.specs.Lists.{AreOrders}
use Rattle.switchboard.specs.Calls.{opened_at}
use Rattle.switchboard.specs.Ends.{whole_of}
use Rattle.call_spec.specs.Call.{Setting, periods, setting_at}
use Rattle.call_spec.specs.Whole.{AreSpans, IsWhole, call_period, first_periods, periods_of_call}
use Rattle.run_spec.specs.Run.{Run, given_in, whole_in, done_in, start_in, end_in, period_of, periods_to, periods_in}
use Rattle.run_spec.proofs.Periods.SoFar.{standing_end}
use Rattle.run_spec.proofs.Periods.Settled.{start_is}
use Rattle.run_spec.proofs.Periods.Same.{same_period}
use Rattle.run_spec.proofs.Bridges.Covered.{ends_within}
use Rattle.run_calls_spec.specs.Whole.{count_in, setting_in, whole_call}
use Rattle.run_calls_spec.proofs.Spans.{spans_ordered, starts_in, handed_in}
use Rattle.run_spec.proofs.Orders.OpenCalls.{opened_some}

-- ---- its lines

-- **The lines give all of its periods.**
count_given : (r : Run) (c : ℕ) → AreOrders r.orders → is_some (opened_at c (done_in r)) ≡ true → count_in r c ≤ whole_in r c
count_given r c a o =
    let s = opened_some (done_in r) c o in
    let e : start_in r c ≡ s.0 = start_is (done_in r) c s.0 s.1 in
    let l : end_in r c ≤ s.0 + whole_of (given_in r c) = ends_within (given_in r) r.periods (done_in r) c s.0 (standing_end r a) s.1 in
    counted (start_in r c) (end_in r c) s.0 (whole_of (given_in r c)) e l
  where
    counted : (s e t n : ℕ) → s ≡ t → e ≤ t + n → e - s ≤ n
    counted s e t n p l = omega arith

sized : (n up pcm : ℕ) → n ≤ min (up / 40) (pcm / 160) → (40 * n ≤ up) × (160 * n ≤ pcm)
sized n up pcm l = (omega arith, omega arith)

-- the call as a whole has as many periods
pub count_periods : (r : Run) (c : ℕ) → periods (whole_call r c) ≡ count_in r c
count_periods r c = length-map-range_with_len (λ k. setting_in r c (start_in r c + k)) 0 (count_in r c)

-- **It is a whole call.**
pub is_whole : (r : Run) (c : ℕ) → AreOrders r.orders → is_some (opened_at c (done_in r)) ≡ true → IsWhole (whole_call r c)
is_whole r c a o =
    let l = sized (count_in r c) (length (r.lines c).up) (length (r.lines c).pcm) (count_given r c a o) in
    record {
      up = length-take-le (40 * count_in r c) (r.lines c).up l.0 ∙ ap (λ n. 40 * n) (sym (count_periods r c));
      pcm = length-take-le (160 * count_in r c) (r.lines c).pcm l.1 ∙ ap (λ n. 160 * n) (sym (count_periods r c));
      spans = subst (λ n. AreSpans 0 n (whole_call r c).spans) (sym (count_periods r c)) (spans_ordered r c a);
    }

-- ---- its periods

-- the octets of a period are the same in a front of the line
part_of : (m k all rest : ℕ) (xs : List ℕ) → all ≡ m * k + rest → m ≤ rest → take m (drop (m * k) (take all xs)) ≡ take m (drop (m * k) xs)
part_of m k all rest xs e l = ap (λ i. take m (drop (m * k) (take i xs))) e ∙ ap (take m) (drop-take (m * k) rest xs) ∙ take-take m rest (drop (m * k) xs) l

up_part : (k n : ℕ) (xs : List ℕ) → k < n → take 40 (drop (40 * k) (take (40 * n) xs)) ≡ take 40 (drop (40 * k) xs)
up_part k n xs l = part_of 40 k (40 * n) (40 * (n - k)) xs (omega arith) (omega arith)

pcm_part : (k n : ℕ) (xs : List ℕ) → k < n → take 160 (drop (160 * k) (take (160 * n) xs)) ≡ take 160 (drop (160 * k) xs)
pcm_part k n xs l = part_of 160 k (160 * n) (160 * (n - k)) xs (omega arith) (omega arith)

-- **Each period is that of the run.**
period_same : (r : Run) (c k : ℕ) → AreOrders r.orders → k < count_in r c → call_period (whole_call r c) k ≡ period_of r c k
unfolding period_of
period_same r c k a l =
    let setting : setting_at (whole_call r c) k ≡ setting_in r c (start_in r c + k) =
    get_or-map-range_with_len (λ k. setting_in r c (start_in r c + k)) 0 (count_in r c) k k (record { level = pos 256; mode = Uplink }) l (omega arith) in
    same_period _ _ _ _ _ _ _ _ _ _ _ _
    (up_part k (count_in r c) (r.lines c).up l)
    (pcm_part k (count_in r c) (r.lines c).pcm l)
    (ap (λ (s : Setting). s.level) setting)
    (ap (λ (s : Setting). s.mode) setting)
    (starts_in r c k a l)
    (handed_in r c k a l)

-- and so are the first of them
pub first_same : (r : Run) (c n : ℕ) → AreOrders r.orders → n ≤ count_in r c → first_periods (whole_call r c) n ≡ periods_to r c n
first_same r c zero a l = refl
first_same r c (suc k) a l =
    ap (λ t. t ∷ first_periods (whole_call r c) k) (period_same r c k a (omega arith)) ∙ ap (λ ts. period_of r c k ∷ ts) (first_same r c k a (omega arith))

-- **Its periods are those that it has in the run.**
pub history_same : (r : Run) (c : ℕ) → AreOrders r.orders → periods_of_call (whole_call r c) ≡ periods_in r c
history_same r c a = ap (first_periods (whole_call r c)) (count_periods r c) ∙ first_same r c (count_in r c) a (omega arith)

-- The mark of a run is a mark.
use Rattle.std.proofs.Common.{◌≡◌, ℕ, suc, ◌+◌, ◌^◌, ◌<◌, ◌≤◌, List, length, map, get_or, refl, ap, subst, arith}
use Rattle.std.specs.Prelude.{is_some, IfSome, filter, ◌%◌}
use Rattle.std.specs.List.{All, AllPairs, range_with_len, sum}
use Rattle.std.proofs.lemmas.List.{length-map, get_or-map}
use Rattle.std.proofs.lemmas.List.Elements.{All-filter, All-map, filter_passes}
use Rattle.std.proofs.lemmas.List.FromFn.{get_or-range_with_len, length-range_with_len}
use Rattle.std.proofs.lemmas.List.Kept.{AllPairs-filter}
use Rattle.std.proofs.Math.Nat.{mod-lt}
use Rattle.call_number.specs.CallNumber.{IsCallNumber, call_numbers}
use Rattle.switchboard.specs.Calls.{opened_at}
use Rattle.farm_checkpoint.specs.Marks.{NumbersRise, IsOpenAtMark, HasSums, IsMark}
use Rattle.farm_report.specs.Sums.{sum_of}
use Rattle.run_spec.specs.Run.{Run, done_in, start_in, IsOpened, cause_in}
use Rattle.run_spec.specs.Lines.{out_of_call, down_of_call}
use Rattle.run_spec.specs.Facts.{calls_in}
use Rattle.run_spec.specs.Mark.{is_limit, mark_call, mark_of}
use Rattle.run_spec.proofs.Orders.OpenCalls.{opened_some}
use Rattle.run_spec.proofs.Periods.Settled.{found_stamp, start_is}
use Rattle.run_spec.proofs.Parts.Cut.{done_below}

-- ---- numbers

-- numbers one after another rise, and are in their range
rising : (a n : ℕ) → AllPairs (λ x y. x < y) (range_with_len a n)
rising a n i j d less within =
    let long = length-range_with_len a n in
    let e = get_or-range_with_len a n i d (omega (arith, less, within, long)) in
    let f = get_or-range_with_len a n j d (omega (arith, within, long)) in
    omega (arith, e, f, less)

ranged : (a n m : ℕ) → a + n ≡ suc m → All (λ c. (a ≤ c) × (c ≤ m)) (range_with_len a n)
ranged a n m last k d within =
    let long = length-range_with_len a n in
    let e = get_or-range_with_len a n k d (omega (arith, within, long)) in
    (omega (arith, e), omega (arith, e, within, long, last))

entries_rise : (r : Run) (cs : List ℕ) → AllPairs (λ x y. x < y) cs → NumbersRise (map (mark_call r) cs)
entries_rise r cs rise i j d less within =
    let long : length (map (mark_call r) cs) ≡ length cs = length-map cs (mark_call r) in
    let e = get_or-map (mark_call r) cs i 0 d (omega (arith, less, within, long)) in
    let f = get_or-map (mark_call r) cs j 0 d (omega (arith, within, long)) in
    let up = rise i j 0 less (omega (arith, within, long)) in
    omega (arith, ap (λ x. x.call) e, ap (λ x. x.call) f, up)

-- ---- openings and sums

-- a call that a run opens begins before its end
begins_within : (r : Run) (c : ℕ) → IsOpened r c → start_in r c < r.periods
begins_within r c is =
    let at = opened_some (done_in r) c is in
    let here : at.0 < r.periods =
    subst (λ v. IfSome v (λ s. s < r.periods)) at.1 (found_stamp (λ s. s < r.periods) _ (done_in r) (done_below r r.periods)) in
    let begun : start_in r c ≡ at.0 = start_is (done_in r) c at.0 at.1 in
    omega (arith, here, begun)

sum_fits : (octets : List ℕ) → sum_of octets ≤ 4294967295
sum_fits octets = let below : sum octets % 2 ^ 32 < 2 ^ 32 = mod-lt (sum octets) (omega arith) in omega (arith, below)

-- ---- **The mark of a run is a mark.**
pub mark-is : (r : Run) → 1 ≤ r.periods → r.periods ≤ 4294967295 → IsMark (mark_of r)
mark-is r some most = record {
  at_least = some;
  at_most = most;
  are_open = record {
    each = All-map (IsOpenAtMark r.periods) (mark_call r) cs
        (λ k d l. record { number = numbers k d l; opened = begins_within r (get_or cs k d) (opened k d l) });
    rising = entries_rise r cs (AllPairs-filter (λ x y. x < y) (λ c. is_limit (cause_in r c)) (calls_in r)
        (AllPairs-filter (λ x y. x < y) (λ c. is_some (opened_at c (done_in r))) call_numbers (rising 1 4096)));
  };
  sums = All-map HasSums (mark_call r) cs (λ k d l. (sum_fits (out_of_call r (get_or cs k d)), sum_fits (down_of_call r (get_or cs k d))));
}
  where
    cs : List ℕ
    cs = filter (λ c. is_limit (cause_in r c)) (calls_in r)

    numbers : All IsCallNumber cs
    numbers =
        All-filter (λ c. is_limit (cause_in r c)) IsCallNumber (calls_in r)
        (All-filter (λ c. is_some (opened_at c (done_in r))) IsCallNumber call_numbers (ranged 1 4096 4096 refl))

    opened : All (IsOpened r) cs
    opened =
        All-filter (λ c. is_limit (cause_in r c)) (IsOpened r) (calls_in r)
        (filter_passes (λ c. is_some (opened_at c (done_in r))) call_numbers)

use Rattle.std.proofs.Common.{◌≡◌, ◌+◌, ◌-◌, pos, ap, sym, subst, arith, ◌∙◌, ◌+ℤ◌, ◌*ℤ◌, ◌++◌, get_or, length, refl, List, ℕ, ℤ, ◌<◌, FitsSigned, w32}
use Rattle.std.specs.Simd.Lanes.{zip2, Each1}
use Rattle.std.proofs.lemmas.Int.{ints}
use Rattle.std.proofs.lemmas.Simd.{Each1-weaker, length-zip2}
use Rattle.std.proofs.lemmas.List.{length-map, length-append}
use Rattle.fr_long.specs.Lag.{correlation_of}
use Rattle.trau_lanes.proofs.Eight.{lanes_kept}
use Rattle.trau_lanes.proofs.LaneDots.{Within, sums_within}
use Rattle.fr_long.proofs.Lanes.{kept, eight_lanes}
use Rattle.fr_long.proofs.Rows.{joined_passed, joined_small, passed_within, sums_passed, twice_lane}
use Rattle.fr_long.proofs.correlations.eight_lags.Goals as goal

pub four-front-requires : goal.four-front-requires
four-front-requires c = record { scaled = c.requires.scaled; words = c.requires.words; at_least = omega arith; at_most = omega arith }

pub four-back-requires : goal.four-back-requires
four-back-requires c = record { scaled = c.requires.scaled; words = c.requires.words; at_least = omega arith; at_most = omega arith }

pub joined-halves-requires-clause-length_a : goal.joined-halves-requires-clause-length_a
joined-halves-requires-clause-length_a c = simp length-map c.four-front.ensures.length

pub joined-halves-requires-clause-length_b : goal.joined-halves-requires-clause-length_b
joined-halves-requires-clause-length_b c = simp length-map c.four-back.ensures.length

pub joined-halves-requires-clause-longs_a : goal.joined-halves-requires-clause-longs_a
joined-halves-requires-clause-longs_a c =
    subst (Each1 (FitsSigned w32)) (sym (kept 671088640 c.four-front.result (omega arith) c.four-front.ensures.small))
    (Each1-weaker (Within 671088640) (FitsSigned w32) (λ x h. omega (arith, ints)) _ c.four-front.ensures.small)

pub joined-halves-requires-clause-longs_b : goal.joined-halves-requires-clause-longs_b
joined-halves-requires-clause-longs_b c =
    subst (Each1 (FitsSigned w32)) (sym (kept 671088640 c.four-back.result (omega arith) c.four-back.ensures.small))
    (Each1-weaker (Within 671088640) (FitsSigned w32) (λ x h. omega (arith, ints)) _ c.four-back.ensures.small)

pub sums_of_8-requires-clause-small_a : goal.sums_of_8-requires-clause-small_a
sums_of_8-requires-clause-small_a c =
    passed_within 671088640 1073741823 c.joined-halves.result (omega arith) (omega arith) (joined_small 671088640 c.four-front.result c.four-back.result
    c.joined-halves.result (omega arith) c.four-front.ensures.small c.four-back.ensures.small c.joined-halves.ensures)

pub sums_of_8-requires-clause-small_b : goal.sums_of_8-requires-clause-small_b
sums_of_8-requires-clause-small_b c =
    passed_within 671088640 1073741823 c.joined-halves.result (omega arith) (omega arith) (joined_small 671088640 c.four-front.result c.four-back.result
    c.joined-halves.result (omega arith) c.four-front.ensures.small c.four-back.ensures.small c.joined-halves.ensures)

pub returns : goal.returns
returns c =
    let w = c.args.wt.now in
    let e = c.args.earlier.now in
    let front = c.four-front.result in
    let back = c.four-back.result in
    let halves = c.joined-halves.result in
    let is : halves ≡ front ++ back = joined_passed 671088640 front back halves (omega arith) c.four-front.ensures.small c.four-back.ensures.small
    c.joined-halves.ensures in
    let small = joined_small 671088640 front back halves (omega arith) c.four-front.ensures.small c.four-back.ensures.small c.joined-halves.ensures in
    let long : length halves ≡ 8 = ap length is ∙ length-append front back ∙ eight_long front back c.four-front.ensures.length c.four-back.ensures.length in
    let twice : c.sums_of_8.result ≡ zip2 ◌+ℤ◌ halves halves = sums_passed 671088640 671088640 halves halves c.sums_of_8.result (omega arith) (omega arith)
    small small c.sums_of_8.ensures in
    let fits = subst (Each1 (FitsSigned w32)) (sym twice) (Each1-weaker (Within 1342177280) (FitsSigned w32) (λ x h. omega (arith, ints)) _
    (sums_within 671088640 671088640 halves halves small small)) in
    let whole = lanes_kept w32 c.sums_of_8.result fits in
    let half = λ (k : ℕ) (h : k < 8). subst (λ zs. get_or zs k (pos 0) *ℤ pos 2 ≡ correlation_of w e (120 - c.args.start + k)) (sym is)
    (eight_lanes (λ k v. v *ℤ pos 2 ≡ correlation_of w e (120 - c.args.start + k)) front back c.four-front.ensures.length
    c.four-front.ensures.value (λ j b. let place : 120 - (c.args.start - 4) + j ≡ 120 - c.args.start + (4 + j) = omega arith in
    c.four-back.ensures.value j b ∙ ap (correlation_of w e) place) k h) in
    record {
      length = ap length (whole ∙ twice) ∙ length-zip2 ◌+ℤ◌ halves halves refl ∙ long;
      longs = subst (Each1 (FitsSigned w32)) (sym whole) fits;
      value = λ k h. ap (λ zs. get_or zs k (pos 0)) (whole ∙ twice) ∙ twice_lane halves k (below halves k long h) ∙ half k h;
    }
  where
    eight_long : (xs ys : List ℤ) → length xs ≡ 4 → length ys ≡ 4 → length xs + length ys ≡ 8
    eight_long xs ys a b = omega arith

    below : (xs : List ℤ) (k : ℕ) → length xs ≡ 8 → k < 8 → k < length xs
    below xs k a b = omega arith

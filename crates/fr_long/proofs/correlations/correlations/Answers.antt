use Rattle.std.proofs.Common.{◌≡◌, ◌<◌, ◌≤◌, ◌-◌, ℤ, map, length, rules, ◌+◌, ℕ, pos, arith, ap, sym, subst, ◌∙◌, get_or, set, refl, FitsSigned, w32, to_z}
use Rattle.std.proofs.Common.{of_z, below_more}
use Rattle.std.proofs.Math.ListN.{length-set}
use Rattle.std.proofs.lemmas.Int.{to_z-of_z}
use Rattle.std.proofs.lemmas.Simd.{Each1-get_or}
use Rattle.std.proofs.lemmas.List.{get_or-set_same, get_or-set_other}
use Rattle.fr_long.specs.Lag.{correlation_of}
use Rattle.trau_lanes.proofs.Eight.{lanes_kept}
use Rattle.fr_long.proofs.Tops.{set_fits, zeros_fit}
use Rattle.fr_long.proofs.correlations.correlations.Goals as goal

pub loop-group-init : goal.loop-group-init
loop-group-init c = record { long = refl; longs = zeros_fit; value = λ k l m. absurd (omega arith) }

pub loop-lane-preserved : goal.loop-lane-preserved
loop-lane-preserved c =
    let r = c.eight_lags.result in
    let at : ℕ = c.min-first.result + c.loop-lane.lane in
    let x : ℤ = to_z w32 (of_z w32 (get_or (map (to_z w32) (map (of_z w32) r)) c.loop-lane.lane (pos 0))) in
    let fits = Each1-get_or (FitsSigned w32) r c.loop-lane.lane (pos 0) (omega arith) c.eight_lags.ensures.longs in
    let same : x ≡ get_or r c.loop-lane.lane (pos 0) = ap (λ zs. to_z w32 (of_z w32 (get_or zs c.loop-lane.lane (pos 0)))) (lanes_kept w32 r c.eight_lags.ensures.longs) ∙
    to_z-of_z w32 (get_or r c.loop-lane.lane (pos 0)) fits in
    let first : c.min-first.result ≤ 73 = search rules in
    let place : 120 - (80 - c.min-first.result) + c.loop-lane.lane ≡ 40 + at = omega arith in
    let here : x ≡ correlation_of c.args.wt.now c.args.earlier.now (40 + at) =
    same ∙ c.eight_lags.ensures.value c.loop-lane.lane c.loop-lane-test.true ∙
    ap (correlation_of c.args.wt.now c.args.earlier.now) place in
    let long = c.loop-lane.invariant.long in
    let room : at < length c.loop-lane.all = omega arith in
    let next = below_more (λ k. get_or (set c.loop-lane.all at x) k (pos 0) ≡ correlation_of c.args.wt.now c.args.earlier.now (40 + k)) at
    (λ k b. get_or-set_other c.loop-lane.all at k x (pos 0) (λ e. omega arith) ∙ c.loop-lane.invariant.value k b)
    (get_or-set_same c.loop-lane.all at x (pos 0) room ∙ here) in
    let step : at + 1 ≡ c.min-first.result + (c.loop-lane.lane + 1) = omega arith in
    record {
      long = simp length-set long;
      longs = set_fits c.loop-lane.all at x room (subst (FitsSigned w32) (sym same) fits) c.loop-lane.invariant.longs;
      value = subst (λ n. (k : ℕ) → k < n → get_or (set c.loop-lane.all at x) k (pos 0) ≡ correlation_of c.args.wt.now c.args.earlier.now (40 + k)) step next;
    }

use Rattle.std.proofs.Common.{◌≡◌, ◌+◌, ◌-◌, pos, ◌+ℤ◌, ◌*ℤ◌, length, get_or, fold, map, ap, ◌∙◌, arith, rules, FitsSigned, w16, w32, to_z, of_z}
use Rattle.std.specs.List.{range_with_len}
use Rattle.std.proofs.lemmas.Int.{ints, to_z-of_z}
use Rattle.fr_long.specs.Synthesis.{sample_before}
use Rattle.fr_long.specs.GainCode.{energy_of, power_of}
use Rattle.fr_long.proofs.Blocks.{sum_more, doubled_fits}
use Rattle.fr_long.proofs.sums.power.Goals as goal

pub loop-k-preserved : goal.loop-k-preserved
loop-k-preserved c =
    let p : FitsSigned w16 (get_or c.args.earlier.now (120 - c.args.lag + c.loop-k.k) (pos 0)) = search rules in
    let r : FitsSigned w32 c.half_energy-half.result = search rules in
    let e = simp to_z-of_z at c.half_energy-half.ensures.doubled in
    let b = c.half_energy-half.ensures.bound in
    let bound = c.loop-k.invariant.bound in
    let place : 120 - c.args.lag + c.loop-k.k ≡ length c.args.earlier.now + c.loop-k.k - c.args.lag = omega arith in
    let term = e ∙ ap (λ i. energy_of (get_or c.args.earlier.now i (pos 0))) place in
    let x : to_z w32 (of_z w32 (to_z w32 c.loop-k.half-bits +ℤ to_z w32 (of_z w32 c.half_energy-half.result))) ≡
    to_z w32 c.loop-k.half-bits +ℤ c.half_energy-half.result =
    omega (arith, ints) in
    record {
      value = sum_more (λ k. energy_of (sample_before c.args.earlier.now c.args.lag k)) c.loop-k.k _
          (to_z w32 c.loop-k.half-bits) c.half_energy-half.result x c.loop-k.invariant.value term;
      bound = omega (arith, ints);
    }

pub returns-clause-value : goal.returns-clause-value
unfolding power_of
returns-clause-value c =
    let e : c.loop-k.k ≡ 40 = omega arith in
    let f = doubled_fits (to_z w32 c.loop-k.half-bits) c.loop-k.k c.loop-k.invariant.bound (omega arith) in
    let place : range_with_len 0 c.loop-k.k ≡ range_with_len 0 40 = ap (range_with_len 0) e in
    to_z-of_z w32 (to_z w32 c.loop-k.half-bits *ℤ pos 2) f ∙ c.loop-k.invariant.value ∙
    ap (λ ks. fold ◌+ℤ◌ (pos 0) (map (λ k. energy_of (sample_before c.args.earlier.now c.args.lag k)) ks)) place

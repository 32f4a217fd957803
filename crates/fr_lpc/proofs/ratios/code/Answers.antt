use Rattle.std.proofs.Common.{◌≡◌, ◌-ℤ◌, unsigned_abs, ap, ◌∙◌, arith, rules, FitsSigned, w16, to_z, of_z}
use Rattle.std.proofs.lemmas.Int.{to_z-of_z, ints}
use Rattle.std.specs.Int.{int_max, int_min}
use Rattle.fr_lpc.specs.Ratios.{ratio_code}
use Rattle.fr_lpc.proofs.ratios.code.Goals as goal

pub returns-clause-value : goal.returns-clause-value
unfolding ratio_code
returns-clause-value c =
    let least = c.ranges.least in
    let most = c.ranges.most in
    let g = c.ranges.gain in
    let o = c.ranges.offset in
    let x = c.ranges.lar in
    let q : FitsSigned w16 c.quantised.result = search rules in
    let p : FitsSigned w16 c.clamp-place.result = search rules in
    let e = simp to_z-of_z at c.quantised.ensures in
    let f = simp to_z-of_z at c.clamp-place.ensures.value in
    let low = simp to_z-of_z at c.clamp-place.ensures.lower_bound in
    let high = simp to_z-of_z at c.clamp-place.ensures.upper_bound in
    let width = c.requires.width in
    let d : to_z w16 (of_z w16 (to_z w16 (of_z w16 c.clamp-place.result) -ℤ to_z w16 (of_z w16 c.args.least))) ≡ c.clamp-place.result -ℤ c.args.least =
    omega (arith, ints) in
    ap unsigned_abs
    (d ∙ (ap (λ z. z -ℤ c.args.least) f ∙ ap (λ z. int_max c.args.least (int_min z c.args.most) -ℤ c.args.least) e))

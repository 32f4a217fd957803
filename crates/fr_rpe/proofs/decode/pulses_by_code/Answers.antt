use Rattle.std.proofs.Common.{◌≡◌, ℕ, ℤ, pos, arith, rules, sym, refl, FitsSigned, w16}
use Rattle.std.proofs.lemmas.Int.{to_z-of_z}
use Rattle.trau_num.specs.Num.{add_of, mult_r_of, floor_shr}
use Rattle.trau_num.proofs.Fill.{fill_next, fill_all}
use Rattle.fr_rpe.specs.declared.scale.Scale.{Scale}
use Rattle.fr_rpe.specs.Scale.{scale_of, factor_of, scale_shift}
use Rattle.fr_rpe.specs.Pulses.{rounding_of, level_of, pulse_of}
use Rattle.fr_rpe.proofs.decode.pulses_by_code.Goals as goal

-- what the code computes for a code at a scale
is_pulse : (scale given : Scale) (code shift : ℕ) (factor level rounding pulse : ℤ) → given ≡ scale → factor ≡ factor_of given.mantissa →
    shift ≡ scale_shift given → rounding ≡ pos (rounding_of shift) → level ≡ level_of code →
    pulse ≡ floor_shr (add_of (mult_r_of factor level) rounding) shift → pulse ≡ pulse_of scale code
unfolding pulse_of
is_pulse scale given code shift factor level rounding pulse g f s r l p = rw (sym g, p, r, s, f, l) refl

pub loop-code-preserved : goal.loop-code-preserved
loop-code-preserved c =
    let factor : FitsSigned w16 c.factor-factor.result = search rules in
    let level : FitsSigned w16 c.level.result = search rules in
    let rounding : FitsSigned w16 c.rounding-rounding.result = search rules in
    let pulse : FitsSigned w16 c.pulse.result = search rules in
    let p = simp to_z-of_z at c.pulse.ensures in
    fill_next (pos 0) _ c.loop-code.pulses 8 c.loop-code.code _ c.loop-code-test.true c.loop-code.invariant
    (simp to_z-of_z
    (is_pulse (scale_of c.args.xmaxc) c.of_max-scale.result c.loop-code.code c.shift-shift.result c.factor-factor.result c.level.result
    c.rounding-rounding.result c.pulse.result c.of_max-scale.ensures.value c.factor-factor.ensures.value c.shift-shift.ensures.value
    c.rounding-rounding.ensures c.level.ensures p))

pub returns : goal.returns
returns c = fill_all (pos 0) (pulse_of (scale_of c.args.xmaxc)) c.loop-code.pulses 8 c.loop-code.code (omega arith) c.loop-code.invariant

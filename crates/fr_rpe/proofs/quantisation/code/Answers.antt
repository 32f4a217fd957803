use Rattle.std.proofs.Common.{◌≡◌, ℕ, ℤ, ◌^◌, ◌<◌, pos, ◌+ℤ◌, ◌*ℤ◌, unsigned_abs, ap, ◌∙◌, arith, rules, FitsSigned, w16, to_z, of_z}
use Rattle.std.proofs.lemmas.Int.{to_z-of_z, ints}
use Rattle.std.proofs.lemmas.Nat.{pow_pos}
use Rattle.trau_num.specs.Num.{abs_of, mult_of, floor_shr}
use Rattle.fr_rpe.specs.declared.scale.Scale.{Scale}
use Rattle.fr_rpe.specs.Scale.{scale_shift}
use Rattle.fr_rpe.specs.Quantisation.{pulse_code_of, inverse_of, levelled, IsBelowScale}
use Rattle.fr_rpe.proofs.Levels.{IsLevel, IsShare, at_level, coded_share}
use Rattle.fr_rpe.proofs.quantisation.code.Goals as goal

is_level : (scale : Scale) (pulse : ℤ) → FitsSigned w16 pulse → scale.mantissa < 8 → IsBelowScale scale (unsigned_abs (abs_of pulse)) →
    IsLevel scale.mantissa (levelled scale pulse)
is_level scale pulse f m room = at_level pulse (2 ^ scale_shift scale) scale.mantissa f (pow_pos (scale_shift scale)) m room

fits : (mantissa : ℕ) (level : ℤ) → mantissa < 8 → IsLevel mantissa level → FitsSigned w16 level
fits mantissa level m h =
    let least = h.least in
    let high = h.high in
    omega (arith, ints)

-- what the code computes before the last shift
is_product : (scale : Scale) (pulse level inverse m : ℤ) (shift : ℕ) → shift ≡ scale_shift scale → level ≡ pulse *ℤ pos (2 ^ shift) →
    inverse ≡ inverse_of scale.mantissa → m ≡ mult_of level inverse → m ≡ mult_of (levelled scale pulse) (inverse_of scale.mantissa)
is_product scale pulse level inverse m shift s l i e =
    e ∙ (ap (λ a. mult_of a inverse) (l ∙ ap (λ n. pulse *ℤ pos (2 ^ n)) s) ∙ ap (λ b. mult_of (levelled scale pulse) b) i)

is_share : (scale : Scale) (pulse m : ℤ) → FitsSigned w16 pulse → scale.mantissa < 8 → IsBelowScale scale (unsigned_abs (abs_of pulse)) →
    m ≡ mult_of (levelled scale pulse) (inverse_of scale.mantissa) → IsShare (floor_shr m 12)
is_share scale pulse m f l room e = rw e (coded_share scale.mantissa (levelled scale pulse) l (is_level scale pulse f l room))

unwrapped : (z : ℤ) → IsShare z → to_z w16 (of_z w16 (to_z w16 (of_z w16 z) +ℤ pos 4)) ≡ z +ℤ pos 4
unwrapped z h =
    let low = h.low in
    let high = h.high in
    omega (arith, ints)

sum_fits : (z : ℤ) → IsShare z → FitsSigned w16 (to_z w16 (of_z w16 z) +ℤ pos 4)
sum_fits z h =
    let low = h.low in
    let high = h.high in
    omega (arith, ints)

code_number : (z : ℤ) → IsShare z → (n : ℕ) × (z +ℤ pos 4 ≡ pos n) × (n < 8)
code_number z h =
    let low = h.low in
    let high = h.high in
    (unsigned_abs (z +ℤ pos 4), omega (arith, ints), omega (arith, ints))

code_below_8 : (z : ℤ) → IsShare z → unsigned_abs (z +ℤ pos 4) < 8
code_below_8 z h =
    let low = h.low in
    let high = h.high in
    omega (arith, ints)

pub levelled-level-requires-clause-word : goal.levelled-level-requires-clause-word
levelled-level-requires-clause-word c =
    let f = c.ranges.pulse in
    let s = c.shift.ensures.value in
    simp to_z-of_z
    (rw s (fits c.args.scale.mantissa _ c.requires.mantissa (is_level c.args.scale c.args.pulse f c.requires.mantissa c.requires.room)))

pub overflow_add-result : goal.overflow_add-result
overflow_add-result c =
    let f = c.ranges.pulse in
    let level : FitsSigned w16 c.levelled-level.result = search rules in
    let inverse : FitsSigned w16 c.inverse.result = search rules in
    let product : FitsSigned w16 c.mult.result = search rules in
    let l = simp to_z-of_z at c.levelled-level.ensures in
    let e = simp to_z-of_z at c.mult.ensures in
    let p = is_product c.args.scale c.args.pulse c.levelled-level.result c.inverse.result c.mult.result c.shift.result c.shift.ensures.value l
    c.inverse.ensures e in
    simp to_z-of_z (sum_fits (floor_shr c.mult.result 12) (is_share c.args.scale c.args.pulse c.mult.result f c.requires.mantissa c.requires.room p))

pub overflow_cast-result : goal.overflow_cast-result
overflow_cast-result c =
    let f = c.ranges.pulse in
    let level : FitsSigned w16 c.levelled-level.result = search rules in
    let inverse : FitsSigned w16 c.inverse.result = search rules in
    let product : FitsSigned w16 c.mult.result = search rules in
    let l = simp to_z-of_z at c.levelled-level.ensures in
    let e = simp to_z-of_z at c.mult.ensures in
    let p = is_product c.args.scale c.args.pulse c.levelled-level.result c.inverse.result c.mult.result c.shift.result c.shift.ensures.value l
    c.inverse.ensures e in
    let s = is_share c.args.scale c.args.pulse c.mult.result f c.requires.mantissa c.requires.room p in
    let n = code_number (floor_shr c.mult.result 12) s in
    let b = n.2 in
    rw (to_z-of_z w16 c.mult.result product, unwrapped (floor_shr c.mult.result 12) s, n.1) (tt, search rules)

pub returns-clause-value : goal.returns-clause-value
unfolding pulse_code_of
returns-clause-value c =
    let f = c.ranges.pulse in
    let level : FitsSigned w16 c.levelled-level.result = search rules in
    let inverse : FitsSigned w16 c.inverse.result = search rules in
    let product : FitsSigned w16 c.mult.result = search rules in
    let l = simp to_z-of_z at c.levelled-level.ensures in
    let e = simp to_z-of_z at c.mult.ensures in
    let p = is_product c.args.scale c.args.pulse c.levelled-level.result c.inverse.result c.mult.result c.shift.result c.shift.ensures.value l
    c.inverse.ensures e in
    let s = is_share c.args.scale c.args.pulse c.mult.result f c.requires.mantissa c.requires.room p in
    rw (to_z-of_z w16 c.mult.result product) (ap unsigned_abs (unwrapped (floor_shr c.mult.result 12) s ∙ ap (λ m. floor_shr m 12 +ℤ pos 4) p))

pub returns-clause-below_8 : goal.returns-clause-below_8
returns-clause-below_8 c =
    let f = c.ranges.pulse in
    let level : FitsSigned w16 c.levelled-level.result = search rules in
    let inverse : FitsSigned w16 c.inverse.result = search rules in
    let product : FitsSigned w16 c.mult.result = search rules in
    let l = simp to_z-of_z at c.levelled-level.ensures in
    let e = simp to_z-of_z at c.mult.ensures in
    let p = is_product c.args.scale c.args.pulse c.levelled-level.result c.inverse.result c.mult.result c.shift.result c.shift.ensures.value l
    c.inverse.ensures e in
    let s = is_share c.args.scale c.args.pulse c.mult.result f c.requires.mantissa c.requires.room p in
    rw (to_z-of_z w16 c.mult.result product, unwrapped (floor_shr c.mult.result 12) s) (code_below_8 (floor_shr c.mult.result 12) s)

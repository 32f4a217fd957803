use Rattle.std.proofs.Common.{ℕ, ◌*◌, ◌^◌, ◌<◌, ◌≤◌, pos, ◌≤ℤ◌, ◌<ℤ◌, unsigned_abs, rules, arith, ◌∙◌, ap, ℤ, FitsSigned, w16, w32}
use Rattle.std.proofs.lemmas.Int.{to_z-of_z, ints}
use Rattle.std.proofs.Math.Nat.{mul-le-mul_right}
use Rattle.trau_num.specs.Num.{floor_shr, entry}
use Rattle.trau_num.proofs.Fill.{fill_next, fill_all}
use Rattle.fr_lpc.specs.Reflection.{normalised}
use Rattle.fr_lpc.proofs.reflection.normalised.Goals as goal

-- what leaves the first its room leaves each its room
room : (first x : ℤ) (shift : ℕ) → pos 0 <ℤ first → pos (unsigned_abs x) ≤ℤ first → unsigned_abs first * 2 ^ shift < 2 ^ 31 →
    unsigned_abs x * 2 ^ shift < 2 ^ 31
room first x shift a b h =
    let below : unsigned_abs x ≤ unsigned_abs first = omega (arith, ints) in
    omega (arith, mul-le-mul_right (2 ^ shift) below)

pub shifted-requires-clause-room : goal.shifted-requires-clause-room
shifted-requires-clause-room c =
    let x : FitsSigned w32 (entry c.args.acf.now c.loop-i.i) = search rules in
    let first : FitsSigned w32 (entry c.args.acf.now 0) = search rules in
    let below = simp to_z-of_z at c.norm-shift.ensures.below in
    simp to_z-of_z
    (room (entry c.args.acf.now 0) (entry c.args.acf.now c.loop-i.i) c.norm-shift.result c.requires.positive
    (c.requires.greatest c.loop-i.i (omega (arith, c.told-acf))) below)

pub loop-i-preserved : goal.loop-i-preserved
loop-i-preserved c =
    let x : FitsSigned w32 (entry c.args.acf.now c.loop-i.i) = search rules in
    let s : FitsSigned w32 c.shifted.result = search rules in
    let r : FitsSigned w16 c.high_word.result = search rules in
    let e = simp to_z-of_z at c.shifted.ensures in
    let f = simp to_z-of_z at c.high_word.ensures in
    fill_next (pos 0) _ c.loop-i.words 9 c.loop-i.i _ c.loop-i-test.true c.loop-i.invariant
    (to_z-of_z w16 _ r ∙ (f ∙ ap (λ z. floor_shr z 16) e))

pub returns : goal.returns
unfolding normalised
returns c =
    let first : FitsSigned w32 (entry c.args.acf.now 0) = search rules in
    let v = simp to_z-of_z at c.norm-shift.ensures.value in
    rw (← v) (fill_all (pos 0) _ c.loop-i.words 9 c.loop-i.i c.loop-i-test.false c.loop-i.invariant)

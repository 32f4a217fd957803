use Rattle.std.proofs.Common.{◌≡◌, ℤ, ◌*◌, ◌^◌, ◌≤◌, pos, negsuc, neg_ℤ, ◌*ℤ◌, ◌≤ℤ◌, arith, sym, ◌∙◌, suc, mul-le-mul, w32, to_z, of_z}
use Rattle.std.proofs.lemmas.Int.{to_z-of_z, ints}
use Rattle.trau_num.specs.Num.{l_mult_of, clamp32}
use Rattle.fr_rpe.proofs.selection.twice_square.Goals as goal

record IsSquare (q : ℤ) : Type 0 where
  not_negative : pos 0 ≤ℤ q
  at_most : q ≤ℤ pos (2 ^ 26)

square : (v : ℤ) → neg_ℤ (pos 8192) ≤ℤ v → v ≤ℤ pos 8191 → IsSquare (v *ℤ v)
square (pos n) l h =
    let b : n ≤ 8192 = omega (arith, ints) in
    let s : n * n ≤ 8192 * 8192 = mul-le-mul b b in
    record { not_negative = omega (arith, ints); at_most = omega (arith, ints) }
square (negsuc n) l h =
    let b : suc n ≤ 8192 = omega (arith, ints) in
    let s : suc n * suc n ≤ 8192 * 8192 = mul-le-mul b b in
    record { not_negative = omega (arith, ints); at_most = omega (arith, ints) }

unclamped : (q : ℤ) → IsSquare q → clamp32 (q *ℤ pos 2) ≡ q *ℤ pos 2
unclamped q s =
    let l = s.not_negative in
    let h = s.at_most in
    grind (arith, ints)

doubled : (p : ℤ) → IsSquare p → to_z w32 (of_z w32 (to_z w32 (of_z w32 p) *ℤ pos 2)) ≡ p *ℤ pos 2
doubled p s =
    let l = s.not_negative in
    let h = s.at_most in
    omega (arith, ints)

is_product : (v p : ℤ) → p ≡ v *ℤ v → IsSquare (v *ℤ v) → to_z w32 (of_z w32 (to_z w32 (of_z w32 p) *ℤ pos 2)) ≡ l_mult_of v v
unfolding l_mult_of
is_product v p e s = rw e (doubled (v *ℤ v) s ∙ sym (unclamped (v *ℤ v) s))

low : (v p : ℤ) → p ≡ v *ℤ v → IsSquare (v *ℤ v) → pos 0 ≤ℤ to_z w32 (of_z w32 (to_z w32 (of_z w32 p) *ℤ pos 2))
low v p e s =
    let l = s.not_negative in
    rw (e, doubled (v *ℤ v) s) (omega (arith, ints))

high : (v p : ℤ) → p ≡ v *ℤ v → IsSquare (v *ℤ v) → to_z w32 (of_z w32 (to_z w32 (of_z w32 p) *ℤ pos 2)) ≤ℤ pos (2 ^ 27)
high v p e s =
    let h = s.at_most in
    rw (e, doubled (v *ℤ v) s) (omega (arith, ints))

pub returns-clause-value : goal.returns-clause-value
returns-clause-value c =
    let v = c.ranges.v in
    let e = simp to_z-of_z at c.product.ensures.value in
    is_product c.args.v c.product.result e (square c.args.v c.requires.low c.requires.high)

pub returns-clause-not_negative : goal.returns-clause-not_negative
returns-clause-not_negative c =
    let v = c.ranges.v in
    let e = simp to_z-of_z at c.product.ensures.value in
    low c.args.v c.product.result e (square c.args.v c.requires.low c.requires.high)

pub returns-clause-at_most : goal.returns-clause-at_most
returns-clause-at_most c =
    let v = c.ranges.v in
    let e = simp to_z-of_z at c.product.ensures.value in
    high c.args.v c.product.result e (square c.args.v c.requires.low c.requires.high)

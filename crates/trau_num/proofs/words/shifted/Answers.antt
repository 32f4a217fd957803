use Rattle.std.proofs.Common.{◌≡◌, ℕ, ◌*◌, ◌%◌, ◌^◌, ◌≤◌, ℤ, pos, ◌*ℤ◌, arith, FitsSigned, w16, w32, to_z, of_z}
use Rattle.std.proofs.lemmas.Int.{ints, to_z-of_z, fits_signed_mul, to_z_pos}
use Rattle.std.proofs.lemmas.Nat.{one_shl}
use Rattle.std.proofs.Math.Nat.{pow-le-pow_right}
use Rattle.trau_num.proofs.words.shifted.Goals as goal

-- a power of two that a shift makes
power : (n : ℕ) → n ≤ 15 → to_z w32 (1 * 2 ^ n % 4294967296) ≡ pos (2 ^ n)
power n h =
    let low : 2 ^ n ≤ 2 ^ 15 = pow-le-pow_right (omega arith) h in
    rw (one_shl n 32 (omega arith)) (to_z_pos w32 (2 ^ n) (omega arith))

fits : (a : ℤ) (n : ℕ) → FitsSigned w16 a → n ≤ 15 → FitsSigned w32 (a *ℤ pos (2 ^ n))
fits a n f h = fits_signed_mul w32 a (pos (2 ^ n)) (2 ^ 15) (2 ^ 15) (omega (arith, ints)) (pow-le-pow_right (omega arith) h) (omega arith)

-- what the code computes
is_product : (b a : ℤ) (n : ℕ) → FitsSigned w16 a → n ≤ 15 → b ≡ a →
    to_z w32 (of_z w32 b) *ℤ to_z w32 (1 * 2 ^ n % 4294967296) ≡ a *ℤ pos (2 ^ n)
is_product b a n f h e =
    let w : to_z w32 (of_z w32 b) ≡ a = omega (arith, ints) in
    rw (w, power n h)

pub overflow_mul-result : goal.overflow_mul-result
overflow_mul-result c =
    let f = c.ranges.a in
    rw (is_product c.from.result c.args.a c.args.n f c.requires (omega (arith, ints))) (fits c.args.a c.args.n f c.requires)

pub returns : goal.returns
returns c =
    let f = c.ranges.a in
    rw (is_product c.from.result c.args.a c.args.n f c.requires (omega (arith, ints)))
    (to_z-of_z w32 _ (fits c.args.a c.args.n f c.requires))

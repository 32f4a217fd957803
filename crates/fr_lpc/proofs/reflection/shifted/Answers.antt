use Rattle.std.proofs.Common.{◌≡◌, ℕ, ◌*◌, ◌%◌, ◌^◌, ◌<◌, ◌≤◌, ℤ, pos, ◌*ℤ◌, unsigned_abs, arith, FitsSigned, w32, to_z}
use Rattle.std.proofs.lemmas.Int.{to_z-of_z, to_z_pos, fits_signed_from_abs, unsigned_abs-mul}
use Rattle.std.proofs.lemmas.Nat.{one_shl}
use Rattle.std.proofs.Math.Nat.{pow-le-pow_right}
use Rattle.fr_lpc.proofs.reflection.shifted.Goals as goal

-- a power of two that a shift makes
power : (n : ℕ) → n ≤ 30 → to_z w32 (1 * 2 ^ n % 4294967296) ≡ pos (2 ^ n)
power n h =
    let low : 2 ^ n ≤ 2 ^ 30 = pow-le-pow_right (omega arith) h in
    rw (one_shl n 32 (omega arith)) (to_z_pos w32 (2 ^ n) (omega arith))

fits : (x : ℤ) (n : ℕ) → unsigned_abs x * 2 ^ n < 2 ^ 31 → FitsSigned w32 (x *ℤ pos (2 ^ n))
fits x n h = fits_signed_from_abs w32 _ (rw unsigned_abs-mul h)

pub overflow_mul-result : goal.overflow_mul-result
overflow_mul-result c =
    rw (to_z-of_z w32 c.args.x c.ranges.x, power c.args.shift c.requires.shift) (fits c.args.x c.args.shift c.requires.room)

pub returns : goal.returns
returns c =
    rw (to_z-of_z w32 c.args.x c.ranges.x, power c.args.shift c.requires.shift)
    (to_z-of_z w32 _ (fits c.args.x c.args.shift c.requires.room))

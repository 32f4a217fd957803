use Rattle.std.proofs.Common.{◌≡◌, ℕ, ◌*◌, ◌%◌, ◌^◌, ◌≤◌, ℤ, pos, ◌*ℤ◌, arith, FitsSigned, w16, to_z, of_z}
use Rattle.std.proofs.lemmas.Int.{to_z-of_z, to_z_pos}
use Rattle.std.proofs.lemmas.Nat.{one_shl}
use Rattle.std.proofs.Math.Nat.{pow-le-pow_right}
use Rattle.fr_rpe.proofs.quantisation.levelled.Goals as goal

-- the power of two that the shift makes
power : (n : ℕ) → n ≤ 10 → to_z w16 (1 * 2 ^ n % 65536) ≡ pos (2 ^ n)
power n h =
    let low : 2 ^ n ≤ 2 ^ 10 = pow-le-pow_right (omega arith) h in
    rw (one_shl n 16 (omega arith)) (to_z_pos w16 (2 ^ n) (omega arith))

is_product : (a : ℤ) (n : ℕ) → FitsSigned w16 a → n ≤ 10 → to_z w16 (of_z w16 a) *ℤ to_z w16 (1 * 2 ^ n % 65536) ≡ a *ℤ pos (2 ^ n)
is_product a n f h = rw (to_z-of_z w16 a f, power n h)

pub overflow_mul-result : goal.overflow_mul-result
overflow_mul-result c = rw (is_product c.args.pulse c.args.shift c.ranges.pulse c.requires.shift) c.requires.word

pub returns : goal.returns
returns c =
    rw (is_product c.args.pulse c.args.shift c.ranges.pulse c.requires.shift) (to_z-of_z w16 _ c.requires.word)

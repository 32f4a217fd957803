use Rattle.std.proofs.Common.{◌≡◌, ℕ, ◌*◌, ◌-◌, ◌%◌, ◌^◌, ◌≤◌, pos, arith, w16, to_z}
use Rattle.std.proofs.lemmas.Int.{to_z_pos}
use Rattle.std.proofs.lemmas.Nat.{one_shl}
use Rattle.std.proofs.lemmas.Grind.{common_steps}
use Rattle.std.proofs.Math.Nat.{pow-le-pow_right}
use Rattle.fr_rpe.specs.Pulses.{rounding_of}
use Rattle.fr_rpe.proofs.decode.rounding.Goals as goal

-- the power of two that the shift makes
power : (d : ℕ) → d ≤ 10 → (d ≡ 0 → ⊥) → to_z w16 (1 * 2 ^ (d - 1) % 65536) ≡ pos (rounding_of d)
power d l ne =
    let q : d - 1 ≤ 9 = omega arith in
    let p : 2 ^ (d - 1) ≤ 2 ^ 9 = pow-le-pow_right (omega arith) q in
    let h : rounding_of d ≡ 2 ^ (d - 1) = grind (arith, common_steps) in
    rw (one_shl (d - 1) 16 (omega arith), h) (to_z_pos w16 (2 ^ (d - 1)) (omega arith))

pub returns-else-shift-eq0 : goal.returns-else-shift-eq0
returns-else-shift-eq0 c = power c.args.shift c.requires c.if-shift-eq0.false

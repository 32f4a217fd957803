use Rattle.std.proofs.Common.{unsigned_abs, ◌≡◌, arith, pos, ◌*ℤ◌, to_z, of_z, w32}
use Rattle.std.proofs.lemmas.Int.{ints, to_z-of_z, unsigned_abs-mul}
use Rattle.fr_long.proofs.Blocks.{leaves_room}
use Rattle.fr_long.proofs.scaling.scaling.Goals as goal

pub returns-clause-room : goal.returns-clause-room
returns-clause-room c =
    let f = c.ranges.peak in
    let e = simp to_z-of_z at c.from.ensures in
    let v : to_z w32 (of_z w32 (to_z w32 (of_z w32 c.from.result) *ℤ pos 65536)) ≡ c.args.peak *ℤ pos 65536 = omega (arith, ints) in
    let b = rw (v, unsigned_abs-mul c.args.peak (pos 65536)) at c.norm.ensures.below in
    rw c.saturating_sub.ensures (leaves_room (unsigned_abs c.args.peak) c.norm.result b)

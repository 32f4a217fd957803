use Rattle.std.proofs.Common.{◌≡◌, unsigned_abs, pos, ◌*ℤ◌, arith, ◌∙◌, ap, w32, to_z, of_z}
use Rattle.std.proofs.lemmas.Int.{ints, unsigned_abs-mul}
use Rattle.fr_lpc.proofs.Scaled.{peak_room}
use Rattle.fr_lpc.proofs.scaling.scaling_of_peak.Goals as goal

pub returns-clause-room : goal.returns-clause-room
returns-clause-room c =
    let peak = c.ranges.peak in
    let high : to_z w32 (of_z w32 (to_z w32 (of_z w32 c.from.result) *ℤ pos 65536)) ≡ c.args.peak *ℤ pos 65536 = omega (arith, ints, c.from.ensures) in
    let size = ap unsigned_abs high ∙ unsigned_abs-mul c.args.peak (pos 65536) in
    rw c.saturating_sub.ensures (peak_room (unsigned_abs c.args.peak) c.norm.result (rw size at c.norm.ensures.below))

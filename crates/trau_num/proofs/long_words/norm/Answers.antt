use Rattle.std.proofs.Common.{◌-◌, ◌^◌, ◌<◌, sym, arith, unsigned_abs}
use Rattle.std.proofs.lemmas.Int.{to_z-of_z, ints}
use Rattle.trau_num.proofs.LeftShifts.{reaches, stays, within, is_norm}
use Rattle.trau_num.proofs.long_words.norm.Goals as goal

pub returns-clause-value : goal.returns-clause-value
returns-clause-value c =
    let f = c.ranges.v in
    let l = simp to_z-of_z at c.ilog2.ensures.power_le in
    let u = simp to_z-of_z at c.ilog2.ensures.next_power_gt in
    let small : unsigned_abs c.args.v < 2 ^ 31 = omega (arith, ints) in
    let w = within c.ilog2.result (unsigned_abs c.args.v) l small in
    sym (is_norm (unsigned_abs c.args.v) (30 - c.ilog2.result) (omega arith)
    (reaches (unsigned_abs c.args.v) c.ilog2.result w l) (stays (unsigned_abs c.args.v) c.ilog2.result w u))

pub returns-clause-at_least : goal.returns-clause-at_least
returns-clause-at_least c =
    let f = c.ranges.v in
    let l = simp to_z-of_z at c.ilog2.ensures.power_le in
    reaches (unsigned_abs c.args.v) c.ilog2.result (within c.ilog2.result (unsigned_abs c.args.v) l (omega (arith, ints))) l

pub returns-clause-below : goal.returns-clause-below
returns-clause-below c =
    let f = c.ranges.v in
    let l = simp to_z-of_z at c.ilog2.ensures.power_le in
    stays (unsigned_abs c.args.v) c.ilog2.result (within c.ilog2.result (unsigned_abs c.args.v) l (omega (arith, ints)))
    (simp to_z-of_z at c.ilog2.ensures.next_power_gt)

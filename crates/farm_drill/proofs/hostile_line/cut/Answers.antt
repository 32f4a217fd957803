use Rattle.std.proofs.Common.{◌*◌, ◌%◌, get_or, arith}
use Rattle.std.proofs.lemmas.List.{get_or_default}
use Rattle.farm_drill.specs.Hostile.{zero_bits, cut_bits}
use Rattle.farm_drill.proofs.Drawing.{all_from}
use Rattle.farm_drill.proofs.hostile_line.cut.Goals as goal

pub returns-clause-value : goal.returns-clause-value
unfolding cut_bits
returns-clause-value c =
    all_from (λ p. get_or (zero_bits 0) (p % 305) 0) (320 * c.args.period) 320 c.loop-i.bits c.loop-i.invariant.count
    (λ k below. c.loop-i.invariant.each k (omega (arith, below, c.loop-i-test.false)))

pub returns-clause-bits : goal.returns-clause-bits
returns-clause-bits c = λ k d below.
    let inside = c.loop-i.invariant.bits k (omega (arith, below, c.loop-i.invariant.count, c.loop-i-test.false)) in
    omega (arith, inside, get_or_default c.loop-i.bits k d 0 below)

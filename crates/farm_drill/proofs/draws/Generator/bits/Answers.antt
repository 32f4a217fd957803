use Rattle.std.proofs.Common.{◌/◌, ◌^◌, arith}
use Rattle.std.proofs.lemmas.List.{get_or_default}
use Rattle.farm_drill.specs.Draws.{draw}
use Rattle.farm_drill.proofs.Drawing.{all_from}
use Rattle.farm_drill.proofs.draws.Generator.bits.Goals as goal

pub returns-clause-value : goal.returns-clause-value
returns-clause-value c = λ seed call n e.
    all_from (λ k. draw seed call k / 2 ^ 7) n 260 c.loop-i.bits c.loop-i.invariant.count
    (λ k below. c.loop-i.invariant.each seed call n e k (omega (arith, below, c.loop-i-test.false)))

pub returns-clause-bits : goal.returns-clause-bits
returns-clause-bits c = λ k d below.
    let inside = c.loop-i.invariant.bits k (omega (arith, below, c.loop-i.invariant.count, c.loop-i-test.false)) in
    omega (arith, inside, get_or_default c.loop-i.bits k d 0 below)

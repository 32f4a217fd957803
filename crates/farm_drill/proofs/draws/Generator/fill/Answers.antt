use Rattle.std.proofs.Common.{length, arith}
use Rattle.farm_drill.specs.Draws.{draw}
use Rattle.farm_drill.proofs.Drawing.{all_from}
use Rattle.farm_drill.proofs.draws.Generator.fill.Goals as goal

pub returns-clause-octets : goal.returns-clause-octets
returns-clause-octets c = λ seed call n e.
    all_from (draw seed call) n (length c.args.octets.now) c.loop-octet.octets (omega (arith, c.loop-octet.auto.octets))
    (λ k below. c.loop-octet.invariant.each seed call n e k (omega (arith, below, c.loop-octet-test.false, c.loop-octet.auto.octets)))

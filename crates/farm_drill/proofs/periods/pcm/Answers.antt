use Rattle.std.proofs.Common.{◌+◌, sym, ◌∙◌}
use Rattle.farm_drill.specs.Draws.{first_draw, first_loud_draw}
use Rattle.farm_drill.proofs.Drawing.{state-along, next-loud, next-quiet}
use Rattle.farm_drill.proofs.Octets.{pcm-loud, pcm-quiet}
use Rattle.farm_drill.proofs.periods.pcm.Goals as goal

pub returns-then-period-eq1-clause-octets : goal.returns-then-period-eq1-clause-octets
returns-then-period-eq1-clause-octets c = λ seed call e.
    c.fill.ensures.octets seed call (first_loud_draw c.args.period) e ∙ sym (pcm-loud seed call c.args.period c.if-period-eq1.true)

pub returns-else-period-eq1-clause-octets : goal.returns-else-period-eq1-clause-octets
returns-else-period-eq1-clause-octets c = λ seed call e. sym (pcm-quiet seed call c.args.period c.if-period-eq1.false)

pub returns-then-period-eq1-clause-now : goal.returns-then-period-eq1-clause-now
returns-then-period-eq1-clause-now c = λ seed call e.
    state-along seed call (first_loud_draw c.args.period + 160) (first_draw (c.args.period + 1)) c.fill.new.self.x
    (next-loud c.args.period c.if-period-eq1.true)
    (c.fill.ensures.now seed call (first_loud_draw c.args.period) e)

pub returns-else-period-eq1-clause-now : goal.returns-else-period-eq1-clause-now
returns-else-period-eq1-clause-now c = λ seed call e.
    state-along seed call (first_loud_draw c.args.period) (first_draw (c.args.period + 1)) c.args.generator.now.x
    (next-quiet c.args.period c.if-period-eq1.false) e

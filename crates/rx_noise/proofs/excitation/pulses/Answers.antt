use Rattle.std.proofs.Common.{arith, rules, subst, sym}
use Rattle.trau_params.specs.Widths.{FitWidth}
use Rattle.rx_noise.proofs.Drawn.{pulses_none, pulses_next, pulses_all, pulses_fit}
use Rattle.rx_noise.proofs.excitation.pulses.Goals as goal

pub loop-i-init : goal.loop-i-init
loop-i-init c = pulses_none _ _ (search rules)

pub loop-i-preserved : goal.loop-i-preserved
loop-i-preserved c =
    pulses_next _ c.loop-i.xmc c.loop-i.draw.r c.loop-i.i c.next.result c.next.new.self.r
    (omega arith) c.loop-i.invariant c.next.ensures.value c.next.ensures.state

pub returns-clause-values : goal.returns-clause-values
returns-clause-values c = pulses_all _ _ _ _ (omega arith) c.loop-i.invariant

pub returns-clause-fit : goal.returns-clause-fit
returns-clause-fit c = subst (λ p. FitWidth 3 p) (sym (returns-clause-values c)) (pulses_fit c.args.draw.now.r 0)

use Rattle.std.proofs.Common.{ap, sym, ◌∙◌}
use Rattle.rx_handler.specs.State.{heard_fields, effective_fields}
use Rattle.rx_handler.specs.Step.{received}
use Rattle.fr_sides.proofs.receiver.Receiver.hear.Goals as goal

pub returns-clause-heard : goal.returns-clause-heard
returns-clause-heard c =
    ap (λ r. received r (heard_fields c.args.y.now)) (sym c.of_flat-rx.ensures) ∙ c.receive-e.ensures.step
    ∙ ap (λ r. (effective_fields c.receive-e.result, r)) (sym c.flat-self.ensures.value)

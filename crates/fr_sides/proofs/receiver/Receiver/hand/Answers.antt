use Rattle.std.proofs.Common.{◌∙◌}
use Rattle.rx_handler.specs.State.{heard_fields, effective_fields}
use Rattle.fr_sides.specs.Memory.{receiver_memory}
use Rattle.fr_sides.proofs.Received.{bridged-step, bridged-step-stands}
use Rattle.fr_sides.proofs.receiver.Receiver.hand.Goals as goal

pub returns-clause-step : goal.returns-clause-step
returns-clause-step c =
    bridged-step (receiver_memory c.args.self.now) (receiver_memory c.hear.new.self) (heard_fields c.args.y.now) (effective_fields c.hear.result)
    c.hear.ensures.heard (c.hear.ensures.decoder ∙ c.home-self.ensures.value)

pub returns-clause-history : goal.returns-clause-history
returns-clause-history c = λ seed past h.
    bridged-step-stands (receiver_memory c.args.self.now) _ (heard_fields c.args.y.now) (effective_fields c.hear.result) (returns-clause-step c) seed past h

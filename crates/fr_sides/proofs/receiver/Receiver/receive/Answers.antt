use Rattle.std.proofs.Common.{ap, sym, ◌∙◌, not}
use Rattle.rx_handler.specs.Origin.{is_quiet}
use Rattle.rx_handler.specs.State.{heard_fields, effective_fields}
use Rattle.fr_sides.specs.Memory.{receiver_memory}
use Rattle.fr_sides.specs.Receiving.{played}
use Rattle.fr_sides.proofs.Received.{turned-step, step-stands, sounds-now}
use Rattle.fr_sides.proofs.receiver.Receiver.receive.Goals as goal

pub returns-clause-step : goal.returns-clause-step
returns-clause-step c =
    let e = effective_fields c.hear-e.result in
    turned-step (receiver_memory c.args.self.now) (heard_fields c.args.y.now) e (receiver_memory c.hear-e.new.self).rx c.play.new.x c.play.new.decoder
    c.hear-e.ensures.heard (ap (λ d. played d e) (sym c.hear-e.ensures.decoder) ∙ c.play.ensures)

pub returns-clause-answer : goal.returns-clause-answer
returns-clause-answer c = ap not c.is_quiet.ensures ∙ ap (λ h. not (is_quiet h.0)) (sym c.hear-e.ensures.heard)

pub returns-clause-history : goal.returns-clause-history
returns-clause-history c = λ seed past h.
    let y = heard_fields c.args.y.now in
    let m = receiver_memory c.args.self.now in
    let s = step-stands m _ y c.play.new.x (returns-clause-step c) seed past h in
    (s.0, s.1, returns-clause-answer c ∙ sounds-now m y seed past h)

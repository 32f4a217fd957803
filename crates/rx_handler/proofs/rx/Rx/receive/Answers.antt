use Rattle.std.proofs.Common.{[], ap, sym, ◌∙◌}
use Rattle.rx_handler.specs.Step.{received}
use Rattle.rx_handler.specs.State.{state_of, effective_fields, heard_fields}
use Rattle.rx_handler.proofs.LookBack.{effective-history}
use Rattle.rx_handler.proofs.Steps.{received_more, received_by}
use Rattle.rx_handler.proofs.rx.Rx.receive.Goals as goal

pub returns-clause-step : goal.returns-clause-step
returns-clause-step c =
    ap (λ m. received m (heard_fields c.args.y.now)) (sym c.self.view_is) ∙
    received_by _ (heard_fields c.args.y.now) (state_of c.hear.new.state) (effective_fields c.frame.result) c.frame.new.draw.r
    c.hear.ensures c.frame.ensures.frame c.frame.ensures.source

pub returns-clause-history : goal.returns-clause-history
returns-clause-history c = λ call past stands. received_more call past _ _ _ _ (returns-clause-step c) stands

pub returns-clause-last : goal.returns-clause-last
returns-clause-last c = λ call past stands.
    (returns-clause-history c call past stands).1 ∙ sym (effective-history call (heard_fields c.args.y.now) past [])

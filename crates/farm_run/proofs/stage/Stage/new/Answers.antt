use Rattle.std.proofs.Common.{rules, refl}
use Rattle.std.proofs.lemmas.Result.{IfOk-from_err}
use Rattle.trau_orders.specs.Lists.{AreOrders}
use Rattle.farm_run.proofs.Clocks.First.{first_stage}
use Rattle.farm_run.proofs.stage.Stage.new.Goals as goal

pub returns : goal.returns
returns c =
    let board = c.in_ok-new.ensures in
    let farm = c.in_ok-new-2.ensures in
    let orders : AreOrders c.args.orders = search rules in
    first_stage _ _ _ orders board.start board.untold board.open board.partner farm.value farm.history c.in_ok-new-3.ensures refl refl

pub returns-in_err-new : goal.returns-in_err-new
returns-in_err-new c = IfOk-from_err _ _ c.from_residual.ensures.0

pub returns-in_err-new-2 : goal.returns-in_err-new-2
returns-in_err-new-2 c = IfOk-from_err _ _ c.from_residual-in_err-new-2.ensures.0

pub returns-in_err-new-3 : goal.returns-in_err-new-3
returns-in_err-new-3 c = IfOk-from_err _ _ c.from_residual-in_err-new-3.ensures.0

use Rattle.std.proofs.lemmas.Result.{err_from_is_err_and}
use Rattle.farm_orders.proofs.Told.{faulty}
use Rattle.farm_orders.proofs.read.orders_of.Goals as goal

pub returns-in_err-parse : goal.returns-in_err-parse
returns-in_err-parse c =
    let told = err_from_is_err_and c.from_residual.result c.from_residual.ensures.1 in
    let parse = c.parse.ensures in
    rw (told.1, told.2) (faulty c.args.text.now c.parse.result _ c.in_err-parse.was parse.too_long.0 (λ e. (parse.too_many.0 e).1) parse.bad)

use Rattle.std.proofs.Common.{rules}
use Rattle.std.proofs.lemmas.Result.{err_from_is_err_and}
use Rattle.trau_orders.specs.Text.{text_lines}
use Rattle.trau_orders.proofs.Known.{orders_known}
use Rattle.trau_orders.proofs.list.Orders.parse.Goals as goal

pub returns-in_err-items-clause-bad : goal.returns-in_err-items-clause-bad
returns-in_err-items-clause-bad c =
    let p = err_from_is_err_and c.from_residual.result c.from_residual.ensures.1 in
    rw (p.1, p.2) (λ n is. ((search rules, search rules), c.in_err-items.ensures.bad n cc))

pub invariant_of-result : goal.invariant_of-result
invariant_of-result c = orders_known (text_lines c.args.text.now) c.in_ok-items.items.items (search rules) c.in_ok-items.ensures.ok

use Rattle.std.proofs.Common.{sym, rules}
use Rattle.trau_orders.proofs.Reading.{behind}
use Rattle.trau_orders.proofs.text.next_order.Goals as goal

pub returns-in-Some-clause-none : goal.returns-in-Some-clause-none
returns-in-Some-clause-none c = λ none other is follows.
    behind c.args.line.now c.args.orders.now c.in_ok-order.order other c.in-Some.before.now c.in_ok-order.ensures.some is (sym c.in-Some.ensures.value)
    c.if-order-before.true follows

pub returns-in-Some-clause-some : goal.returns-in-Some-clause-some
returns-in-Some-clause-some c = search rules

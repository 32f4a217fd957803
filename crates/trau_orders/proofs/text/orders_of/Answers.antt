use Rattle.std.proofs.Common.{◌≡◌, ◌+◌, ◌++◌, ◌∷◌, [], length, refl, ap, subst, arith}
use Rattle.std.proofs.lemmas.Grind.{common_steps}
use Rattle.trau_orders.specs.Text.{text_lines, IsFirstBad}
use Rattle.trau_orders.proofs.Reading.{read_more, read_all, read_bad, no_fault, not_of_all}
use Rattle.trau_orders.proofs.text.orders_of.Goals as goal

pub returns-in_default-next_order-clause-bad : goal.returns-in_default-next_order-clause-bad
returns-in_default-next_order-clause-bad c = λ n is.
    let bad = read_bad c.args.text.now c.loop-line.rest.now c.in-Some.line.now c.in-Some.after.now c.loop-line.orders.items c.loop-line.invariant
    c.in-Some.ensures.some (λ o is follows. c.in_default-next_order.ensures.none refl o is (rw c.deref.ensures.value follows)) in
    let same : c.len.result + 1 ≡ n = cc in
    let number : length c.loop-line.orders.items + 1 ≡ n = omega (arith, same, c.len.ensures, c.deref.ensures.len, ap length c.deref.ensures.value) in
    subst (IsFirstBad (text_lines c.args.text.now)) number bad

pub loop-line-preserved : goal.loop-line-preserved
loop-line-preserved c =
    let pushed : c.push.new.self.items ≡ c.loop-line.orders.items ++ c.in-Some-next_order.order ∷ [] = grind (arith, common_steps, c.push.ensures.items) in
    rw pushed (read_more c.args.text.now c.loop-line.rest.now c.in-Some.line.now c.in-Some.after.now c.loop-line.orders.items c.in-Some-next_order.order
    c.loop-line.invariant c.in-Some.ensures.some c.in-Some-next_order.ensures.some.0 (rw c.deref.ensures.value at c.in-Some-next_order.ensures.some.1))

pub returns-clause-ok : goal.returns-clause-ok
returns-clause-ok c = read_all c.args.text.now c.loop-line.rest.now c.loop-line.orders.items c.loop-line.invariant (c.in_default.ensures.none refl)

pub returns-clause-bad : goal.returns-clause-bad
returns-clause-bad c = λ n is. absurd (no_fault _ _ is)

pub returns-clause-known : goal.returns-clause-known
returns-clause-known c = (no_fault _ _, no_fault _ _)

pub returns-in_default-next_order-clause-known : goal.returns-in_default-next_order-clause-known
returns-in_default-next_order-clause-known c = not_of_all _ _ refl

use Rattle.std.proofs.Common.{refl}
use Rattle.trau_orders.proofs.line.of_two.Goals as goal

pub returns-then-is_word-clause-some : goal.returns-then-is_word-clause-some
returns-then-is_word-clause-some c = record { in_range = c.in_ok-call.ensures.some.0; spelled = rw (c.if-is_word.ensures.yes refl, c.in_ok-call.ensures.some.1) refl }

pub returns-then-is_word-2-clause-some : goal.returns-then-is_word-2-clause-some
returns-then-is_word-2-clause-some c = record { in_range = c.in_ok-call.ensures.some.0; spelled = rw (c.if-is_word-2.ensures.yes refl, c.in_ok-call.ensures.some.1) refl }

pub returns-then-is_word-3-clause-some : goal.returns-then-is_word-3-clause-some
returns-then-is_word-3-clause-some c = record { in_range = c.in_ok-call.ensures.some.0; spelled = rw (c.if-is_word-3.ensures.yes refl, c.in_ok-call.ensures.some.1) refl }

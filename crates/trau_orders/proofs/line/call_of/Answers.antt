use Rattle.std.proofs.Common.{rules}
use Rattle.trau_orders.proofs.line.call_of.Goals as goal

pub returns-clause-some : goal.returns-clause-some
returns-clause-some c = search rules

pub returns-clause-none : goal.returns-clause-none
returns-clause-none c = λ none call named spelled. c.number_of_octets.ensures.none none call
    (record { at_least = named.0; at_most = named.1; spelled = spelled })

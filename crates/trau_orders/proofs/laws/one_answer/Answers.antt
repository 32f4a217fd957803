use Rattle.trau_orders.proofs.Reading.{one_list}
use Rattle.trau_orders.proofs.FirstBad.{good_or_bad, one_first}
use Rattle.trau_orders.proofs.laws.one_answer.Goals as goal

pub returns-clause-orders : goal.returns-clause-orders
returns-clause-orders c = one_list

pub returns-clause-good : goal.returns-clause-good
returns-clause-good c = good_or_bad

pub returns-clause-first : goal.returns-clause-first
returns-clause-first c = one_first

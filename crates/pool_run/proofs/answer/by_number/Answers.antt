use Rattle.std.proofs.Common.{rules}
use Rattle.std.proofs.lemmas.List.Sorted.{IsNonDecreasingBy-from_sort_by_key}
use Rattle.pool_run.specs.declared.deque.Task.{Task}
use Rattle.pool_run.proofs.answer.by_number.Goals as goal

pub returns-clause-order : goal.returns-clause-order
returns-clause-order g c =
    IsNonDecreasingBy-from_sort_by_key (λ (t : Task g.row.W.Denot). t.number) _ c.sort_unstable_by_key.ensures.sorted (λ a r q k. search rules)

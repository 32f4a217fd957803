use Rattle.trau_files.proofs.Apart.{apart_of_none}
use Rattle.trau_files.proofs.BayLaws.{all_none, cloned_none}
use Rattle.trau_files.proofs.trunk.claims.Claims.new.Goals as goal

pub invariant_of-result : goal.invariant_of-result
invariant_of-result g c = (
  c.in_ok-of_lines.ensures.len,
  apart_of_none _ (all_none 16388 _ (c.in_ok-of_lines.ensures.items_if_clones_equal (cloned_none _ (λ x clone. clone)))),
)

pub returns-clause-none : goal.returns-clause-none
returns-clause-none g c = all_none 16388 _ (c.in_ok-of_lines.ensures.items_if_clones_equal (cloned_none _ (λ x clone. clone)))

pub returns-clause-apart : goal.returns-clause-apart
returns-clause-apart g c = apart_of_none _ (returns-clause-none g c)

use Rattle.trau_files.proofs.Searching.{none_noted}
use Rattle.trau_files.proofs.BayLaws.{all_none, cloned_none}
use Rattle.trau_files.proofs.trunk.recordings.Recordings.new.Goals as goal

pub invariant_of-result : goal.invariant_of-result
invariant_of-result g c = (
  c.in_ok-of_lines.ensures.len,
  none_noted g.D.Folder.does _ (all_none 16388 _ (c.in_ok-of_lines.ensures.items_if_clones_equal (cloned_none _ (λ x clone. clone)))),
  λ searched. let never : ⊥ = cc in absurd never,
)

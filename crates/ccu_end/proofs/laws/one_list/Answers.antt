use Rattle.ccu_end.proofs.Once.{same_found}
use Rattle.ccu_end.proofs.laws.one_list.Goals as goal

pub returns : goal.returns
returns c = λ bits fs gs a b. same_found bits 0 fs gs a b

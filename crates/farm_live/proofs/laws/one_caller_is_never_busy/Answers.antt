use Rattle.std.proofs.Common.{ap, arith}
use Rattle.trau_num.specs.Weights.{weigh}
use Rattle.farm_live.proofs.Weights.{all_callers_are}
use Rattle.farm_live.proofs.laws.one_caller_is_never_busy.Goals as goal

pub returns : goal.returns
returns c = λ v w are missed.
    let all = all_callers_are in
    let fewer = missed.others in
    let count = ap (weigh (λ _. 1)) are in
    omega arith

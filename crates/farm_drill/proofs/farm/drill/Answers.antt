use Rattle.farm_drill.proofs.Setting.{none_set}
use Rattle.farm_drill.proofs.farm.drill.Goals as goal

pub returns-clause-lines : goal.returns-clause-lines
returns-clause-lines c =
    c.in_ok-set_calls.ensures (none_set c.args.seed c.args.periods c.in_ok-trunk.trunk c.in_ok-trunk.ensures.number c.in_ok-trunk.ensures.each)

use Rattle.trau_submux.specs.Splits.{split_machine}
use Rattle.farm_top.proofs.Carrying.{ends_with}
use Rattle.farm_top.proofs.lines.carry_split.Goals as goal

pub returns : goal.returns
returns g c =
    ends_with split_machine _ _ _ _ c.args.call _ _ c.status_of_end.ensures c.split-end.ensures.runs c.split-end.ensures.causes c.split-end.ensures.clean

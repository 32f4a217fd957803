use Rattle.farm_tools.specs.Machines.{machine_of}
use Rattle.farm_top.proofs.Carrying.{ends_with}
use Rattle.farm_top.proofs.lines.carry_tool.Goals as goal

pub returns : goal.returns
returns g c =
    ends_with (machine_of c.args.tool) _ _ _ _ c.args.call _ _ c.status_of_end.ensures
    c.run_tool-end.ensures.runs c.run_tool-end.ensures.causes c.run_tool-end.ensures.clean

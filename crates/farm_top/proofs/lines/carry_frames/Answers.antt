use Rattle.frame_listing.specs.Machine.{frames_machine}
use Rattle.farm_top.proofs.Carrying.{ends_with}
use Rattle.farm_top.proofs.lines.carry_frames.Goals as goal

pub returns : goal.returns
returns g c =
    ends_with frames_machine _ _ _ _ c.args.call _ _ c.status_of_end.ensures c.frames-end.ensures.runs c.frames-end.ensures.causes c.frames-end.ensures.clean

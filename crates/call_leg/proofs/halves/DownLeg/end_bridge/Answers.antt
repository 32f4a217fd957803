use Rattle.std.proofs.Common.{ap, ◌∙◌, not, false, ◌||◌, if◌then◌else◌}
use Rattle.time_align.specs.Memory.{AlignMemory}
use Rattle.time_align.specs.Step.{after_thaw}
use Rattle.call_leg.specs.Memory.{down_memory}
use Rattle.call_leg.specs.Step.{bridge_over}
use Rattle.call_leg.proofs.halves.DownLeg.end_bridge.Goals as goal

pub returns : goal.returns
returns c =
    let side = c.self.inside.side in
    ap (λ (m : AlignMemory). record (down_memory side) { align = m; bridged = false })
    (c.thaw_at_end.ensures ∙ ap (λ w. if false || not w then side.align else after_thaw side.align) c.is_empty-waits.ensures)
    ∙ ap bridge_over c.self.view_is

use Rattle.std.proofs.Common.{sym, ap, ◌∙◌}
use Rattle.call_leg.specs.Memory.{DownMemory, down_memory}
use Rattle.call_leg.specs.Step.{with_framer, down_worked}
use Rattle.call_leg.proofs.Downlink.Stepping.{half-step}
use Rattle.call_leg.proofs.halves.DownLeg.half.Goals as goal

pub returns : goal.returns
returns c =
    let old = down_memory c.self.inside.side in
    ap (λ (d : DownMemory). down_worked d c.args.pcm.now) (sym c.self.view_is) ∙
    half-step old (with_framer old c.put.new.self) (down_memory c.try_frame.new.self) (down_memory c.try_frame-2.new.self) _ c.args.pcm.now _
    (ap (with_framer old) c.put.ensures.step) c.try_frame.ensures.step c.try_frame-2.ensures.step
    (ap (with_framer (down_memory c.try_frame-2.new.self)) c.take.ensures.step) c.take.ensures.bits

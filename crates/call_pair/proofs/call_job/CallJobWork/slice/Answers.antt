use Rattle.std.proofs.Common.{◌≡◌, ◌<◌, ◌∙◌, true, sym, ap, arith}
use Rattle.call_pair.specs.Periods.{has_period}
use Rattle.call_pair.specs.Phases.{CallMemory, periods_left}
use Rattle.call_pair.proofs.Turns.{some_left, call_place_left, phase_end-call_place, call_place_call}
use Rattle.call_pair.proofs.call_job.CallJobWork.slice.Goals as goal

pub loop-preserved : goal.loop-preserved
loop-preserved c =
    let j = c.loop.self in
    let old = c.loop.invariant in
    let place : has_period j.io ≡ true = ap (λ (m : CallMemory). has_period m.io) (sym c.self.view_is) ∙ sym c.has_period.ensures ∙ c.if-not-has_period.false in
    let some : 0 < periods_left j = some_left j.io.done j.io.given place in
    rw c.turn.ensures (record {
      left = omega (arith, old.left, call_place_left j some);
      finish = phase_end-call_place j some ∙ old.finish;
      call = call_place_call j ∙ old.call;
    })

use Rattle.std.proofs.Common.{ap, ◌∙◌, ◌++◌, arith, map}
use Rattle.round_lines.specs.Memory.{failed_in_round, line_name}
use Rattle.round_lines.specs.Portions.{PortionMemory}
use Rattle.round_lines.proofs.Listing.{appended_more}
use Rattle.farm_rounds.specs.declared.open.OpenCall.{OpenCall}
use Rattle.farm_rounds.specs.Opens.{portions_of, portion_of_open}
use Rattle.farm_rounds.proofs.Places.Boxes.{portions_long}
use Rattle.farm_rounds.proofs.Places.Listed.{portion_listed}
use Rattle.farm_rounds.proofs.calls.list_failed.Goals as goal

pub loop-call-preserved : goal.loop-call-preserved
loop-call-preserved c =
    let i = c.loop-call.invariant in
    let new = c.list_failed.ensures in
    let calls = c.args.calls.now in
    let k = c.loop-call.call-index in
    let portion = portion_of_open c.call-item.result.value in
    record {
      listed = appended_more (λ (s : PortionMemory). failed_in_round s.lines) (portions_of calls) k _ _ _ portion (omega (arith, c.loop-call-test.true, portions_long calls))
          (portion_listed calls k c.call-item.result portion c.loop-call-test.true c.call-item.is)
          (new.listed ∙ ap (λ (o : OpenCall). map line_name c.loop-call.failed.items ++ failed_in_round o.lines) c.deref.ensures) i.listed;
      few = omega (arith, new.length, i.few);
      room = new.capacity ∙ i.room;
    }

use Rattle.std.proofs.Common.{◌<◌, length, ap, ◌∙◌, refl, arith}
use Rattle.std.proofs.lemmas.List.{length-set}
use Rattle.farm_rounds.specs.Opens.{open_rested}
use Rattle.farm_rounds.proofs.Places.Boxes.{changed_next, changed_all, at_read, at_set, at_other}
use Rattle.farm_rounds.proofs.calls.rest_all.Goals as goal

pub loop-call-preserved : goal.loop-call-preserved
loop-call-preserved c =
    let now = c.loop-call.calls in
    let i = c.loop-call.call-index in
    let live = c.args.live.now in
    let l : i < length now = omega (arith, c.loop-call-test.true, c.loop-call.invariant.long) in
    changed_next (λ k. open_rested live) c.args.calls.now now _ i c.loop-call.invariant
    (at_set now i _ l ∙ c.rest.ensures ∙ ap (open_rested live) (c.deref_mut.ensures.value ∙ at_read now i _ l))
    (λ k ne. at_other now i k _ ne) (length-set now i _)

pub returns : goal.returns
returns c =
    changed_all (λ k. open_rested c.args.live.now) (open_rested c.args.live.now) c.args.calls.now c.loop-call.calls c.loop-call.call-index
    c.loop-call.invariant (omega (arith, c.loop-call-test.false)) (λ k l. refl)

use Rattle.std.proofs.Common.{sym, ap, ◌∙◌, subst, map}
use Rattle.std.proofs.lemmas.List.{take_all}
use Rattle.call_number.specs.CallNumber.{IsCallNumber}
use Rattle.farm_rounds.specs.Numbers.{IsRising}
use Rattle.farm_run.specs.Marking.{entry_of}
use Rattle.farm_run.proofs.Reported.LastEnds.{all_among}
use Rattle.farm_run.proofs.Marked.Calls.{entry_more}
use Rattle.farm_run.proofs.marking.mark_calls.Goals as goal

pub mark_call-requires : goal.mark_call-requires
mark_call-requires c =
    let matches = c.requires.clock.matches in
    all_among IsCallNumber c.live_calls-live.result.now (λ d q. matches.number d (sym (matches.is_open d) ∙ sym (c.live_calls-live.ensures.calls d) ∙ q))
    c.loop-call.call-index 0 c.loop-call-test.true

pub loop-call-preserved : goal.loop-call-preserved
loop-call-preserved c =
    entry_more c.args.stage.now c.live_calls-live.result.now c.loop-call.call-index c.loop-call.calls.items c.push.new.self.items c.mark_call.result
    c.loop-call-test.true c.loop-call.invariant c.mark_call.ensures c.in_ok-push.ensures.items

pub returns-clause-calls : goal.returns-clause-calls
returns-clause-calls c =
    c.loop-call.invariant ∙ ap (map (entry_of c.args.stage.now)) (take_all c.loop-call.call-index c.live_calls-live.result.now c.loop-call-test.false
    ∙ c.live_calls-live.ensures.value)

pub returns-in_err-push-clause-rising : goal.returns-in_err-push-clause-rising
returns-in_err-push-clause-rising c = subst IsRising c.live_calls-live.ensures.value c.live_calls-live.ensures.rising

pub returns-clause-rising : goal.returns-clause-rising
returns-clause-rising c = subst IsRising c.live_calls-live.ensures.value c.live_calls-live.ensures.rising

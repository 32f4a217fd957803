use Rattle.std.proofs.Common.{◌≡◌, sym, ◌∙◌, ℕ, true}
use Rattle.std.proofs.lemmas.Result.{IfOk-weaker}
use Rattle.switchboard.specs.Open.{open_now}
use Rattle.farm_rounds.specs.Numbers.{is_among}
use Rattle.farm_run.proofs.Reported.LastEnds.{all_among, reported_ok}
use Rattle.farm_run.proofs.finish.finish.Goals as goal

pub end_all-requires-clause-open : goal.end_all-requires-clause-open
end_all-requires-clause-open c = all_among (λ d. open_now c.args.last.board d ≡ true) c.live_calls.result.now
    (λ d q. sym (c.requires.stage.clock.matches.is_open d) ∙ sym (c.live_calls.ensures.calls d) ∙ q)

pub returns-clause-reports : goal.returns-clause-reports
returns-clause-reports c =
    let calls = c.live_calls.result.now in
    let ended = c.end_all.ensures in
    let among : (d : ℕ) → is_among calls d ≡ open_now c.args.last.board d = λ d. c.live_calls.ensures.calls d ∙ c.requires.stage.clock.matches.is_open d in
    reported_ok c.args.last.board c.end_all.new.board c.args.last.farm c.args.last.notes calls c.args.orders c.args.last.clock c.report.result among
    ended.told (ended.none among) c.report.ensures

pub end_all-requires-clause-rising : goal.end_all-requires-clause-rising
end_all-requires-clause-rising c = c.live_calls.ensures.rising

pub returns-clause-failed : goal.returns-clause-failed
returns-clause-failed c = IfOk-weaker c.report.result _ _ (λ report h. h.failed) c.report.ensures

pub end_all-requires-clause-late : goal.end_all-requires-clause-late
end_all-requires-clause-late c = c.requires.stage.clock.past

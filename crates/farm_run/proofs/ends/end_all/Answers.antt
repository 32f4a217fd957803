use Rattle.std.proofs.Common.{◌<◌, arith, length, map, get_or}
use Rattle.std.proofs.lemmas.List.{length-map}
use Rattle.farm_run.specs.Ending.{limit_at}
use Rattle.farm_run.proofs.Told.Ends.{limits_apart, limit_there, limits_open, none_open, IsTold, none_told, told_step, told_open}
use Rattle.farm_run.proofs.Told.Ends.{told_late, told_all}
use Rattle.farm_run.proofs.ends.end_all.Goals as goal

pub loop-call-init : goal.loop-call-init
loop-call-init c = none_told c.args.board.now

pub ended-requires-clause-open : goal.ended-requires-clause-open
ended-requires-clause-open c =
    let calls = c.args.calls.now in
    let i = c.loop-call.call-index in
    told_open c.args.board.now c.loop-call.board (map (limit_at c.args.at) calls) i (limit_at c.args.at (get_or calls i 0))
    (limits_apart c.args.at calls c.requires.rising)
    (omega (arith, c.loop-call-test.true, length-map calls (limit_at c.args.at))) (limit_there c.args.at calls i c.loop-call-test.true)
    (c.requires.open i 0 c.loop-call-test.true) c.loop-call.invariant

pub ended-requires-clause-late : goal.ended-requires-clause-late
ended-requires-clause-late c = told_late c.args.board.now c.loop-call.board _ _ c.loop-call.invariant c.requires.late

pub loop-call-preserved : goal.loop-call-preserved
loop-call-preserved c =
    let calls = c.args.calls.now in
    let ends = map (limit_at c.args.at) calls in
    let i = c.loop-call.call-index in
    let e = limit_at c.args.at (get_or calls i 0) in
    let within : i < length ends = omega (arith, c.loop-call-test.true, length-map calls (limit_at c.args.at)) in
    let is = limit_there c.args.at calls i c.loop-call-test.true in
    told_step c.args.board.now c.loop-call.board c.ended.new.self ends i e within is c.ended.ensures.state c.ended.ensures.open c.loop-call.invariant

-- at the loop's end they are all told
all : (c : goal.After-loop-call) → IsTold c.args.board.now c.loop-call.board (map (limit_at c.args.at) c.args.calls.now)
all c = told_all c.args.board.now c.loop-call.board _ c.loop-call.call-index
    (omega (arith, c.loop-call-test.false, length-map c.args.calls.now (limit_at c.args.at))) c.loop-call.invariant

pub returns-clause-told : goal.returns-clause-told
returns-clause-told c = (all c).told

pub returns-clause-open : goal.returns-clause-open
returns-clause-open c = limits_open c.args.board.now c.loop-call.board c.args.at c.args.calls.now (all c)

pub returns-clause-none : goal.returns-clause-none
returns-clause-none c = none_open c.args.board.now c.loop-call.board c.args.at c.args.calls.now (all c)

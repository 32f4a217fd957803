use Rattle.std.proofs.Common.{◌≡◌, ◌≢◌, ◌<◌, refl, sym, ap, ◌∙◌, ℕ, ◌+◌, ◌-◌, ◌≤◌, Option, List, arith}
use Rattle.std.specs.Prelude.{IfSome, min, unwrap_or}
use Rattle.switchboard.specs.State.{first_stamp}
use Rattle.std.proofs.lemmas.Result.{IfOk-from_err, IfOk-weaker}
use Rattle.trau_io.specs.declared.line.Side.{Side}
use Rattle.trau_io.specs.Lines.{LineState}
use Rattle.farm_rounds.specs.Numbers.{is_among}
use Rattle.farm_run.specs.Stages.{Reaches}
use Rattle.farm_run.proofs.Clocks.Idle.{none_among, goes_to, goes_by}
use Rattle.farm_run.proofs.Lines.Cutting.{on_err}
use Rattle.farm_run.proofs.Clocks.Stepping.{ok_both, orders_more, stage_behind, idle_reaches}
use Rattle.farm_run.proofs.clock.step.Goals as goal
use Rattle.farm_run.proofs.clock.step.Given.{Over}

pub execute_orders-requires : goal.execute_orders-requires
execute_orders-requires g c =
    let s = c.requires.stage in
    record { clock = s.clock; few = s.few; bridges = s.bridges; knows = s.knows }

pub returns-then-is_empty-clause-reaches : goal.returns-then-is_empty-clause-reaches
returns-then-is_empty-clause-reaches g c =
    let lines : ℕ → Side → LineState = g.T.Trunk.lines c.args.trunk.now in
    let s = c.args.stage in
    let b = c.execute_orders.new.board in
    let farm = c.execute_orders.new.farm in
    let ns = c.execute_orders.new.notes in
    let o = c.in_ok-execute_orders.ensures.done in
    let to = goes_to c.args.stage.clock c.args.until c.idle_until.result c.next_stamp-next.result _ c.idle_until.ensures c.next_stamp-next.ensures.stamp
    c.requires.before c.in_ok-execute_orders.ensures.next in
    orders_more s b farm ns c.requires.stage o c.args.pace.now.batch _ lines lines to.0
    (idle_reaches c.args.pace.now.batch (record s { board = b; farm = farm; notes = ns }) c.idle_until.result lines
    (stage_behind s b farm ns c.requires.stage o) (omega (arith, to.0)) to.2
    (λ d. sym (c.live_calls.ensures.calls d) ∙ none_among c.live_calls.result.now d (sym c.is_empty.ensures ∙ c.if-is_empty.true)))

-- how far the round goes
goes : (g : Over) (c : goal.After-work_round-arg-1 g) →
    (1 ≤ c.round_periods-periods.result) × (c.round_periods-periods.result ≤ c.args.pace.now.batch)
    × (c.args.stage.clock + c.round_periods-periods.result ≤ c.args.until)
    × IfSome (first_stamp c.execute_orders.new.board.left) (λ s. c.args.stage.clock + c.round_periods-periods.result ≤ s)
goes g c = goes_by c.args.pace.now.batch c.args.stage.clock c.args.until c.round_periods-periods.result c.next_stamp-next.result _
    c.round_periods-periods.ensures c.next_stamp-next.ensures.stamp c.requires.pace.some_periods c.requires.before c.in_ok-execute_orders.ensures.next

pub work_round-requires-clause-stage : goal.work_round-requires-clause-stage
work_round-requires-clause-stage g c κs lives =
    stage_behind c.args.stage _ _ _ c.requires.stage c.in_ok-execute_orders.ensures.done

pub work_round-requires-clause-live : goal.work_round-requires-clause-live
work_round-requires-clause-live g c κs lives = λ d. ap (λ (xs : List ℕ). is_among xs d) (sym c.live_calls.ensures.value) ∙ c.live_calls.ensures.calls d

pub work_round-requires-clause-some : goal.work_round-requires-clause-some
work_round-requires-clause-some g c κs lives = let by = goes g c in by.0

pub work_round-requires-clause-few : goal.work_round-requires-clause-few
work_round-requires-clause-few g c κs lives = let by = goes g c in by.1

pub work_round-requires-clause-within : goal.work_round-requires-clause-within
work_round-requires-clause-within g c κs lives = let by = goes g c in omega (arith, by.2)

pub work_round-requires-clause-clear : goal.work_round-requires-clause-clear
work_round-requires-clause-clear g c κs lives = let by = goes g c in by.3

-- how far the round went
went : (g : Over) (c : goal.After-work_round g) →
    (1 ≤ c.round_periods-periods.result) × (c.round_periods-periods.result ≤ c.args.pace.now.batch)
    × (c.args.stage.clock + c.round_periods-periods.result ≤ c.args.until)
    × IfSome (first_stamp c.execute_orders.new.board.left) (λ s. c.args.stage.clock + c.round_periods-periods.result ≤ s)
went g c = goes_by c.args.pace.now.batch c.args.stage.clock c.args.until c.round_periods-periods.result c.next_stamp-next.result _
    c.round_periods-periods.ensures c.next_stamp-next.ensures.stamp c.requires.pace.some_periods c.requires.before c.in_ok-execute_orders.ensures.next

pub returns-clause-reaches : goal.returns-clause-reaches
returns-clause-reaches g c =
    let before : ℕ → Side → LineState = g.T.Trunk.lines c.args.trunk.now in
    let now : ℕ → Side → LineState = g.T.Trunk.lines c.work_round.new.trunk in
    let s = c.args.stage in
    let b = c.execute_orders.new.board in
    let farm = c.execute_orders.new.farm in
    let ns = c.execute_orders.new.notes in
    let o = c.in_ok-execute_orders.ensures.done in
    let some = went g c in
    ok_both (λ after. after.clock ≡ c.args.stage.clock + c.round_periods-periods.result)
    (λ after. Reaches c.args.pace.now.batch (record c.args.stage {
      board = c.execute_orders.new.board;
      farm = c.execute_orders.new.farm;
      notes = c.execute_orders.new.notes;
    }) after (g.T.Trunk.lines c.args.trunk.now) (g.T.Trunk.lines c.work_round.new.trunk))
    (λ after. Reaches c.args.pace.now.batch c.args.stage after (g.T.Trunk.lines c.args.trunk.now) (g.T.Trunk.lines c.work_round.new.trunk)) c.work_round.result
    (λ after clock reaches. orders_more s b farm ns c.requires.stage o c.args.pace.now.batch after before now
    (omega (arith, clock, some.0)) reaches) c.work_round.ensures.clock c.work_round.ensures.reaches

pub returns-in_err-execute_orders : goal.returns-in_err-execute_orders
returns-in_err-execute_orders g c =
    let no = c.from_residual.ensures.0 in
    record {
      idle = IfOk-from_err _ _ no;
      round = IfOk-from_err _ _ no;
      later = IfOk-from_err _ _ no;
      within = IfOk-from_err _ _ no;
      reaches = IfOk-from_err _ _ no;
      cut = on_err _ refl;
    }

pub returns-then-is_empty-clause-later : goal.returns-then-is_empty-clause-later
returns-then-is_empty-clause-later g c =
    let to = goes_to c.args.stage.clock c.args.until c.idle_until.result c.next_stamp-next.result _ c.idle_until.ensures c.next_stamp-next.ensures.stamp
    c.requires.before c.in_ok-execute_orders.ensures.next in
    to.0

pub returns-then-is_empty-clause-within : goal.returns-then-is_empty-clause-within
returns-then-is_empty-clause-within g c =
    let to = goes_to c.args.stage.clock c.args.until c.idle_until.result c.next_stamp-next.result _ c.idle_until.ensures c.next_stamp-next.ensures.stamp
    c.requires.before c.in_ok-execute_orders.ensures.next in
    to.1

pub returns-clause-later : goal.returns-clause-later
returns-clause-later g c =
    let some = went g c in
    IfOk-weaker c.work_round.result (λ after. after.clock ≡ c.args.stage.clock + c.round_periods-periods.result) (λ after. c.args.stage.clock < after.clock)
    (λ after e. omega (arith, e, some.0)) c.work_round.ensures.clock

pub returns-clause-within : goal.returns-clause-within
returns-clause-within g c =
    let some = went g c in
    IfOk-weaker c.work_round.result (λ after. after.clock ≡ c.args.stage.clock + c.round_periods-periods.result) (λ after. after.clock ≤ c.args.until)
    (λ after e. omega (arith, e, some.2)) c.work_round.ensures.clock

pub returns-clause-cut : goal.returns-clause-cut
returns-clause-cut g c = c.work_round.ensures.cut

pub returns-then-is_empty-clause-idle : goal.returns-then-is_empty-clause-idle
returns-then-is_empty-clause-idle g c = λ same.
    c.idle_until.ensures ∙ ap (λ (o : Option ℕ). min (unwrap_or o c.args.until) c.args.until) c.next_stamp-next.ensures.stamp

-- a round that is processed ends later than the one before
pub returns-clause-idle : goal.returns-clause-idle
returns-clause-idle g c =
    let some = went g c in
    let before = c.requires.stage.ended in
    IfOk-weaker c.work_round.result (λ after. after.farm.ended ≡ c.args.stage.clock + c.round_periods-periods.result)
    (λ after. after.farm.ended ≡ c.args.stage.farm.ended →
    after.clock ≡ min (unwrap_or (first_stamp after.board.left) c.args.until) c.args.until)
    (λ after e same. absurd (omega (arith, e, same, some.0, before))) c.work_round.ensures.ended

pub returns-then-is_empty-clause-round : goal.returns-then-is_empty-clause-round
returns-then-is_empty-clause-round g c = λ other. absurd (other c.in_ok-execute_orders.ensures.done.ended)

pub returns-clause-round : goal.returns-clause-round
returns-clause-round g c =
    let n = c.round_periods-periods.ensures in
    let stamp = c.next_stamp-next.ensures.stamp in
    let t = c.args.stage.clock in
    let until = c.args.until in
    let batch = c.args.pace.now.batch in
    ok_both (λ after. after.clock ≡ t + c.round_periods-periods.result) (λ after. after.board.left ≡ c.execute_orders.new.board.left)
    (λ after. after.farm.ended ≢ c.args.stage.farm.ended →
    after.clock ≡ t + min batch (min (unwrap_or (first_stamp after.board.left) until) until - t)) c.work_round.result
    (λ after clock left other. clock ∙ ap (λ (k : ℕ). t + k) n
    ∙ ap (λ (o : Option ℕ). t + min batch (min (unwrap_or o until) until - t)) (stamp ∙ sym (ap first_stamp left))) c.work_round.ensures.clock
    c.work_round.ensures.left

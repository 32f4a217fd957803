use Rattle.std.proofs.Common.{◌≡◌, ◌+◌, length, arith}
use Rattle.live_run.proofs.Behind.{first_behind, renumbered, after_round, posted_all}
use Rattle.live_run.proofs.posters.post_periods.Goals as goal

pub loop-period-init : goal.loop-period-init
loop-period-init g c = let d = c.args.shared.now.drill in record {
  farm = c.requires.farm;
  behind = first_behind d.seed d.calls d.callers c.args.caller.now.number c.args.caller.now c.in_ok-draws.draws.items c.requires.posted
      c.in_ok-draws.ensures.count c.in_ok-draws.ensures.each;
}

pub post_round-requires-clause-size : goal.post_round-requires-clause-size
post_round-requires-clause-size g c = c.requires.size

pub post_round-requires-clause-period : goal.post_round-requires-clause-period
post_round-requires-clause-period g c = omega (arith, c.loop-period-test.true, c.requires.size.periods)

pub post_round-requires-clause-calls : goal.post_round-requires-clause-calls
post_round-requires-clause-calls g c = c.requires.calls

pub post_round-requires-clause-farm : goal.post_round-requires-clause-farm
post_round-requires-clause-farm g c = c.loop-period.invariant.farm

pub returns-in_err-post_round-clause-farm : goal.returns-in_err-post_round-clause-farm
returns-in_err-post_round-clause-farm g c = c.post_round.ensures.farm

pub returns-clause-farm : goal.returns-clause-farm
returns-clause-farm g c = c.loop-period.invariant.farm

pub post_round-requires-clause-behind : goal.post_round-requires-clause-behind
post_round-requires-clause-behind g c =
    let d = c.args.shared.now.drill in
    renumbered d.seed d.calls d.callers c.args.caller.now.number (λ _. c.loop-period.period) c.loop-period.caller c.loop-period.draws.items
    c.as_mut_slice-each.result.now c.as_mut_slice-each.ensures.value c.loop-period.invariant.behind

pub loop-period-preserved : goal.loop-period-preserved
loop-period-preserved g c =
    let d = c.args.shared.now.drill in
    let n = c.loop-period.period in
    let before = c.loop-period.draws.items in
    let long : c.loop-period.draws.len ≡ length before = omega (arith, c.loop-period.draws.ok.0) in record {
      farm = c.post_round.ensures.farm;
      behind = after_round d.seed d.calls d.callers c.args.caller.now.number (λ _. n)
          (λ _. n + 1) c.loop-period.caller c.post_round.new.caller before c.post_round.new.draws c.loop-period.draws.len long
          c.loop-period.invariant.behind c.in_ok-post_round.ensures.behind;
    }

pub returns-clause-posted : goal.returns-clause-posted
returns-clause-posted g c =
    let d = c.args.shared.now.drill in
    let all : c.loop-period.period ≡ d.periods = omega (arith, c.loop-period-test.false, c.loop-period.auto.period-end) in
    posted_all d.seed d.calls d.callers c.args.caller.now.number c.loop-period.period d.periods c.loop-period.caller c.loop-period.draws.items all
    c.loop-period.invariant.behind

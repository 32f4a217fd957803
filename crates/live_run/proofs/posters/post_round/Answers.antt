use Rattle.std.proofs.Common.{◌≡◌, arith}
use Rattle.live_run.proofs.Behind.{round_begins, round_ends, knows_here, drawn_here, one_more}
use Rattle.live_run.proofs.posters.post_round.Goals as goal

pub loop-k-init : goal.loop-k-init
loop-k-init g c = let d = c.args.shared.now.drill in record {
  farm = c.requires.farm;
  behind = round_begins d.seed d.calls d.callers c.args.caller.now.number c.args.period c.args.caller.now c.args.draws.now c.requires.behind;
}

pub post_own-requires-clause-knows : goal.post_own-requires-clause-knows
post_own-requires-clause-knows g c =
    let d = c.args.shared.now.drill in
    knows_here d.seed d.calls d.callers c.args.caller.now.number c.args.period c.loop-k.k c.loop-k.caller c.loop-k.draws c.loop-k-test.true
    c.loop-k.invariant.behind

pub post_own-requires-clause-drawn : goal.post_own-requires-clause-drawn
post_own-requires-clause-drawn g c =
    let d = c.args.shared.now.drill in
    drawn_here d.seed d.calls d.callers c.args.caller.now.number c.args.period c.loop-k.k c.loop-k.caller c.loop-k.draws _ c.loop-k-test.true
    c.loop-k.invariant.behind

pub loop-k-preserved : goal.loop-k-preserved
loop-k-preserved g c = let d = c.args.shared.now.drill in record {
  farm = c.post_own.ensures.farm;
  behind = one_more d.seed d.calls d.callers c.args.caller.now.number c.args.period c.loop-k.k c.loop-k.caller c.post_own.new.caller c.loop-k.draws
      c.post_own.new.draws c.loop-k-test.true
      c.loop-k.invariant.behind c.in_ok-post_own.ensures.posted c.in_ok-post_own.ensures.drawn;
}

pub returns-clause-behind : goal.returns-clause-behind
returns-clause-behind g c =
    let d = c.args.shared.now.drill in
    let all : c.loop-k.k ≡ d.calls = omega (arith, c.loop-k-test.false, c.loop-k.auto.k-end) in
    round_ends d.seed d.calls d.callers c.args.caller.now.number c.args.period c.loop-k.k c.loop-k.caller c.loop-k.draws all c.loop-k.invariant.behind

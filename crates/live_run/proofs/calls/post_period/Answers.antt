use Rattle.std.proofs.Common.{arith}
use Rattle.live_run.proofs.Moving.{few_still, moves_none, post_accepted, post_refused}
use Rattle.live_run.proofs.calls.post_period.Goals as goal

pub overflow_add-k : goal.overflow_add-k
overflow_add-k g c = omega (arith, c.requires.few)

pub loop-init : goal.loop-init
loop-init g c = record { farm = c.requires.farm; stays = moves_none c.args.k c.args.caller.now }

pub overflow_add-k-in-loop : goal.overflow_add-k-in-loop
overflow_add-k-in-loop g c = omega (arith, c.requires.few)

pub post-requires-clause-call : goal.post-requires-clause-call
post-requires-clause-call g c = (omega arith, omega (arith, c.requires.call))

pub post-requires-clause-farm : goal.post-requires-clause-farm
post-requires-clause-farm g c = c.loop.invariant.farm

pub post-requires-clause-few : goal.post-requires-clause-few
post-requires-clause-few g c = few_still c.args.k c.args.caller.now c.loop.caller 16777216 c.loop.invariant.stays c.requires.posts

pub overflow_add-k-in-Ok : goal.overflow_add-k-in-Ok
overflow_add-k-in-Ok g c = omega (arith, c.requires.few)

pub returns-in-Ok-clause-farm : goal.returns-in-Ok-clause-farm
returns-in-Ok-clause-farm g c = c.post.ensures.farm

pub returns-in-Ok-clause-posted : goal.returns-in-Ok-clause-posted
returns-in-Ok-clause-posted g c =
    post_accepted c.args.k _ c.args.up.now c.args.pcm.now c.args.caller.now c.loop.caller c.post.new.caller c.loop.invariant.stays c.in-Ok.ensures.answer

pub make_way-requires-clause-call : goal.make_way-requires-clause-call
make_way-requires-clause-call g c = c.requires.call

pub make_way-requires-clause-few : goal.make_way-requires-clause-few
make_way-requires-clause-few g c = c.requires.few

pub make_way-requires-clause-farm : goal.make_way-requires-clause-farm
make_way-requires-clause-farm g c = c.post.ensures.farm

pub loop-preserved : goal.loop-preserved
loop-preserved g c = record {
  farm = c.make_way.ensures.farm;
  stays = post_refused c.args.k c.args.up.now c.args.pcm.now c.in-Err.fault c.args.caller.now c.loop.caller c.post.new.caller c.make_way.new.caller
      c.loop.invariant.stays c.in-Err.ensures.answer c.make_way.ensures.stays;
}

pub returns-in_err-make_way-in-Err-clause-farm : goal.returns-in_err-make_way-in-Err-clause-farm
returns-in_err-make_way-in-Err-clause-farm g c = c.make_way.ensures.farm

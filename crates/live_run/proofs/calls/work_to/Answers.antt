use Rattle.std.proofs.Common.{arith}
use Rattle.farm_live.specs.declared.turns.Look.TheVariants as look
use Rattle.live_run.proofs.Moving.{stays_on, look_on, look_found, moves_none}
use Rattle.live_run.proofs.calls.work_to.Goals as goal

pub loop-init : goal.loop-init
loop-init g c = record { farm = c.requires.farm; stays = moves_none c.args.k c.args.caller.now }

pub overflow_add-k : goal.overflow_add-k
overflow_add-k g c = omega (arith, c.requires.few)

pub read-requires-clause-call : goal.read-requires-clause-call
read-requires-clause-call g c = (omega arith, omega (arith, c.requires.call))

pub read-requires-clause-farm : goal.read-requires-clause-farm
read-requires-clause-farm g c = c.loop.invariant.farm

pub returns-in-Found-clause-farm : goal.returns-in-Found-clause-farm
returns-in-Found-clause-farm g c = c.read.ensures.farm

pub returns-in-Found-clause-stays : goal.returns-in-Found-clause-stays
returns-in-Found-clause-stays g c =
    look_on c.args.k c.args.of c.args.number (look.Found c.in-Found.field-0) c.args.caller.now c.loop.caller c.read.new.caller c.loop.invariant.stays
    c.in-Found.ensures.answer

pub returns-in-Found-clause-found : goal.returns-in-Found-clause-found
returns-in-Found-clause-found g c = look_found c.args.k c.args.of c.args.number c.in-Found.field-0 c.loop.caller c.read.new.caller c.in-Found.ensures.answer

pub work-requires-clause-call : goal.work-requires-clause-call
work-requires-clause-call g c = c.requires.call

pub work-requires-clause-few : goal.work-requires-clause-few
work-requires-clause-few g c = c.requires.few

pub work-requires-clause-farm : goal.work-requires-clause-farm
work-requires-clause-farm g c = c.read.ensures.farm

pub loop-preserved-in-Continue-1 : goal.loop-preserved-in-Continue-1
loop-preserved-in-Continue-1 g c = record {
  farm = c.work.ensures.farm;
  stays = stays_on c.args.k c.args.caller.now c.read.new.caller c.work.new.caller
      (look_on c.args.k c.args.of c.args.number look.NotYet c.args.caller.now c.loop.caller c.read.new.caller c.loop.invariant.stays c.in-NotYet.ensures.answer)
      c.work.ensures.stays;
}

pub returns-in_err-work-in-NotYet-clause-farm : goal.returns-in_err-work-in-NotYet-clause-farm
returns-in_err-work-in-NotYet-clause-farm g c = c.work.ensures.farm

pub returns-in_err-work-in-NotYet-clause-stays : goal.returns-in_err-work-in-NotYet-clause-stays
returns-in_err-work-in-NotYet-clause-stays g c =
    stays_on c.args.k c.args.caller.now c.read.new.caller c.work.new.caller
    (look_on c.args.k c.args.of c.args.number look.NotYet c.args.caller.now c.loop.caller c.read.new.caller c.loop.invariant.stays c.in-NotYet.ensures.answer)
    c.work.ensures.stays

pub loop-preserved : goal.loop-preserved
loop-preserved g c = record {
  farm = c.read.ensures.farm;
  stays = look_on c.args.k c.args.of c.args.number look.Busy c.args.caller.now c.loop.caller c.read.new.caller c.loop.invariant.stays c.in-Busy.ensures.answer;
}

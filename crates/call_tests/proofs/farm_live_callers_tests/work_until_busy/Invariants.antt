use Rattle.farm_live.specs.Live.{IsSeated}
use Rattle.call_tests.proofs.farm_live_callers_tests.work_until_busy.Given as goal

abbrev pub invariant-loop : goal.invariant-loop
invariant-loop g l = IsSeated l.live.inbox l.live.slots.items l.caller

use Rattle.farm_live.specs.Live.{IsSeated}
use Rattle.live_run.specs.Posts.{KeepsPosts, MovesSeat}
use Rattle.live_run.proofs.calls.work_to.Given as goal

-- the posts stay
abbrev pub invariant-loop : goal.invariant-loop
invariant-loop g l = record {
  farm : IsSeated l.shared.live.now.inbox l.shared.live.now.slots.items l.caller;
  stays : MovesSeat KeepsPosts l.k l.fn.caller l.caller;
}

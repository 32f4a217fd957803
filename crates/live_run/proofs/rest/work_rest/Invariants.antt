use Rattle.std.proofs.Common.{ℕ, ◌-◌}
use Rattle.farm_live.specs.Live.{IsSeated}
use Rattle.live_run.specs.Posts.{HasPosted, SawAll}
use Rattle.live_run.proofs.rest.work_rest.Given as goal

abbrev pub invariant-loop-k : goal.invariant-loop-k
invariant-loop-k g l = record {
  farm : IsSeated l.shared.live.now.inbox l.shared.live.now.slots.items l.caller;
  posted : (n i : ℕ) → HasPosted l.shared.drill.seed l.shared.drill.calls l.shared.drill.callers n i l.fn.caller →
      HasPosted l.shared.drill.seed l.shared.drill.calls l.shared.drill.callers n i l.caller;
  saw : SawAll l.shared.drill.callers (l.shared.drill.periods - 1) l.k l.caller;
}

use Rattle.farm_live.specs.Live.{IsSeated}
use Rattle.live_run.specs.Posts.{IsBehind}
use Rattle.live_run.proofs.posters.post_periods.Given as goal

abbrev pub invariant-loop-period : goal.invariant-loop-period
invariant-loop-period g l = record {
  farm : IsSeated l.shared.live.now.inbox l.shared.live.now.slots.items l.caller;
  behind : IsBehind l.shared.drill.seed l.shared.drill.calls l.shared.drill.callers l.fn.caller.number (λ _. l.period) l.caller l.draws.items;
}

use Rattle.farm_live.specs.Live.{IsSeated}
use Rattle.live_run.specs.Posts.{IsBehind}
use Rattle.live_run.proofs.Behind.{and_more}
use Rattle.live_run.proofs.posters.post_round.Given as goal

abbrev pub invariant-loop-k : goal.invariant-loop-k
invariant-loop-k g l = record {
  farm : IsSeated l.shared.live.now.inbox l.shared.live.now.slots.items l.caller;
  behind : IsBehind l.shared.drill.seed l.shared.drill.calls l.shared.drill.callers l.fn.caller.number (and_more l.period l.k) l.caller l.draws;
}

use Rattle.std.proofs.Common.{◌≡◌, false}
use Rattle.crossbeam_queue.specs.Passes.{view, IsSamePass}
use Rattle.farm_live.proofs.turns.close.Given as goal

-- only the count of misses went up
abbrev pub invariant-loop : goal.invariant-loop
invariant-loop g l = IsSamePass l.fn.me l.me × ((view l.me).holds ≡ false) × ((view l.me).callers ≡ (view l.fn.me).callers)
    × ((view l.me).made ≡ (view l.fn.me).made) × ((view l.me).seen ≡ (view l.fn.me).seen) × ((view l.me).is_of ≡ (view l.fn.me).is_of)

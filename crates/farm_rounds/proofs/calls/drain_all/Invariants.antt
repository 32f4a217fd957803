use Rattle.std.proofs.Common.{◌≡◌, ◌≤◌, ℕ, length}
use Rattle.round_lines.specs.Portions.{Drains}
use Rattle.round_lines.specs.Rounds.{Each, KeepsButEach, IsOutgoing}
use Rattle.round_lines.proofs.Each.{SameFrom}
use Rattle.farm_rounds.specs.Opens.{portions_of}
use Rattle.farm_rounds.specs.Opened.{same_calls, open_at}
use Rattle.farm_rounds.proofs.calls.drain_all.Given as goal

abbrev pub invariant-loop-call : goal.invariant-loop-call
invariant-loop-call g l = record {
  drains : Each Drains (g.T.Trunk.lines l.initial.trunk) (g.T.Trunk.lines l.trunk) (portions_of l.initial.calls) (portions_of l.calls) l.call-index;
  others : KeepsButEach IsOutgoing (g.T.Trunk.lines l.initial.trunk) (g.T.Trunk.lines l.trunk) (portions_of l.initial.calls) l.call-index;
  same : SameFrom (portions_of l.initial.calls) (portions_of l.calls) l.call-index;
  kept : same_calls l.calls ≡ same_calls l.initial.calls;
  left : (k : ℕ) → l.call-index ≤ k → open_at l.calls k ≡ open_at l.initial.calls k;
  long : length l.calls ≡ length l.initial.calls;
}

use Rattle.std.proofs.Common.{◌≡◌, ◌≤◌, ℕ, length}
use Rattle.round_lines.specs.Portions.{Fills}
use Rattle.round_lines.specs.Rounds.{Each, KeepsButEach, IsIncoming}
use Rattle.round_lines.proofs.Each.{SameFrom}
use Rattle.farm_rounds.specs.Opens.{portions_of}
use Rattle.farm_rounds.specs.Opened.{same_portions, open_at}
use Rattle.farm_rounds.proofs.calls.fill_all.Given as goal

abbrev pub invariant-loop-call : goal.invariant-loop-call
invariant-loop-call g l = record {
  fills : Each Fills (g.T.Trunk.lines l.initial.trunk) (g.T.Trunk.lines l.trunk) (portions_of l.initial.calls) (portions_of l.calls) l.call-index;
  others : KeepsButEach IsIncoming (g.T.Trunk.lines l.initial.trunk) (g.T.Trunk.lines l.trunk) (portions_of l.initial.calls) l.call-index;
  same : SameFrom (portions_of l.initial.calls) (portions_of l.calls) l.call-index;
  kept : same_portions l.calls ≡ same_portions l.initial.calls;
  left : (k : ℕ) → l.call-index ≤ k → open_at l.calls k ≡ open_at l.initial.calls k;
  long : length l.calls ≡ length l.initial.calls;
}

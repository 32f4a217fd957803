use Rattle.std.proofs.Common.{◌≡◌, ℕ, ◌+◌, ◌*◌, ◌<◌, ◌≤◌, get_or}
use Rattle.trau_frame.proofs.sync.ones_match.Given as goal

abbrev pub invariant-loop-row : goal.invariant-loop-row
invariant-loop-row g l = (k : ℕ) → 1 ≤ k → k < l.row → get_or l.bits (l.o + 16 * k) 0 ≡ 1

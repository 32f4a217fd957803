use Rattle.std.proofs.Common.{◌≡◌, ◌≤◌, ◌+◌, ◌++◌, length, vec_len, vec_capacity}
use Rattle.farm_live.proofs.book.Book.close.Given as goal

-- what isn't moved yet stands behind what is, and has room
abbrev pub invariant-loop-post : goal.invariant-loop-post
invariant-loop-post l = (l.left.items ++ l.inbox.items ≡ l.fn.self.inbox) × (vec_len l.left + length l.inbox.items ≤ vec_capacity l.left)

abbrev pub decreases-loop-post : goal.decreases-loop-post
decreases-loop-post l = length l.inbox.items

-- How many orders are executed, so that there are few bridges.
use Rattle.std.proofs.Common.{◌≡◌, ap, ◌∙◌, ℕ, ◌+◌, ◌<◌, length, map, arith}
use Rattle.std.proofs.lemmas.List.{length-append, length-map}
use Rattle.switchboard.specs.Calls.{Done}
use Rattle.switchboard.specs.State.{State, orders_of}

-- **As many orders are executed as aren't left.**
pub orders_long : (s : State) → length (orders_of s) ≡ length s.done + length s.left
orders_long s = length-append (map (λ (d : Done). d.order) s.done) s.left ∙ ap (λ (n : ℕ). n + length s.left) (length-map s.done (λ (d : Done). d.order))

-- **An order that was left is executed.**
pub one_more : (b n : State) → length n.left + 1 ≡ length b.left → orders_of n ≡ orders_of b →
    (length b.done < length (orders_of b)) × (length n.done ≡ length b.done + 1)
one_more b n fewer kept = (omega (arith, fewer, orders_long b), omega (arith, fewer, orders_long b, orders_long n, ap length kept))

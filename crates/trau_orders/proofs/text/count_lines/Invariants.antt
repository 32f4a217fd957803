use Rattle.std.proofs.Common.{◌≡◌, ◌+◌, ◌≤◌, length}
use Rattle.trau_orders.specs.Text.{text_lines}
use Rattle.trau_orders.proofs.text.count_lines.Given as goal

abbrev pub invariant-loop-after : goal.invariant-loop-after
invariant-loop-after
    l = record { counted : l.count + length (text_lines l.rest) ≡ length (text_lines l.initial.rest); fits : l.count + length l.rest ≤ length l.initial.rest }

abbrev pub decreases-loop-after : goal.decreases-loop-after
decreases-loop-after l = length l.rest

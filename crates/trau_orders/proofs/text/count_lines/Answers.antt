use Rattle.std.proofs.Common.{length, refl, ap, arith, ◌∙◌}
use Rattle.trau_orders.specs.Text.{text_lines}
use Rattle.trau_orders.proofs.TextLines.{no_line}
use Rattle.trau_orders.proofs.text.count_lines.Goals as goal

pub returns : goal.returns
returns c =
    let none = ap length (ap text_lines (c.in_default.ensures.none refl) ∙ no_line) in
    omega (arith, c.loop-after.invariant.counted, none)

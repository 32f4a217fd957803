-- The line for which a text isn't taken (this project's profile).
use Rattle.std.specs.Prelude.{ℕ, List, option_map}
use Rattle.trau_orders.specs.Reasons.{IsFirstFault}
use Rattle.trau_orders.specs.declared.reason.LineFault.{LineFault}
use Rattle.farm_checkpoint.specs.Marks.{MarkView}
use Rattle.farm_checkpoint.specs.Text.{IsFirstBad as IsFirstBadOfMark}
use Rattle.farm_orders.specs.declared.reason.TextFault.{TextFault}
use Rattle.farm_orders.specs.declared.reason.TextFault.TheVariants.{Mark, Orders}
use Rattle.farm_orders.specs.Marked.{HasMark}

-- the first line of orders that isn't in their grammar, and why it isn't
abbrev pub IsFaultOfLines : List ℕ → LineFault → Type 0
IsFaultOfLines text f = IsFirstFault text f.line (option_map (λ word. word.now) f.fault.word) f.fault.expected

abbrev pub IsFaultOfOrders : List ℕ → TextFault → Type 0
IsFaultOfOrders text (Mark n) = ⊥
IsFaultOfOrders text (Orders fault) = IsFaultOfLines text fault

-- the first line of a mark that isn't in its grammar, or after a mark the first of the orders
abbrev pub IsFaultOfMarked : List ℕ → TextFault → Type 0
IsFaultOfMarked text (Mark n) = IsFirstBadOfMark text n
IsFaultOfMarked text (Orders fault) = (mark : MarkView) × ((orders : List ℕ) × (HasMark text mark orders × IsFaultOfLines orders fault))

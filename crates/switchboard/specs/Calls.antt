-- Which calls are open, and their laws. Lists of executed orders begin with the oldest.
use Rattle.std.specs.Prelude.{ℕ, ◌+◌, Bool, false, not, ◌&&◌, ◌==◌, nat_lt, Option, Some, None, is_some, option_map, find, Result, Ok, List}
use Rattle.trau_alaw.specs.declared.Law.{Law}
use Rattle.trau_alaw.specs.declared.Law.TheVariants.{A}
use Rattle.trau_orders.specs.declared.order.Order.{Order}
use Rattle.switchboard.specs.declared.act.Act.{Act}
use Rattle.switchboard.specs.declared.act.Act.TheVariants as act
use Rattle.switchboard.specs.declared.act.Refusal.{Refusal}

-- an executed order, and whether it was accepted or refused
pub record Done : Type 0 where
  pub order : Order
  pub result : Result Act Refusal

-- the call that an order opened
abbrev pub opened_by : Result Act Refusal → Option ℕ
opened_by (Ok (act.Opened c law)) = Some c
opened_by _ = None

-- the law that an order opened its call with; A-law if it opened none
abbrev pub law_by : Result Act Refusal → Law
law_by (Ok (act.Opened c law)) = law
law_by _ = A

-- the call that an order closed
abbrev pub closed_by : Result Act Refusal → Option ℕ
closed_by (Ok (act.Closed c partner)) = Some c
closed_by _ = None

-- the option holds this number
abbrev pub is_this : ℕ → Option ℕ → Bool
is_this c None = false
is_this c (Some d) = c == d

-- the stamp of the order that opened a call
abbrev pub opened_at : ℕ → List Done → Option ℕ
opened_at c ds = option_map (λ d. d.order.stamp) (find (λ d. is_this c (opened_by d.result)) ds)

-- A call's law is that of the order that opened it; A-law if none did.
abbrev pub law_at : ℕ → List Done → Law
law_at c ds = elim (find (λ d. is_this c (opened_by d.result)) ds) [
  | None ↦ A
  | Some d ↦ law_by d.result
]

-- the stamp of the order that closed a call
abbrev pub closed_at : ℕ → List Done → Option ℕ
closed_at c ds = option_map (λ d. d.order.stamp) (find (λ d. is_this c (closed_by d.result)) ds)

-- A call is open if an order opened it, none closed it, and it isn't gone: `gone` are the calls that ended without an
-- order.
abbrev pub is_open : (ℕ → Bool) → List Done → ℕ → Bool
is_open gone ds c = is_some (opened_at c ds) && not (is_some (closed_at c ds)) && not (gone c)

-- A call has ended if an order opened it and it isn't open.
abbrev pub has_ended : (ℕ → Bool) → List Done → ℕ → Bool
has_ended gone ds c = is_some (opened_at c ds) && not (is_open gone ds c)

-- A call's natural end is the period at which it was opened plus the `whole` periods that its lines give. The call is
-- gone at period t if its natural end is before t. At its natural end itself it is still open.
abbrev pub gone_at : (ℕ → ℕ) → ℕ → List Done → ℕ → Bool
gone_at whole t ds c = elim (opened_at c ds) [ None ↦ false | Some s ↦ nat_lt (s + whole c) t ]

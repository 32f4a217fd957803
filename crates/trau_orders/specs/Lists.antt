-- Lists of orders, as a text spells them (this project's profile).
use Rattle.std.specs.Prelude.{ℕ, ◌<◌, ◌≤◌, List, length, pos, ◌≤ℤ◌}
use Rattle.std.proofs.Common.{get_or}
use Rattle.call_number.specs.CallNumber.{IsCallNumber}
use Rattle.trau_orders.specs.declared.order.Order.{Order}
use Rattle.trau_orders.specs.declared.order.What.{What}
use Rattle.trau_orders.specs.declared.order.What.TheVariants.{OpenCall, CloseCall, Bridge, Unbridge, Level, Dtx}

-- the numbers of calls that an order names are in their range
abbrev pub NamesCalls : What → Type 0
NamesCalls (OpenCall c law) = IsCallNumber c
NamesCalls (CloseCall c) = IsCallNumber c
NamesCalls (Bridge a b) = IsCallNumber a × IsCallNumber b
NamesCalls (Unbridge c) = IsCallNumber c
NamesCalls (Level c v) = IsCallNumber c
NamesCalls (Dtx c m) = IsCallNumber c

-- a level that is ordered is from 0 to 32,767
abbrev pub HasLevel : What → Type 0
HasLevel (OpenCall c law) = Unit {0}
HasLevel (CloseCall c) = Unit {0}
HasLevel (Bridge a b) = Unit {0}
HasLevel (Unbridge c) = Unit {0}
HasLevel (Level c v) = (pos 0 ≤ℤ v) × (v ≤ℤ pos 32767)
HasLevel (Dtx c m) = Unit {0}

-- at most 65,536 orders, with call numbers, levels and stamps in their ranges, and no stamp below an earlier one
pub record AreOrders (os : List Order) : Type 0 where
  pub few : length os ≤ 65536
  pub calls : (k : ℕ) (d : Order) → k < length os → NamesCalls (get_or os k d).what
  pub levels : (k : ℕ) (d : Order) → k < length os → HasLevel (get_or os k d).what
  pub stamps : (k : ℕ) (d : Order) → k < length os → (get_or os k d).stamp ≤ 4294967294
  pub rising : (i j : ℕ) (d : Order) → i ≤ j → j < length os → (get_or os i d).stamp ≤ (get_or os j d).stamp

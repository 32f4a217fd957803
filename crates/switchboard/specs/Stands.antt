-- How the table reflects the executed orders.
use Rattle.std.specs.Prelude.{◌≡◌, ◌≢◌, ◌+◌, ◌<◌, ◌≤◌, ℕ, true, false, Option, Some, None, is_some, Result, Ok, List, [], ◌∷◌, length, map, drop, slice_index_or}
use Rattle.std.specs.List.{filter_map}
use Rattle.trau_orders.specs.declared.order.Order.{Order}
use Rattle.trau_orders.specs.Lists.{AreOrders}
use Rattle.call_number.specs.declared.TheConstants.{NUMBERS}
use Rattle.switchboard.specs.declared.act.Act.{Act}
use Rattle.switchboard.specs.declared.act.Act.TheVariants as act
use Rattle.switchboard.specs.declared.act.Refusal.{Refusal}
use Rattle.switchboard.specs.declared.act.Reply.{Reply}
use Rattle.switchboard.specs.declared.table.Bridge.{Bridge}
use Rattle.switchboard.specs.Calls.{Done, opened_at, closed_at}
use Rattle.switchboard.specs.Bridges.{bridges, joins, bridge_at}
use Rattle.switchboard.specs.Rows.{Rows, call_in, gone_from_in, bridge_at_place, is_open_in, bridge_end_in, span_in}
use Rattle.switchboard.specs.State.{State, last_stamp, replies_from}

-- a bridge had ended before period t
pub record IsOver (r : Rows) (t : ℕ) (x : Bridge) : Type 0 where
  pub at : ℕ
  pub ended : bridge_end_in r x ≡ Some at
  pub before : at < t

-- the index of the latest bridge of a call
abbrev pub IsLatest : List Bridge → ℕ → Option ℕ → Type 0
IsLatest bs c None = (j : ℕ) → j < length bs → joins c (bridge_at bs j) ≡ false
IsLatest bs c (Some k) =
    (k < length bs) × (joins c (bridge_at bs k) ≡ true)
    × ((j : ℕ) → k < j → j < length bs → joins c (bridge_at bs j) ≡ false)

-- what holds of a bridge in a table at a time
pub record IsSound (r : Rows) (now : ℕ) (x : Bridge) : Type 0 where
  pub from : x.from ≤ now
  pub apart : x.a ≢ x.b
  pub known : (is_some (call_in r x.a).opened ≡ true) × (is_some (call_in r x.b).opened ≡ true)
  pub ended : (s : ℕ) → x.ended ≡ Some s → (bridge_end_in r x ≡ Some s) × (s ≤ now)
  pub lasts : bridge_end_in r x ≡ None → (is_open_in r x.a ≡ true) × (is_open_in r x.b ≡ true)

-- What holds of a table at a time: a call's earlier bridges had ended before its later ones began; a call that wasn't
-- opened wasn't closed and has no end.
pub record IsTable (r : Rows) (now : ℕ) : Type 0 where
  pub latest : (c : ℕ) → c < NUMBERS → IsLatest r.bridges c (call_in r c).bridge
  pub sound : (k : ℕ) → k < length r.bridges → IsSound r now (bridge_at_place r k)
  pub over : (c i j : ℕ) → i < j → j < length r.bridges →
      joins c (bridge_at_place r i) ≡ true → joins c (bridge_at_place r j) ≡ true →
      IsOver r (bridge_at_place r j).from (bridge_at_place r i)
  pub shut : (c s j : ℕ) → (call_in r c).closed ≡ Some s → j < length r.bridges →
      joins c (bridge_at_place r j) ≡ true → IsOver r (s + 1) (bridge_at_place r j)
  pub untold : (c s : ℕ) → (call_in r c).closed ≡ Some s → gone_from_in r c ≡ None
  pub unused : (c : ℕ) → (call_in r c).opened ≡ None →
      ((call_in r c).closed ≡ None) × (gone_from_in r c ≡ None)
  pub spans : r.spans ≡ filter_map (span_in r) r.bridges

-- the table is that of a list of executed orders
pub record Stands (r : Rows) (ds : List Done) : Type 0 where
  pub opened : (c : ℕ) → c < NUMBERS → (call_in r c).opened ≡ opened_at c ds
  pub closed : (c : ℕ) → c < NUMBERS → (call_in r c).closed ≡ closed_at c ds
  pub inside : (c : ℕ) → is_some (opened_at c ds) ≡ true → c < NUMBERS
  pub bridges : r.bridges ≡ bridges ds
  pub table : IsTable r (last_stamp ds)

-- the orders with their replies
abbrev pub dones : List Order → List Reply → List Done
dones (o ∷ os) (x ∷ xs) = record { order = o; result = x.result } ∷ dones os xs
dones _ _ = []

abbrev pub board_state : List Order → List Reply → Rows → State
board_state os xs r = record {
  left = drop (length xs) os;
  done = dones os xs;
  told = map (λ e. e.gone) r.calls;
}

-- Orders, replies and a table make a board: the replies are those to the first orders, the table is that of these
-- replies, and each call number has an entry.
pub record IsBoard (os : List Order) (xs : List Reply) (r : Rows) : Type 0 where
  pub orders : AreOrders os
  pub few : length xs ≤ length os
  pub numbered : xs ≡ replies_from 0 (dones os xs)
  pub most : r.most ≡ length os
  pub places : length r.calls ≡ NUMBERS
  pub stands : Stands r (dones os xs)

-- no stamp in the list is below the first one
pub record AreRising (os : List Order) : Type 0 where
  pub rising : (k : ℕ) (d : Order) → k < length os →
      (slice_index_or os 0 d).stamp ≤ (slice_index_or os k d).stamp

-- the calls of an act are in the table
abbrev pub InTable : Result Act Refusal → Type 0
InTable (Ok (act.Opened c law)) = c < NUMBERS
InTable (Ok (act.Closed c p)) = c < NUMBERS
InTable (Ok (act.Bridged a b)) = (a < NUMBERS) × (b < NUMBERS)
InTable (Ok (act.Unbridged a b)) = a < NUMBERS
InTable _ = Unit {0}

-- Which calls are bridged. Lists of executed orders begin with the oldest.
use Rattle.std.specs.Prelude.{ℕ, Bool, false, ◌&&◌, ◌||◌, if◌then◌else◌, ◌==◌, Option, Some, None, is_none, option_map, find, Result, Ok, List}
use Rattle.std.specs.Prelude.{[], ◌∷◌, ◌++◌, slice_index_or}
use Rattle.switchboard.specs.declared.act.Act.{Act}
use Rattle.switchboard.specs.declared.act.Act.TheVariants as act
use Rattle.switchboard.specs.declared.act.Refusal.{Refusal}
use Rattle.switchboard.specs.declared.table.Bridge.{Bridge}
use Rattle.switchboard.specs.Calls.{Done, is_this, is_open}

-- A bridge of a and b is ended by an accepted `unbridge` or `close` whose act names both of its calls.
abbrev pub ends_bridge : ℕ → ℕ → Result Act Refusal → Bool
ends_bridge a b (Ok (act.Unbridged c d)) = c == a && d == b
ends_bridge a b (Ok (act.Closed c (Some d))) = c == a && d == b || c == b && d == a
ends_bridge a b _ = false

-- The bridge that an order with this stamp made, if any, with the stamp of the first later order that ended it.
abbrev pub bridge_by : ℕ → Result Act Refusal → List Done → List Bridge
bridge_by stamp (Ok (act.Bridged a b)) later = record {
  a = a;
  b = b;
  from = stamp;
  ended = option_map (λ d. d.order.stamp) (find (λ d. ends_bridge a b d.result) later);
} ∷ []
bridge_by stamp _ later = []

-- all bridges, in the order in which they were accepted
abbrev pub bridges : List Done → List Bridge
bridges [] = []
bridges (d ∷ later) = bridge_by d.order.stamp d.result later ++ bridges later

-- this call is one of the bridge's two
abbrev pub joins : ℕ → Bridge → Bool
joins c x = c == x.a || c == x.b

-- the other call of a bridge
abbrev pub other : ℕ → Bridge → ℕ
other c x = if c == x.a then x.b else x.a

-- A bridge lasts while no order has ended it and both of its calls are open.
abbrev pub lasts : (ℕ → Bool) → List Done → Bridge → Bool
lasts gone ds x = is_none x.ended && is_open gone ds x.a && is_open gone ds x.b

-- A call is bridged if a bridge of it lasts; this is the bridge.
abbrev pub bridge_of : (ℕ → Bool) → List Done → ℕ → Option Bridge
bridge_of gone ds c = find (λ x. joins c x && lasts gone ds x) (bridges ds)

-- the bridge of a call that an order with stamp t ended
abbrev pub bridge_ended : ℕ → List Done → ℕ → Option Bridge
bridge_ended t ds c = find (λ x. joins c x && is_this t x.ended) (bridges ds)

abbrev pub no_bridge : Bridge
no_bridge = record { a = 0; b = 0; from = 0; ended = None }

-- the bridge at an index of a list
abbrev pub bridge_at : List Bridge → ℕ → Bridge
bridge_at xs k = slice_index_or xs k no_bridge

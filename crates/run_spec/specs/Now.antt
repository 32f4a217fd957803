-- The periods and settings of a run's calls, from what is known while the run goes on. `ds` are the orders that were
-- executed so far, the oldest first, and `left` the remaining ones. At the clock t, no executed order has a stamp above
-- t, and no remaining one a stamp below t.
use Rattle.std.specs.Prelude.{◌≡◌, ℕ, ◌+◌, ◌-◌, ◌<◌, ◌≤◌, Bool, ◌&&◌, ◌||◌, if◌then◌else◌, ◌==◌, nat_lt, Option, is_some, is_none, IfSome}
use Rattle.std.specs.Prelude.{option_map, find, Result, Ok, Err, List, ◌++◌, map, pos}
use Rattle.std.specs.List.{All, list_any}
use Rattle.trau_orders.specs.declared.order.Order.{Order}
use Rattle.trau_orders.specs.declared.order.DtxMode.TheVariants.{Uplink}
use Rattle.trau_orders.specs.Lists.{AreOrders}
use Rattle.switchboard.specs.declared.act.Act.{Act}
use Rattle.switchboard.specs.declared.act.Act.TheVariants as act
use Rattle.switchboard.specs.declared.act.Refusal.{Refusal}
use Rattle.switchboard.specs.declared.table.Bridge.{Bridge}
use Rattle.switchboard.specs.Calls.{Done, is_this, closed_at, gone_at}
use Rattle.switchboard.specs.Bridges.{bridges, joins, other, bridge_of}
use Rattle.switchboard.specs.State.{first_stamp}
use Rattle.switchboard.specs.Runs.{IsRun}
use Rattle.switchboard.specs.Ends.{start_of}
use Rattle.call_leg.specs.Periods.{CallPeriod}
use Rattle.call_leg.specs.Settings.{Settings, new_settings, with_level, with_mode, with_bridge, without_bridge}
use Rattle.run_spec.specs.Run.{Run, whole_in, level_after, dtx_mode_after, up_in, pcm_in, ups_to, item_of}

-- A run so far: its orders are the executed ones, with the replies that the definition gives, and then the remaining
-- ones. The stamps of executed orders are below the run's number of periods.
pub record IsSoFar (r : Run) (t : ℕ) (ds : List Done) (left : List Order) : Type 0 where
  pub orders : AreOrders r.orders
  pub listed : map (λ d. d.order) ds ++ left ≡ r.orders
  pub replies : IsRun (whole_in r) ds
  pub past : All (λ d. d.order.stamp ≤ t) ds
  pub within : All (λ d. d.order.stamp < r.periods) ds
  pub ahead : IfSome (first_stamp left) (λ s. t ≤ s)

-- the next order comes after u
abbrev pub NoOrderTo : ℕ → List Order → Type 0
NoOrderTo u left = IfSome (first_stamp left) (λ s. u < s)

-- a call has period t: no order closed it, its lines give the period, and the run has it
abbrev pub has_period : Run → List Done → ℕ → ℕ → Bool
has_period r ds t c = is_none (closed_at c ds) && nat_lt t (start_of ds c + whole_in r c) && nat_lt t r.periods

-- the bridge of a call in period t: no order has ended it, and both of its calls have the period
abbrev pub bridge_now : Run → List Done → ℕ → ℕ → Option Bridge
bridge_now r ds t c = find (λ x. joins c x && is_none x.ended && has_period r ds t x.a && has_period r ds t x.b) (bridges ds)

-- what is handed to it
abbrev pub handed_now : Run → List Done → ℕ → ℕ → Option (List ℕ)
handed_now r ds t c = option_map (λ x. let d = other c x in item_of d (ups_to r d (t + 1 - start_of ds d))) (bridge_now r ds t c)

-- period t of an open call, if no remaining order has stamp t or a lower one
abbrev pub period_now : Run → List Done → ℕ → ℕ → CallPeriod
period_now r ds t c = let k = t - start_of ds c in record {
  up = up_in r c k;
  pcm = pcm_in r c k;
  level = level_after c (pos 256) ds;
  mode = dtx_mode_after c Uplink ds;
  starts = list_any (λ x. joins c x && x.from == t) (bridges ds);
  handed = handed_now r ds t c;
}

-- the settings for period t, as the board knows them at that clock: a bridge lasts until the lines of one of its calls
-- end it
abbrev pub settings_now : Run → List Done → ℕ → ℕ → Settings
settings_now r ds t c = record {
  level = level_after c (pos 256) ds;
  mode = dtx_mode_after c Uplink ds;
  starts = list_any (λ x. joins c x && x.from == t) (bridges ds);
  bridged = is_some (bridge_of (gone_at (whole_in r) t ds) ds c);
}

-- The settings of period t: a bridge is over before the first period that one of its calls lacks.
abbrev pub settings_in : Run → List Done → ℕ → ℕ → Settings
settings_in r ds t c = let now = settings_now r ds t c in if is_some (bridge_now r ds t c) then now else without_bridge now

-- the settings of a call after an order with this result; a call that is closed has no bridge, nor has its partner
abbrev pub changed_by : ℕ → Result Act Refusal → Settings → Settings
changed_by c (Ok (act.Opened d law)) now = if c == d then new_settings else now
changed_by c (Ok (act.Closed d partner)) now = if c == d || is_this c partner then without_bridge now else now
changed_by c (Ok (act.Bridged a b)) now = if c == a || c == b then with_bridge now else now
changed_by c (Ok (act.Unbridged a b)) now = if c == a || c == b then without_bridge now else now
changed_by c (Ok (act.LevelSet d level)) now = if c == d then with_level level now else now
changed_by c (Ok (act.DtxSet d mode)) now = if c == d then with_mode mode now else now
changed_by c (Err refusal) now = now

-- A call by its whole lines and its spans. Its periods of 20 ms are numbered from 0 at its opening, and all lists have
-- the oldest first.
use Rattle.std.specs.Prelude.{ℕ, ◌*◌, ◌-◌, zero, suc, ℤ, pos, Bool, false, if◌then◌else◌, ◌==◌, ◌&&◌, nat_le, nat_lt, Option, Some, None, List, [], ◌∷◌, length}
use Rattle.std.specs.Prelude.{map, take, drop, slice_index_or}
use Rattle.std.specs.List.{range_with_len, list_any}
use Rattle.trau_orders.specs.declared.order.DtxMode.{DtxMode}
use Rattle.trau_orders.specs.declared.order.DtxMode.TheVariants.{Uplink}
use Rattle.frame_sync.specs.declared.yields.Yield.{Yield}
use Rattle.frame_sync.specs.Periods.{yield_in}
use Rattle.rx_handler.specs.Heard.{Heard}
use Rattle.rx_handler.specs.Origin.{EffectiveFields}
use Rattle.rx_handler.specs.Effective.{effective_at, heard_in}
use Rattle.call_leg.specs.Who.{Who}
use Rattle.call_leg.specs.Uplink.{Sighting, sighting_in, heard_as, field_of, dtxd_after, is_quiet}
use Rattle.call_leg.specs.Periods.{dtx_in}

-- the level and the DTX mode in force in a period
pub record Setting : Type 0 where
  pub level : ℤ
  pub mode : DtxMode

-- the span of a bridge: its first period, the first one after it, and the items handed over, 260 bits for each of its
-- periods; it may be empty
pub record Span : Type 0 where
  pub from : ℕ
  pub to : ℕ
  pub items : List (List ℕ)

-- a call: its number and law, the octets of its Up line and of its Pcm line, the settings of its periods, and its spans
pub record Call : Type 0 where
  pub who : Who
  pub up : List ℕ
  pub pcm : List ℕ
  pub settings : List Setting
  pub spans : List Span

-- the number of its periods, and their numbers
abbrev pub periods : Call → ℕ
periods call = length call.settings

abbrev pub each_period : Call → List ℕ
each_period call = range_with_len 0 (periods call)

-- the settings in force in period k
abbrev pub setting_at : Call → ℕ → Setting
setting_at call k = slice_index_or call.settings k (record { level = pos 256; mode = Uplink })

-- ---- the uplink

-- the Up line, 40 octets a period
abbrev pub up_periods : Call → List (List ℕ)
up_periods call = map (λ k. take 40 (drop (40 * k) call.up)) (each_period call)

-- the yield in period k, if any: the search runs over all bits of the Up line, and the yield's last bit is one of the
-- period's
abbrev pub yield_at : Call → ℕ → Option Yield
yield_at call k = yield_in (up_periods call) k

-- what the yield shows: no frame, a miss, or what the frame says
abbrev pub seen_at : Call → ℕ → Sighting
seen_at call k = sighting_in (yield_at call k)

-- what the receive side hears of it
abbrev pub heard_at : Call → ℕ → Heard
heard_at call k = heard_as (seen_at call k)

-- the effective frame of period k, by what is heard in all periods
abbrev pub effective_frame : Call → ℕ → EffectiveFields
effective_frame call k = effective_at call.who.number (heard_in (map (heard_at call) (each_period call))) k

abbrev pub is_quiet_at : Call → ℕ → Bool
is_quiet_at call k = is_quiet (effective_frame call k)

-- the alignment field of each period's frame, if it is one of speech or idle
abbrev pub fields : Call → List (Option ℕ)
fields call = map (λ k. field_of (seen_at call k)) (each_period call)

-- DTXd of the last speech frame up to period k; 0 before the first one
abbrev pub dtxd_at : Call → ℕ → Bool
dtxd_at call zero = dtxd_after (seen_at call 0) false
dtxd_at call (suc k) = dtxd_after (seen_at call (suc k)) (dtxd_at call k)

-- whether DTX is on in period k
abbrev pub dtx_at : Call → ℕ → Bool
dtx_at call k = dtx_in (setting_at call k).mode (dtxd_at call k)

-- ---- spans

-- the item that is handed over in period k, if it lies in a span
abbrev pub item_at : List Span → ℕ → Option (List ℕ)
item_at [] k = None
item_at (span ∷ spans) k =
    if nat_le span.from k && nat_lt k span.to then Some (slice_index_or span.items (k - span.from) []) else item_at spans k

-- whether a span, even an empty one, starts at period k
abbrev pub starts_at : List Span → ℕ → Bool
starts_at spans k = list_any (λ span. span.from == k) spans

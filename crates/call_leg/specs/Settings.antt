-- The settings for the next period of a call. Lists have the newest period first.
use Rattle.std.specs.Prelude.{ℕ, ℤ, pos, Bool, true, false, if◌then◌else◌, Option, List, zero, suc}
use Rattle.trau_orders.specs.declared.order.DtxMode.{DtxMode}
use Rattle.trau_orders.specs.declared.order.DtxMode.TheVariants.{Uplink}
use Rattle.call_leg.specs.Periods.{CallPeriod, bridges_begun}

-- the level and the DTX mode; whether a bridge starts at the next period, and whether that period lies in a bridge
pub record Settings : Type 0 where
  pub level : ℤ
  pub mode : DtxMode
  pub starts : Bool
  pub bridged : Bool

-- the settings of a new call
abbrev pub new_settings : Settings
new_settings = record { level = pos 256; mode = Uplink; starts = false; bridged = false }

-- after one more period: a bridge starts only once
abbrev pub settings_later : Settings → Settings
settings_later now = record { level = now.level; mode = now.mode; starts = false; bridged = now.bridged }

-- after k more
abbrev pub settings_at : ℕ → Settings → Settings
settings_at zero now = now
settings_at (suc k) now = settings_later (settings_at k now)

-- after each order
abbrev pub with_level : ℤ → Settings → Settings
with_level level now = record { level = level; mode = now.mode; starts = now.starts; bridged = now.bridged }

abbrev pub with_mode : DtxMode → Settings → Settings
with_mode mode now = record { level = now.level; mode = mode; starts = now.starts; bridged = now.bridged }

abbrev pub with_bridge : Settings → Settings
with_bridge now = record { level = now.level; mode = now.mode; starts = true; bridged = true }

abbrev pub without_bridge : Settings → Settings
without_bridge now = record { level = now.level; mode = now.mode; starts = now.starts; bridged = false }

-- the period with these settings
abbrev pub period_with : Settings → List ℕ → List ℕ → Option (List ℕ) → CallPeriod
period_with now up pcm handed = record { up = up; pcm = pcm; level = now.level; mode = now.mode; starts = now.starts; handed = handed }

-- how many bridges have started, including one that starts at the next period
abbrev pub epoch_now : List CallPeriod → Settings → ℕ
epoch_now ts now = if now.starts then suc (bridges_begun ts) else bridges_begun ts

-- The memory of a leg after the periods of a call.
use Rattle.std.specs.Prelude.{◌≡◌, ℕ, Option, is_some, List, ◌∷◌}
use Rattle.call_leg.specs.Who.{Who}
use Rattle.call_leg.specs.Periods.{CallPeriod}
use Rattle.call_leg.specs.Settings.{Settings, settings_later, period_with}
use Rattle.call_leg.specs.Memory.{LegMemory}
use Rattle.call_leg.specs.Places.{Between, Halfway}
use Rattle.call_leg.specs.Halves.{up_of, UpStands}

-- Between periods: the leg of a call after these periods, with the settings `now` for the next one.
pub record Stands (who : Who) (ts : List CallPeriod) (now : Settings) (m : LegMemory) : Type 0 where
  pub up : UpStands who ts now (up_of m)
  pub open up use *
  pub down : Between who ts now m.down

-- P holds for every call, periods and next settings that this memory can stand for.
abbrev pub OfItsCall : LegMemory → (Who → List CallPeriod → Settings → Type 0) → Type 0
OfItsCall m P = (who : Who) (ts : List CallPeriod) (now : Settings) → Stands who ts now m → P who ts now

-- Between the halves of a period: its octets of the Up line were processed, and `handed` was handed over. The uplink
-- half has the memory after this period, whatever that one has on Pcm and is handed (something exactly if it lies in a
-- bridge). There
-- always is such a period.
pub record Midway (who : Who) (ts : List CallPeriod) (now : Settings) (up : List ℕ) (handed : Option (List ℕ)) (m : LegMemory) : Type 0 where
  pub later : (pcm : List ℕ) (given : Option (List ℕ)) → is_some given ≡ now.bridged →
      UpStands who (period_with now up pcm given ∷ ts) (settings_later now) (up_of m)
  pub down : Halfway who ts now up handed m.down

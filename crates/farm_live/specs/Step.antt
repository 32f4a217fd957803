-- One period of a book's leg.
use Rattle.std.specs.Prelude.{◌≡◌, List, ◌∷◌}
use Rattle.trau_bits.specs.Bits.{bits_of}
use Rattle.call_leg.specs.Who.{Who}
use Rattle.call_leg.specs.Periods.{CallPeriod}
use Rattle.call_leg.specs.Settings.{new_settings}
use Rattle.call_leg.specs.Out.{out_of}
use Rattle.call_leg.specs.Down.{down_now}
use Rattle.call_leg.specs.Memory.{LegMemory}
use Rattle.call_leg.specs.Stands.{Stands}
use Rattle.farm_live.specs.declared.post.Entry.{Entry}
use Rattle.farm_live.specs.Book.{period_of}

-- after any periods of a call without orders, the entry has the octets of the next one, and the leg has the memory
-- after it
abbrev pub WorksOn : LegMemory → Entry → LegMemory → Type 0
WorksOn old e new = (who : Who) (ts : List CallPeriod) → Stands who ts new_settings old →
    Stands who (period_of e.post ∷ ts) new_settings new
    × (e.out ≡ out_of who (period_of e.post ∷ ts)) × (bits_of e.down ≡ down_now who (period_of e.post ∷ ts))

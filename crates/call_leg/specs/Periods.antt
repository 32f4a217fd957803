-- The periods of a call. Lists have the newest period first.
use Rattle.std.specs.Prelude.{ℕ, ℤ, pos, Bool, true, false, if◌then◌else◌, ◌==◌, Option, unwrap_or, List, [], ◌∷◌, ◌++◌, length, filter}
use Rattle.trau_orders.specs.declared.order.DtxMode.{DtxMode}
use Rattle.trau_orders.specs.declared.order.DtxMode.TheVariants.{On, Off, Uplink}
use Rattle.frame_sync.specs.Periods.{yield_of}
use Rattle.rx_handler.specs.Heard.{Heard}
use Rattle.rx_handler.specs.Origin.{EffectiveFields}
use Rattle.rx_handler.specs.Past.{effective_of}
use Rattle.call_leg.specs.Uplink.{Sighting, sighting_in, heard_as, dtxd_after, is_quiet}

-- A period of a call: its 40 octets of the Up line and its 160 of the Pcm line, the level and the DTX mode in force,
-- whether a bridge starts at it, and if it lies in a bridge, the 260 bits that are handed over in it.
pub record CallPeriod : Type 0 where
  pub up : List ℕ
  pub pcm : List ℕ
  pub level : ℤ
  pub mode : DtxMode
  pub starts : Bool
  pub handed : Option (List ℕ)

-- the octets of the Up line, period by period
abbrev pub ups_of : List CallPeriod → List (List ℕ)
ups_of [] = []
ups_of (t ∷ past) = t.up ∷ ups_of past

-- the Pcm line so far, the first octet first
abbrev pub pcm_of : List CallPeriod → List ℕ
pcm_of [] = []
pcm_of (t ∷ past) = pcm_of past ++ t.pcm

-- what the search finds in a period with these octets of the Up line
unfoldable pub sighting_after : List CallPeriod → List ℕ → Sighting
sighting_after past up = sighting_in (yield_of up (ups_of past))

-- what is heard in each period
abbrev pub heard_of : List CallPeriod → List Heard
heard_of [] = []
heard_of (t ∷ past) = heard_as (sighting_after past t.up) ∷ heard_of past

-- the effective frame of the newest period
abbrev pub effective_now : ℕ → List CallPeriod → EffectiveFields
effective_now call ts = effective_of call (heard_of ts)

-- whether the newest period is quiet
abbrev pub quiet_now : ℕ → List CallPeriod → Bool
quiet_now call ts = is_quiet (effective_now call ts)

-- how many bridges have started
abbrev pub bridges_begun : List CallPeriod → ℕ
bridges_begun ts = length (filter (λ t. t.starts) ts)

-- the bits handed over in period h
abbrev pub handed_in : ℕ → List CallPeriod → List ℕ
handed_in h [] = []
handed_in h (t ∷ past) = if h == length past then unwrap_or t.handed [] else handed_in h past

-- ---- settings

-- DTXd of the last speech frame so far; false before the first one
abbrev pub dtxd_of : List CallPeriod → Bool
dtxd_of [] = false
dtxd_of (t ∷ past) = dtxd_after (sighting_after past t.up) (dtxd_of past)

-- whether DTX is on in this mode; `asked` is what the uplink asks for
abbrev pub dtx_in : DtxMode → Bool → Bool
dtx_in On asked = true
dtx_in Off asked = false
dtx_in Uplink asked = asked

-- whether DTX is on in the newest period
abbrev pub dtx_now : List CallPeriod → Bool
dtx_now [] = false
dtx_now (t ∷ past) = dtx_in t.mode (dtxd_of (t ∷ past))

-- the level in force in the newest period; 256 before the first one
abbrev pub level_now : List CallPeriod → ℤ
level_now [] = pos 256
level_now (t ∷ past) = t.level

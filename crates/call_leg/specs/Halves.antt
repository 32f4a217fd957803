-- The two halves of a leg, and a period of each: the uplink half's note goes to the downlink half. Lists have the
-- newest first.
use Rattle.std.specs.Prelude.{◌≡◌, ℕ, Bool, true, false, not, Option, Some, None, option_map, unwrap_or, List, ◌∷◌}
use Rattle.trau_alaw.specs.declared.Law.{Law}
use Rattle.trau_io.specs.declared.ends.Counts.{Counts}
use Rattle.trau_params.specs.Bits260.{bits260}
use Rattle.frame_sync.specs.Stands as search
use Rattle.frame_sync.specs.Memory.{SyncMemory}
use Rattle.frame_sync.specs.Step.{next_period}
use Rattle.rx_handler.specs.declared.effective.Effective.{Effective}
use Rattle.rx_handler.specs.Origin.{EffectiveFields}
use Rattle.rx_handler.specs.Past.{effective_of}
use Rattle.rx_handler.specs.State.{effective_fields}
use Rattle.rx_handler.specs.Stands as rx
use Rattle.rx_handler.specs.Memory.{RxMemory}
use Rattle.rx_handler.specs.Step.{received}
use Rattle.fr_decoder.specs.Stands as decoder
use Rattle.fr_decoder.specs.Memory.{DecoderMemory}
use Rattle.fr_decoder.specs.Memory as decoders
use Rattle.time_align.specs.Step as align
use Rattle.call_leg.specs.Who.{Who}
use Rattle.call_leg.specs.Uplink.{Sighting, sighting_in, heard_as, field_of, dtx_told, is_quiet, handed_fields}
use Rattle.call_leg.specs.Periods.{CallPeriod, ups_of, sighting_after, heard_of}
use Rattle.call_leg.specs.Settings.{Settings, epoch_now}
use Rattle.call_leg.specs.Counted.{counted, sightings_counted}
use Rattle.call_leg.specs.Out.{plain_stretch}
use Rattle.call_leg.specs.Memory.{DownMemory, LegMemory}
use Rattle.call_leg.specs.Step.{played, with_down, after_handing, down_worked}

-- ---- their memories

-- the uplink half: a leg's memory without that of its downlink half, and whether a bridge is on
pub record UpMemory : Type 0 where
  pub law : Law
  pub search : SyncMemory
  pub rx : RxMemory
  pub decoder : DecoderMemory
  pub counts : Counts
  pub bridged : Bool

-- the uplink half of a leg; its downlink half is the field `down`
abbrev pub up_of : LegMemory → UpMemory
up_of m = record { law = m.law; search = m.search; rx = m.rx; decoder = m.decoder; counts = m.counts; bridged = m.down.bridged }

-- the leg of two halves
abbrev pub joined : UpMemory → DownMemory → LegMemory
joined u d = record { law = u.law; search = u.search; rx = u.rx; decoder = u.decoder; counts = u.counts; down = d }

-- ---- the note of a period

-- the period's effective frame; the field of a speech or idle frame, else 0, which asks for nothing; DTXd of a speech
-- frame
pub record Note : Type 0 where
  pub eff : EffectiveFields
  pub ask : ℕ
  pub dtx : Option Bool

abbrev pub note_of : Sighting → EffectiveFields → Note
note_of s e = record { eff = e; ask = unwrap_or (field_of s) 0; dtx = dtx_told s }

-- the note of a call's next period, with these octets of the Up line
abbrev pub note_in : ℕ → List CallPeriod → List ℕ → Note
note_in call ts up = note_of (sighting_after ts up) (effective_of call (heard_as (sighting_after ts up) ∷ heard_of ts))

-- ---- a period of each half

-- a period of the uplink: the note, the octets of the Out line, and the memory after it
unfoldable pub up_turned : UpMemory → List ℕ → Note × List ℕ × UpMemory
up_turned u up =
    let found = next_period u.search up in
    let heard = received u.rx (heard_as (sighting_in found.0)) in
    let out = played u.law u.decoder heard.0 (not u.bridged) in (
      note_of (sighting_in found.0) heard.0,
      out.0,
      record { law = u.law; search = found.1; rx = heard.1; decoder = out.1; counts = counted (sighting_in found.0) u.counts; bridged = u.bridged },
    )

-- after a note
abbrev pub noted : DownMemory → Note → DownMemory
noted d n = record d { align = align.after_ask d.align n.ask; dtxd = unwrap_or n.dtx d.dtxd; quiet = is_quiet n.eff }

-- after the partner's effective frame is handed over, if there is one
abbrev pub with_handed : DownMemory → Option EffectiveFields → DownMemory
with_handed d None = d
with_handed d (Some e) = after_handing d e

-- a period of the downlink: the bits of the Down line, and the memory after it
unfoldable pub down_turned : DownMemory → Note → Option EffectiveFields → List ℕ → List ℕ × DownMemory
down_turned d n item pcm = down_worked (with_handed (noted d n) item) pcm

-- the uplink half when a bridge begins: the decoder is reset
abbrev pub up_bridged : UpMemory → UpMemory
up_bridged u = record u { decoder = decoders.home_memory; bridged = true }

-- the uplink half when its bridge ends
abbrev pub up_unbridged : UpMemory → UpMemory
up_unbridged u = record u { bridged = false }

-- ---- a period of the leg

-- its uplink half: the effective frame, the octets of the Out line, and the memory after them, with the note taken over
unfoldable pub up_worked : LegMemory → List ℕ → EffectiveFields × List ℕ × LegMemory
up_worked m up = let t = up_turned (up_of m) up in (t.0.eff, t.1, joined t.2 (noted m.down t.0))

-- both halves: the octets of the Out line, the bits of the Down line, and the memory after them
abbrev pub period_worked : LegMemory → List ℕ → List ℕ → List ℕ × List ℕ × LegMemory
period_worked m up pcm =
    let first = up_worked m up in
    let last = down_worked first.2.down pcm in
    (first.1, last.0, with_down first.2 last.1)

-- ---- what is handed over

-- the fields of an effective frame of the code, if there is one
abbrev pub item_of : Option Effective → Option EffectiveFields
item_of item = option_map (λ e. effective_fields e) item

-- the bits that an effective frame hands over
abbrev pub handed_bits : Option EffectiveFields → Option (List ℕ)
handed_bits item = option_map (λ e. bits260 (handed_fields e)) item

-- ---- the memory after a history

-- Between periods: the uplink half of a call after these periods, with the settings `now` for the next one. It depends
-- neither on the octets of the Pcm line nor on the handed bits. For a downlink half this is `Between`.
pub record UpStands (who : Who) (ts : List CallPeriod) (now : Settings) (u : UpMemory) : Type 0 where
  pub law : u.law ≡ who.law
  pub search : search.Stands (ups_of ts) u.search
  pub rx : rx.Stands who.number (heard_of ts) u.rx
  pub decoder : decoder.Stands (plain_stretch who.number (epoch_now ts now) ts) u.decoder
  pub counts : u.counts ≡ sightings_counted ts
  pub bridged : u.bridged ≡ now.bridged

-- P holds for every call, periods and next settings that this uplink half can stand for
abbrev pub OfItsUp : UpMemory → (Who → List CallPeriod → Settings → Type 0) → Type 0
OfItsUp u P = (who : Who) (ts : List CallPeriod) (now : Settings) → UpStands who ts now u → P who ts now

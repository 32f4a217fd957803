-- The memory of a leg's downlink half after the periods so far. Lists have the newest first.
use Rattle.std.specs.Prelude.{◌≡◌, ℕ, ◌+◌, ◌*◌, ◌<◌, ◌≤◌, true, not, ◌&&◌, ◌||◌, ◌==◌, if◌then◌else◌, Bool, Option, None, is_some, List, [], ◌∷◌, ◌++◌, length}
use Rattle.std.specs.Prelude.{map, All, option_to_list, suc, min}
use Rattle.trau_alaw.specs.declared.Law.{Law}
use Rattle.fr_encoder.specs.Stands as encoder
use Rattle.tx_dtx.specs.Stands as tx
use Rattle.time_align.specs.Shift.{latest_ask}
use Rattle.down_framer.specs.Made.{next_start, handed_due, counted_fields}
use Rattle.down_framer.specs.Bridges.{IsHistory, in_bridge}
use Rattle.down_framer.specs.Stands.{Holds}
use Rattle.call_leg.specs.Who.{Who}
use Rattle.call_leg.specs.Uplink.{field_of, is_quiet, dtxd_after, heard_as}
use Rattle.call_leg.specs.Periods.{CallPeriod, pcm_of, sighting_after, heard_of, dtxd_of}
use Rattle.rx_handler.specs.Past.{effective_of}
use Rattle.call_leg.specs.Settings.{Settings, epoch_now}
use Rattle.call_leg.specs.Down.{CallFrame, down_periods, frames_of, samples_of, coded_frames, coded_stretch, down_made}
use Rattle.call_leg.specs.Waiting.{Waits}
use Rattle.call_leg.specs.Memory.{CoderMemory, DownMemory}

-- how many frames of the bridge with this number carry a handed one
abbrev pub carried : ℕ → List CallFrame → ℕ
carried epoch [] = 0
carried epoch (f ∷ fs) = if is_some f.carries && f.epoch == epoch then suc (carried epoch fs) else carried epoch fs

-- how many handed frames of the latest bridge were sent
abbrev pub sent_now : List CallPeriod → Settings → ℕ
sent_now ts now = carried (epoch_now ts now) (frames_of ts)

-- a handed frame waits while no bridge is on
abbrev pub is_draining : List CallPeriod → Settings → Bool
is_draining ts now = not now.bridged && is_some (handed_due (down_periods ts) (frames_of ts))

-- counts stop at the last value of their type
abbrev pub in_u32 : ℕ → ℕ
in_u32 n = min n 4294967295

abbrev pub in_u64 : ℕ → ℕ
in_u64 n = min n 18446744073709551615

-- the encoder and the transmit side, run from the reset state over the coded frames of a stretch with this law
pub record CoderStands (law : Law) (stretch : List CallFrame) (m : CoderMemory) : Type 0 where
  pub encoder : encoder.Stands (map (samples_of law) stretch) m.encoder
  pub tx : tx.Stands (coded_frames law stretch) m.tx

-- What holds of the downlink half after the periods `ts`, between periods and midway in the next one, whose settings
-- are `now`.
pub record DownStands (who : Who) (ts : List CallPeriod) (now : Settings) (d : DownMemory) : Type 0 where
  pub law : d.law ≡ who.law
  -- each period has 160 octets of the Pcm line
  pub pcms : All (λ t. length t.pcm ≡ 160) ts
  pub history : IsHistory (down_periods ts)
  -- held are the octets of the Pcm line from the next frame's start on, or, if that start lies past the line, the
  -- number of octets to skip; in store is the downlink that is made and hasn't gone out
  pub places : Holds (pcm_of ts) (down_made who (frames_of ts)) (320 * length (down_periods ts)) (next_start (frames_of ts)) d.framer
  -- shifts are frozen within a bridge and while a handed frame waits
  pub frozen : d.align.frozen ≡ (now.bridged || is_some (handed_due (down_periods ts) (frames_of ts)))
  -- the coder ran over the stretch that the next frame continues
  pub coded : CoderStands who.law (coded_stretch who.number (epoch_now ts now) (frames_of ts)) d.coder
  pub sent : d.sent ≡ in_u32 (sent_now ts now)
  pub made : d.made ≡ in_u64 (length (frames_of ts))
  pub level : d.level ≡ now.level
  pub mode : d.mode ≡ now.mode
  pub bridged : d.bridged ≡ now.bridged
  -- a bridge starts only while no handed frame waits, and goes on without a gap
  pub alone : now.starts ≡ true → handed_due (down_periods ts) (frames_of ts) ≡ None
  pub goes_on : now.bridged ≡ true → (now.starts || in_bridge (down_periods ts)) ≡ true

-- between periods
pub record Between (who : Who) (ts : List CallPeriod) (now : Settings) (d : DownMemory) : Type 0 where
  pub held : DownStands who ts now d
  pub open held use *
  -- the 160 octets of the next frame haven't all come
  pub ahead : 160 * length ts < next_start (frames_of ts) + 160
  -- the 160 octets of each made frame have come
  pub come : All (λ f. f.start + 160 ≤ 160 * length ts) (frames_of ts)
  -- the downlink made so far: 320 bits, and two for each octet before the next frame
  pub line : length (down_made who (frames_of ts)) ≡ 320 + 2 * next_start (frames_of ts)
  -- the frames that were handed over in the latest bridge and haven't gone out
  pub waits : Waits ts (frames_of ts) d.waiting
  -- the shift asked for last since the last frame that carried nothing
  pub kept : d.align.kept ≡ latest_ask (counted_fields (down_periods ts) (frames_of ts))
  pub dtxd : d.dtxd ≡ dtxd_of ts

-- between the halves of a period: its octets of the Up line were processed, and `handed` was handed over
pub record Halfway (who : Who) (ts : List CallPeriod) (now : Settings) (up : List ℕ) (handed : Option (List ℕ)) (d : DownMemory) : Type 0 where
  pub held : DownStands who ts now d
  pub open held use *
  pub waits : (before : List (List ℕ)) × Waits ts (frames_of ts) before × (d.waiting ≡ before ++ option_to_list handed)
  pub kept : d.align.kept ≡ latest_ask (field_of (sighting_after ts up) ∷ counted_fields (down_periods ts) (frames_of ts))
  pub dtxd : d.dtxd ≡ dtxd_after (sighting_after ts up) (dtxd_of ts)
  pub quiet : d.quiet ≡ is_quiet (effective_of who.number (heard_as (sighting_after ts up) ∷ heard_of ts))

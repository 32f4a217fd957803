-- What the downlink half holds within a period. Lists have the newest first.
use Rattle.std.specs.Prelude.{◌≡◌, ◌+◌, ◌*◌, ◌<◌, true, ◌||◌, None, is_some, List, ◌∷◌, length}
use Rattle.time_align.specs.Shift.{latest_ask}
use Rattle.down_framer.specs.Made.{next_start, handed_due, counted_fields}
use Rattle.down_framer.specs.Stands.{Holds}
use Rattle.call_leg.specs.Who.{Who}
use Rattle.call_leg.specs.Periods.{CallPeriod, pcm_of, bridges_begun, quiet_now, dtxd_of}
use Rattle.call_leg.specs.Down.{CallFrame, down_periods, coded_stretch, down_made}
use Rattle.call_leg.specs.Waiting.{Waits}
use Rattle.call_leg.specs.Memory.{DownMemory}
use Rattle.call_leg.specs.Places.{CoderStands, carried, in_u32, in_u64}

-- In period t after those of the past, its octets put and the frames `fs` made.
pub record Inside (who : Who) (t : CallPeriod) (past : List CallPeriod) (fs : List CallFrame) (d : DownMemory) : Type 0 where
  pub law : d.law ≡ who.law
  pub long : length (pcm_of (t ∷ past)) ≡ 160 * length (down_periods past) + 160
  pub low : 160 * length (down_periods past) < next_start fs + 160
  pub line : length (down_made who fs) ≡ 320 + 2 * next_start fs
  pub places : Holds (pcm_of (t ∷ past)) (down_made who fs) (320 * length (down_periods past)) (next_start fs) d.framer
  pub waits : Waits (t ∷ past) fs d.waiting
  pub kept : d.align.kept ≡ latest_ask (counted_fields (down_periods (t ∷ past)) fs)
  pub frozen : d.align.frozen ≡ (is_some t.handed || is_some (handed_due (down_periods (t ∷ past)) fs))
  -- within a bridge no frame is made but where one waits
  pub punctual : is_some t.handed ≡ true → handed_due (down_periods (t ∷ past)) fs ≡ None → 160 * length (down_periods past) < next_start fs
  pub coded : CoderStands who.law (coded_stretch who.number (bridges_begun (t ∷ past)) fs) d.coder
  pub sent : d.sent ≡ in_u32 (carried (bridges_begun (t ∷ past)) fs)
  pub made : d.made ≡ in_u64 (length fs)
  pub level : d.level ≡ t.level
  pub mode : d.mode ≡ t.mode
  pub dtxd : d.dtxd ≡ dtxd_of (t ∷ past)
  pub quiet : d.quiet ≡ quiet_now who.number (t ∷ past)
  pub bridged : d.bridged ≡ is_some t.handed

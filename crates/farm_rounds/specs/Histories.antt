-- The periods that the calls of a farm have had. Lists have the newest period first.
use Rattle.std.specs.Prelude.{◌≡◌, ℕ, Option, Some, None, is_some, ◌==◌, if◌then◌else◌, List, []}
use Rattle.trau_alaw.specs.declared.Law.{Law}
use Rattle.switchboard.specs.declared.act.Act.{Act}
use Rattle.switchboard.specs.declared.act.Act.TheVariants.{Opened, Closed, Bridged, Unbridged, LevelSet, DtxSet}
use Rattle.call_leg.specs.Who.{Who}
use Rattle.call_leg.specs.Periods.{CallPeriod}
use Rattle.call_leg.specs.Settings.{Settings, new_settings, with_level, with_mode, with_bridge, without_bridge}
use Rattle.call_leg.specs.Counted.{call_counts}
use Rattle.call_leg.specs.Places.{sent_now}
use Rattle.call_leg.specs.Down.{down_periods, frames_of}
use Rattle.call_leg.specs.Stands.{Stands}
use Rattle.down_framer.specs.Made.{handed_due}
use Rattle.farm_rounds.specs.declared.tally.Tally.{Tally}
use Rattle.farm_rounds.specs.Calls.{Call, Kept, call_in, partner_in}
use Rattle.farm_rounds.specs.Acts.{put_at, change_at, change_partner}

-- the law of a call's octets, its periods so far, and what is set for the next one
pub record CallHistory : Type 0 where
  pub law : Law
  pub periods : List CallPeriod
  pub now : Settings

-- whose history it is, by the call's number
abbrev pub whose : ℕ → CallHistory → Who
whose c h = record { number = c; law = h.law }

-- the tally of a call after these periods
abbrev pub tally_of : List CallPeriod → Settings → Tally
tally_of ts now = record { counts = call_counts ts; sent = sent_now ts now }

-- A possible history of a call: of an open call one that leads to its leg, whose settings say whether it is bridged; of
-- any other call none.
abbrev pub CallStands : ℕ → Option CallHistory → Option Call → Option ℕ → Type 0
CallStands c None None partner = partner ≡ None
CallStands c (Some h) (Some x) partner =
    (x.number ≡ c) × Stands (whose c h) h.periods h.now x.leg × (h.now.bridged ≡ is_some partner)
CallStands c _ _ partner = ⊥

-- h gives each call of a farm a possible history
abbrev pub CallsStand : (ℕ → Option CallHistory) → List Kept → Type 0
CallsStand h calls = (c : ℕ) → CallStands c (h c) (call_in calls c) (partner_in calls c)

-- ---- what an act does to the histories

abbrev pub set_now : (Settings → Settings) → CallHistory → CallHistory
set_now f h = record { law = h.law; periods = h.periods; now = f h.now }

abbrev pub histories_after : Act → (ℕ → Option CallHistory) → ℕ → Option CallHistory
histories_after (Opened c law) h =
    put_at c (Some (record { law = law; periods = []; now = new_settings })) h
histories_after (Closed c p) h = put_at c None (change_partner p (set_now without_bridge) h)
histories_after (Bridged a b) h =
    change_at a (set_now with_bridge) (change_at b (set_now with_bridge) h)
histories_after (Unbridged a b) h =
    change_at a (set_now without_bridge) (change_at b (set_now without_bridge) h)
histories_after (LevelSet c level) h = change_at c (set_now (with_level level)) h
histories_after (DtxSet c mode) h = change_at c (set_now (with_mode mode)) h

-- no handed frame waits
abbrev pub NoneWaits : Option CallHistory → Type 0
NoneWaits None = Unit {0}
NoneWaits (Some h) = handed_due (down_periods h.periods) (frames_of h.periods) ≡ None

-- if the act starts a bridge, no handed frame waits in its calls
abbrev pub NoneWaitsIn : Act → (ℕ → Option CallHistory) → Type 0
NoneWaitsIn (Bridged a b) h = NoneWaits (h a) × NoneWaits (h b)
NoneWaitsIn _ h = Unit {0}

-- the tallies that are kept of ended calls
abbrev pub kept_of : Option CallHistory → Tally → Tally
kept_of None kept = kept
kept_of (Some h) kept = tally_of h.periods h.now

abbrev pub tallies_after : Act → (ℕ → Option CallHistory) → (ℕ → Tally) → ℕ → Tally
tallies_after (Closed c p) h kept d = if c == d then kept_of (h d) (kept d) else kept d
tallies_after _ h kept d = kept d

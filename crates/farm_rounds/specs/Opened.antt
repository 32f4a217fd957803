-- What a round does to all its open calls. `opens` are the calls at the start of a step.
use Rattle.std.specs.Prelude.{◌≡◌, ◌≢◌, ℕ, ◌==◌, ◌≤◌, min, true, Option, Some, None, is_some, if◌then◌else◌, unwrap_or, find, List, [], length, map, slice_index_or}
use Rattle.std.specs.List.{All}
use Rattle.std.specs.Global.{Box}
use Rattle.trau_alaw.specs.declared.Law.TheVariants.{A}
use Rattle.call_leg.specs.Who.{Who}
use Rattle.call_leg.specs.Periods.{CallPeriod}
use Rattle.call_leg.specs.Settings.{Settings}
use Rattle.call_leg.specs.Stands.{Stands}
use Rattle.call_pair.specs.Memory.{IsIo}
use Rattle.call_pair.specs.Phases.{turn_down, hear_from, leg_in, periods_left}
use Rattle.call_pair.specs.declared.call_job.Phase.TheVariants.{First}
use Rattle.farm_rounds.specs.Numbers.{IsRising, is_among}
use Rattle.round_lines.specs.Memory.{whole_in}
use Rattle.round_lines.specs.Portions.{Fits}
use Rattle.farm_rounds.specs.declared.open.OpenCall.{OpenCall}
use Rattle.std.specs.Option.{option_map}
use Rattle.farm_rounds.specs.Calls.{Kept, kept_in}
use Rattle.farm_rounds.specs.Acts.{parted_call}
use Rattle.farm_rounds.specs.declared.tally.Tally.{Tally}
use Rattle.farm_rounds.specs.Histories.{tally_of}
use Rattle.farm_rounds.specs.Opens.{IsOpenCall, kept_of, opens_in, new_open, with_job, open_begun, goes_on_open, same_portion, same_call}

abbrev pub no_open : OpenCall
no_open = new_open 0 A

-- the call in the box at an index
abbrev pub open_at : List (Box OpenCall) → ℕ → OpenCall
open_at boxes k = slice_index_or (opens_in boxes) k no_open

-- what the types of a call's octets and lines keep true: its octets fit together, and no more periods came than were
-- planned
abbrev pub OctetsFit : OpenCall → Type 0
OctetsFit o = IsIo o.job.io × (whole_in o.lines ≤ o.lines.periods)

-- its buffers have the round's length
abbrev pub HasBuffers : OpenCall → Type 0
HasBuffers o = Fits o.lines.periods o.job.io.up o.job.io.pcm o.job.io.down o.job.io.out

abbrev pub open_numbered : List OpenCall → ℕ → OpenCall
open_numbered opens c = unwrap_or (find (λ o. o.job.io.call == c) opens) no_open

abbrev pub same_portions : List (Box OpenCall) → List OpenCall
same_portions boxes = map same_portion (opens_in boxes)

abbrev pub same_calls : List (Box OpenCall) → List OpenCall
same_calls boxes = map same_call (opens_in boxes)

-- what a partner's bridge depends on; the beginning of a phase changes none of it
pub record Standing : Type 0 where
  pub number : ℕ
  pub partner : Option ℕ
  pub whole : ℕ

abbrev pub standing_of_open : OpenCall → Standing
standing_of_open o = record {
  number = o.job.io.call;
  partner = o.partner;
  whole = whole_in o.lines;
}

abbrev pub standings : List (Box OpenCall) → List Standing
standings boxes = map standing_of_open (opens_in boxes)

abbrev pub no_standing : Standing
no_standing = standing_of_open no_open

abbrev pub standing_of : List Standing → ℕ → Standing
standing_of ss c = unwrap_or (find (λ s. s.number == c) ss) no_standing

-- how many periods of the round are bridged: those that the lines of both calls gave; 0 without a partner
abbrev pub end_with : List Standing → ℕ → Option ℕ → ℕ
end_with ss whole None = 0
end_with ss whole (Some d) = min whole (standing_of ss d).whole

abbrev pub end_beside : List Standing → OpenCall → ℕ
end_beside ss o = end_with ss (whole_in o.lines) o.partner

abbrev pub all_begun : List Standing → List OpenCall → List OpenCall
all_begun ss opens = map (λ o. open_begun (end_beside ss o) o) opens

-- a call takes its partner's frames, if it has one, and begins its second phase
abbrev pub met_beside : List OpenCall → OpenCall → Option ℕ → OpenCall
met_beside opens o None = with_job o (turn_down o.job)
met_beside opens o (Some d) = with_job o (hear_from (open_numbered opens d).job o.job)

abbrev pub all_met : List OpenCall → List OpenCall
all_met opens = map (λ o. met_beside opens o o.partner) opens

-- the tally of a call that ends is kept; all others are unchanged
abbrev pub TallyAfter : Option OpenCall → Tally → Tally → Type 0
TallyAfter None before now = now ≡ before
TallyAfter (Some o) before now = (who : Who) (ts : List CallPeriod) (set : Settings) →
    Stands who ts set (leg_in o.job) → now ≡ tally_of ts set

abbrev pub that_ends : Option OpenCall → Option OpenCall
that_ends None = None
that_ends (Some o) = if goes_on_open o then None else Some o

abbrev pub TallyKept : List OpenCall → ℕ → Tally → Tally → Type 0
TallyKept opens c before now =
    TallyAfter (that_ends (find (λ o. o.job.io.call == c) opens)) before now

-- ---- what a step needs

-- `live` lists the calls in rising order, and each partner is another of them
pub record ArePaired (live : List ℕ) (ss : List Standing) : Type 0 where
  pub listed : live ≡ map (λ s. s.number) ss
  pub rising : IsRising live
  pub partners : All (λ s. (d : ℕ) → s.partner ≡ Some d →
      (is_among live d ≡ true) × (d ≢ s.number)) ss

-- a call before its first phase: it and its bridge were planned for all periods of the round
pub record IsReady (o : OpenCall) : Type 0 where
  pub first : o.job.phase ≡ First
  pub none : o.job.io.done ≡ 0
  pub given : o.job.io.given ≡ o.lines.periods
  pub bridge : (d : ℕ) → o.partner ≡ Some d → o.job.bridge_end ≡ o.lines.periods

-- a call after its first phase: its bridge has no more periods than its partner has notes
pub record IsTold (opens : List OpenCall) (o : OpenCall) : Type 0 where
  pub first : o.job.phase ≡ First
  pub finished : periods_left o.job ≡ 0
  pub none : o.job.partner ≡ []
  pub alone : o.partner ≡ None → o.job.bridge_end ≡ 0
  pub within : (d : ℕ) → o.partner ≡ Some d →
      o.job.bridge_end ≤ length (open_numbered opens d).job.notes

-- ---- between the rounds

-- `live` lists the calls in rising order, each is in its first phase, and both halves of its leg are bridged exactly if
-- it has a partner
pub record AreListed (live : List ℕ) (opens : List OpenCall) : Type 0 where
  pub listed : live ≡ map (λ o. o.job.io.call) opens
  pub rising : IsRising live
  pub first : All (λ o. o.job.phase ≡ First) opens
  pub up : All (λ o. o.job.up.bridged ≡ is_some o.partner) opens
  pub down : All (λ o. o.job.down.bridged ≡ is_some o.partner) opens

-- f has changed what is seen of one call, and nothing of the others
pub record IsChanged (call : ℕ) (f : Kept → Kept) (before now : List OpenCall) : Type 0 where
  pub calls : (c : ℕ) → kept_in (map kept_of now) c
      ≡ (if c == call then option_map f (kept_in (map kept_of before) c)
      else kept_in (map kept_of before) c)
  pub each : (most : ℕ) → All (IsOpenCall most) before → All (IsOpenCall most) now
  pub numbers : map (λ o. o.job.io.call) now ≡ map (λ o. o.job.io.call) before

-- the partner of a call that ends, if there is one, goes on alone
abbrev pub IsReleased : Option ℕ → List OpenCall → List OpenCall → Type 0
IsReleased None before now = now ≡ before
IsReleased (Some p) before now =
    IsChanged p (λ k. record { call = parted_call k.call; partner = None }) before now

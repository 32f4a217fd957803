-- What a round adds to the periods that each call has had. `portions` are the portions of the round after its lines
-- were read: a call's portion has the octets of its whole periods.
use Rattle.std.specs.Prelude.{◌≡◌, ℕ, ◌<◌, Bool, true, if◌then◌else◌, ◌==◌, ◌&&◌, Option, Some, None, is_some, unwrap_or, find, List, length}
use Rattle.std.specs.Option.{option_map}
use Rattle.call_leg.specs.Stands.{Stands}
use Rattle.call_leg.specs.Settings.{settings_at}
use Rattle.call_pair.specs.History.{Start, settings_past, alone_periods, bridged_periods, io_after}
use Rattle.round_lines.specs.Transfer.{has_failed}
use Rattle.round_lines.specs.Memory.{whole_in}
use Rattle.round_lines.specs.Portions.{PortionMemory, new_portion}
use Rattle.round_lines.specs.Rounds.{no_portion, portion_at, call_at}
use Rattle.farm_rounds.specs.Calls.{Call, Kept, call_in, partner_in}
use Rattle.farm_rounds.specs.Memory.{FarmMemory, tally_in}
use Rattle.farm_rounds.specs.Numbers.{is_among}
use Rattle.farm_rounds.specs.Histories.{CallHistory, CallsStand, whose, kept_of}
use Rattle.farm_rounds.specs.Rounds.{io_of}
use Rattle.farm_rounds.specs.Opens.{portion_with}
use Rattle.farm_rounds.specs.Working.{WorkedMemory, goes_on_call, that_stays, partner_past}

-- ---- before the round

-- the portion of an open call, before anything was read: its outgoing lines are sound, or failed in an earlier round
abbrev pub portion_for : ℕ → ℕ → Option Call → PortionMemory
portion_for periods c None = no_portion
portion_for periods c (Some x) = new_portion c periods x.down_failed x.out_failed

-- ---- what each call has had after it

-- the portion of a call
abbrev pub portion_of : List PortionMemory → ℕ → PortionMemory
portion_of portions c = unwrap_or (find (λ s. s.lines.call == c) portions) no_portion

-- the call at the start of the round: what it has had, and the octets of its periods in the round
abbrev pub start_with : List PortionMemory → ℕ → CallHistory → Start
start_with portions c x = record {
  law = x.law;
  past = x.periods;
  now = x.now;
  io = io_of (portion_of portions c);
}

-- the history of a call after the round, if it isn't bridged
abbrev pub history_alone : List PortionMemory → ℕ → CallHistory → CallHistory
history_alone portions c x =
    let n = whole_in (portion_of portions c).lines in
    record {
      law = x.law;
      periods = alone_periods n (start_with portions c x);
      now = settings_at n x.now;
    }

-- the history of call c after the round, if it is bridged with call d
abbrev pub history_bridged : List PortionMemory → ℕ → CallHistory → ℕ → CallHistory → CallHistory
history_bridged portions c x d y =
    let n = whole_in (portion_of portions c).lines in
    record {
      law = x.law;
      periods = bridged_periods n (start_with portions c x) (start_with portions d y);
      now = settings_past n (whole_in (portion_of portions d).lines) x.now;
    }

abbrev pub history_beside : List PortionMemory → ℕ → CallHistory → ℕ → Option CallHistory → CallHistory
history_beside portions c x d None = history_alone portions c x
history_beside portions c x d (Some y) = history_bridged portions c x d y

-- the history of call c after the round, with its partner if it has one
abbrev pub history_with : List PortionMemory → (ℕ → Option CallHistory) → ℕ → Option ℕ → CallHistory →
    CallHistory
history_with portions h c None x = history_alone portions c x
history_with portions h c (Some d) x = history_beside portions c x d (h d)

abbrev pub worked_histories : List PortionMemory → (ℕ → Option ℕ) → (ℕ → Option CallHistory) → ℕ →
    Option CallHistory
worked_histories portions partner h c = option_map (history_with portions h c (partner c)) (h c)

-- ---- after the work

-- A possible history of a call after the work: it leads to the call's leg. If the call goes on, the settings say
-- whether its partner goes on too.
abbrev pub WorkedCall : (ℕ → Bool) → ℕ → Option CallHistory → Option Call → Option ℕ → Type 0
WorkedCall stays c None None partner = partner ≡ None
WorkedCall stays c (Some h) (Some x) partner =
    (x.number ≡ c) × Stands (whose c h) h.periods h.now x.leg
    × (stays c ≡ true → h.now.bridged ≡ is_some (that_stays stays partner))
WorkedCall stays c _ _ partner = ⊥

abbrev pub WorkedStand : (ℕ → Option CallHistory) → WorkedMemory → Type 0
WorkedStand h r = (c : ℕ) →
    WorkedCall (goes_on_call r.portions) c (h c) (call_in r.farm.calls c) (partner_in r.farm.calls c)

-- The portions after the work: the buffers of Out and Down begin with the octets of the round's periods; the rest is
-- unchanged.
abbrev pub AreWorked : List PortionMemory → (ℕ → Option CallHistory) → List PortionMemory → Type 0
AreWorked portions worked now = (k : ℕ) (x : CallHistory) → k < length portions →
    worked (call_at portions k) ≡ Some x →
    let s = portion_at portions k in
    portion_at now k ≡ portion_with s.lines
    (io_after (whose (call_at portions k) x) (whole_in s.lines) x.periods (io_of s))

-- ---- the calls that go on

-- the values of the calls that go on
abbrev pub those_that : {A : Type 0} → (ℕ → Bool) → (ℕ → Option A) → ℕ → Option A
those_that stays h c = if stays c then h c else None

-- What a farm has after a processed round. Exactly the calls whose lines gave all periods of the round are open.
-- Partners stay partners if both go on; a call whose partner has ended goes on alone.
pub record IsPassed (r : WorkedMemory) (f : FarmMemory) : Type 0 where
  pub ended : f.ended ≡ r.farm.ended
  pub live : (c : ℕ) → is_among f.live c ≡ (is_among r.farm.live c && goes_on_call r.portions c)
  pub is_open : (c : ℕ) → is_some (call_in f.calls c) ≡ is_among f.live c
  pub partners : (c : ℕ) →
      partner_in f.calls c ≡ partner_past (goes_on_call r.portions) (partner_in r.farm.calls) c
  -- For every history `h` that is possible for these calls (`WorkedStand h`): the calls that go on have the history
  -- that `h` gives them, and the tallies of the calls that end are kept.
  pub history : (h : ℕ → Option CallHistory) → WorkedStand h r →
      CallsStand (those_that (goes_on_call r.portions) h) f.calls
  pub tallies : (h : ℕ → Option CallHistory) → WorkedStand h r → (c : ℕ) →
      tally_in f.tallies c ≡ (if goes_on_call r.portions c then tally_in r.farm.tallies c
      else kept_of (h c) (tally_in r.farm.tallies c))

-- each of these calls knows which of its outgoing lines have failed so far, as its portion says
abbrev pub KnowFailed : List PortionMemory → List Kept → Type 0
KnowFailed portions calls = (c : ℕ) (x : Call) → call_in calls c ≡ Some x →
    (x.down_failed ≡ has_failed (portion_of portions c).lines.down)
    × (x.out_failed ≡ has_failed (portion_of portions c).lines.out)

-- What a stream plays in a period (this project's profile).
use Rattle.std.specs.Prelude.{if◌then◌else◌, ◌≡◌, ◌≢◌, ◌<◌, ◌⊎◌, ◌∷◌, ℕ, Bool, true, false, Option, None, IfSome, List, length, slice_index, unwrap_or}
use Rattle.rtp_buffer.specs.declared.buffer.Buffer.{Buffer}
use Rattle.rtp_buffer.specs.declared.pace.Owed.TheVariants.{Nothing, On, Back}
use Rattle.rtp_buffer.specs.declared.pace.Wish.{Wish}
use Rattle.rtp_buffer.specs.declared.pace.Wish.TheVariants.{Not, IfSoft, Now}
use Rattle.rtp_buffer.specs.Octets.{heard, after_taking, after_leaving_out}
use Rattle.rtp_buffer.specs.Store.{place, is_before}
use Rattle.rtp_buffer.specs.History.{Deed, Take, LeaveOut, LeaveOutBefore, Stands, first_came, is_waiting}
use Rattle.rtp_buffer.specs.Pace.{wished, is_owed, slipped, given_up, due}
use Rattle.rtp_buffer.specs.Buffer.{period_at, judged, SaysWaits, SaysKnown, NothingWaits}
use Rattle.rtp_stream.specs.declared.stream.Stream.{Stream}
use Rattle.rtp_stream.specs.Stream.{track_given_up}
use Rattle.rtp_session.specs.declared.counts.Counts.{Counts}
use Rattle.rtp_session.specs.declared.incoming.Incoming.{Incoming}
use Rattle.rtp_session.specs.Counts.{with_slip}

-- of all that was done with a buffer's store, this deed is new, or nothing is
abbrev pub Does : {N : ℕ} → Deed → Buffer N → Buffer N → Type 0
Does deed old new = (deeds : List Deed) → Stands deeds old.store.slots → Stands deeds new.store.slots ⊎ Stands (deed ∷ deeds) new.store.slots

-- **Before a period**: if no slip is owed, waits are judged once enough packets came, and what is past is left out;
-- else it is decided when it is made.
pub record IsPrepared {N : ℕ} (old new : Buffer N) (tick : ℕ) (wish : Wish) : Type 0 where
  pub idle : old.pace.owed ≡ Nothing → (new.pace ≡ judged old.pace tick) × (wish ≡ Not)
  pub owed : is_owed old.pace.owed ≡ true → let period = period_at old.pace tick in
      (waits whole : Bool) × SaysWaits old.store.slots period waits × SaysKnown old.store.slots period 0 N whole ×
      (new.pace ≡ (wished old.pace waits whole tick).0) × (wish ≡ (wished old.pace waits whole tick).1) × (new.store ≡ old.store)
  pub kept : old.pace.owed ≡ Nothing → due old.pace tick ≡ false → new.store ≡ old.store
  pub left_out : old.pace.owed ≡ Nothing → due old.pace tick ≡ true → (period k : ℕ) → place new.store.slots period k ≡
      (if is_before period (period_at old.pace tick) then after_leaving_out (place old.store.slots period k) else place old.store.slots period k)
  pub newest : new.newest ≡ old.newest
  pub ahead : (period k : ℕ) → is_before period (period_at old.pace tick) ≡ false → place new.store.slots period k ≡ place old.store.slots period k
  pub does : Does (LeaveOutBefore (period_at old.pace tick)) old new

-- **A slip**: this tick's period is left out, or waits a tick longer, and the one before it has another turn. What was
-- played of that one isn't played again: filler is heard in its place.
pub record IsSlipped {N : ℕ} (old new : Buffer N) (tick : ℕ) : Type 0 where
  pub pace : new.pace ≡ slipped old.pace tick
  pub newest : new.newest ≡ old.newest
  pub idle : old.pace.owed ≡ Nothing → new ≡ old
  pub on : (count : ℕ) → old.pace.owed ≡ On count → (k : ℕ) →
      place new.store.slots (period_at old.pace tick) k ≡ after_leaving_out (place old.store.slots (period_at old.pace tick) k)
  pub back : (count : ℕ) → old.pace.owed ≡ Back count → new.store ≡ old.store
  pub others : (other k : ℕ) → other ≢ period_at old.pace tick → place new.store.slots other k ≡ place old.store.slots other k
  pub does : Does (LeaveOut (period_at old.pace tick)) old new

-- the octets that are heard at a tick, `filler` for those that didn't come
abbrev pub AreHeard : {N : ℕ} → Buffer N → ℕ → ℕ → List ℕ → Type 0
AreHeard {N} buffer tick filler octets = (length octets ≡ N) × ((k : ℕ) → k < N →
    slice_index octets k ≡ heard (place buffer.store.slots (period_at buffer.pace tick) k) filler)

-- **In time**: at each place the first octet that came for it since another period had its slot, or the filler.
abbrev pub AreFirst : {N : ℕ} → List Deed → Buffer N → ℕ → ℕ → List ℕ → Type 0
AreFirst {N} deeds buffer tick filler octets = (k : ℕ) → k < N → slice_index octets k ≡ unwrap_or (first_came deeds (period_at buffer.pace tick) k) filler

-- **A period is played once**: what waits of it is taken, and nothing else changes. If nothing of it waits, there is
-- none.
pub record IsTaken {N : ℕ} (old new : Buffer N) (tick filler : ℕ) (came : Option (List ℕ)) : Type 0 where
  pub nothing : NothingWaits old.store.slots (period_at old.pace tick) → came ≡ None
  pub none : came ≡ None → NothingWaits old.store.slots (period_at old.pace tick) × (new ≡ old)
  pub some : IfSome came (λ octets. AreHeard old tick filler octets)
  pub pace : new.pace ≡ old.pace
  pub newest : new.newest ≡ old.newest
  pub own : (k : ℕ) → place new.store.slots (period_at old.pace tick) k ≡ after_taking (place old.store.slots (period_at old.pace tick) k)
  pub others : (other k : ℕ) → other ≢ period_at old.pace tick → place new.store.slots other k ≡ place old.store.slots other k
  pub does : Does (Take (period_at old.pace tick)) old new
  pub in_time : (deeds : List Deed) → Stands deeds old.store.slots → is_waiting deeds (period_at old.pace tick) ≡ true →
      IfSome came (λ octets. AreFirst deeds old tick filler octets)

-- whether an owed slip is made: now, or in soft speech, which `IsSoft` tells of the octets that would be heard
pub record Decides {N : ℕ} (IsSoft : List ℕ → Bool → Type 0) (buffer : Buffer N) (tick filler : ℕ) (wish : Wish) (slips : Bool) : Type 0 where
  pub never : wish ≡ Not → slips ≡ false
  pub now : wish ≡ Now → slips ≡ true
  pub soft : wish ≡ IfSoft → (octets : List ℕ) × AreHeard buffer tick filler octets × IsSoft octets slips

-- **What a stream plays in a period**: after the slip that is due, if one is, what came for the period.
pub record Plays {N : ℕ} (IsSoft : List ℕ → Bool → Type 0) (old new : Buffer N) (tick filler : ℕ) (came : Option (List ℕ)) : Type 0 where
  pub prepared : Buffer N
  pub wish : Wish
  pub slips : Bool
  pub moved : Buffer N
  pub prepared_is : IsPrepared old prepared tick wish
  pub slips_is : Decides IsSoft prepared tick filler wish slips
  pub slipped_is : slips ≡ true → IsSlipped prepared moved tick
  pub stays : slips ≡ false → moved ≡ prepared
  pub taken : IsTaken moved new tick filler came

-- the counts, if a slip of this buffer is made
abbrev pub counts_after : {N : ℕ} → Bool → Buffer N → Counts → Counts
counts_after slips buffer counts = if slips then with_slip buffer.pace.owed counts else counts

-- **All that a period changes of a stream**: its jitter buffer, and the slips that are counted.
pub record PlaysPeriod {N : ℕ} (IsSoft : List ℕ → Bool → Type 0) (old new : Incoming N) (tick filler : ℕ) (came : Option (List ℕ)) : Type 0 where
  pub plays : Plays IsSoft old.stream.buffer new.stream.buffer tick filler came
  pub counts : new.counts ≡ counts_after plays.slips plays.prepared old.counts
  pub others : new ≡ record old { counts = new.counts; stream = record old.stream { buffer = new.stream.buffer } }

-- **Time is given up**: what would have been played in it isn't, and packets of it may still come.
pub record GivesUp {N : ℕ} (old new : Stream N) (periods tick : ℕ) : Type 0 where
  pub track : new.track ≡ track_given_up old.track periods tick
  pub pace : new.buffer.pace ≡ given_up old.buffer.pace periods
  pub newest : new.buffer.newest ≡ old.buffer.newest
  pub left_out : (period k : ℕ) → place new.buffer.store.slots period k ≡
      (if is_before period (period_at new.buffer.pace tick) then after_leaving_out (place old.buffer.store.slots period k)
      else place old.buffer.store.slots period k)
  pub ahead : (period k : ℕ) → is_before period (period_at new.buffer.pace tick) ≡ false →
      place new.buffer.store.slots period k ≡ place old.buffer.store.slots period k
  pub stands : (deeds : List Deed) → Stands deeds old.buffer.store.slots → Stands (LeaveOutBefore (period_at new.buffer.pace tick) ∷ deeds) new.buffer.store.slots
  pub others : new ≡ record old { track = new.track; buffer = new.buffer }

-- What was done with a store, while a payload is laid.
use Rattle.std.proofs.Common.{◌≡◌, ℕ, zero, suc, ◌+◌, ◌-◌, ◌*◌, ◌^◌, ◌<◌, ◌≤◌, List, ◌∷◌, length, refl, sym, ap, subst, ◌∙◌, arith}
use Rattle.std.specs.Prelude.{◌≢◌, Bool, true, false, if◌then◌else◌, ◌==◌, ◌||◌, ◌&&◌, slice_index_or, slice_range, Option, Some, None}
use Rattle.rtp_buffer.specs.declared.octet.Octet.{Octet}
use Rattle.rtp_buffer.specs.declared.octet.Octet.TheVariants.{Missing}
use Rattle.rtp_buffer.specs.declared.slot.Slot.{Slot}
use Rattle.rtp_buffer.specs.declared.pace.Pace.{Pace}
use Rattle.rtp_buffer.specs.declared.buffer.Buffer.{Buffer}
use Rattle.rtp_buffer.specs.declared.buffer.Outcome.{Outcome}
use Rattle.rtp_buffer.specs.declared.buffer.Outcome.TheVariants.{Taken, Late, Doubled}
use Rattle.rtp_buffer.specs.Octets.{came, with_octet, has_come}
use Rattle.rtp_buffer.specs.Store.{place, known, slot_of, in_slot, no_slot, no_octets}
use Rattle.rtp_buffer.specs.History.{Deed, Put, step, Stands}
use Rattle.rtp_buffer.specs.Buffer.{AllKnown, newest_wait, seen}
use Rattle.rtp_buffer.specs.Watch.{on}
use Rattle.rtp_buffer.specs.Pace.{wait_of, is_late}
use Rattle.rtp_stream.specs.Payload.{octets_before, start_of, octets_of, with_put, with_periods, count_of, period_outcome, pace_told, pace_laid}
use Rattle.std.proofs.lemmas.Grind.{common_steps}
use Rattle.rtp_stream.proofs.Pieces.{known_stays}
use Rattle.rtp_stream.proofs.Counted.{stays_to, none_left}

-- ---- a slot has octets of one period

nothing_at : (k : ℕ) → slice_index_or no_octets k Missing ≡ Missing
nothing_at k = refl

of_period : {N : ℕ} → (slot : Slot N) (period k : ℕ) → has_come (in_slot slot period k) ≡ true → slot.period ≡ period
of_period slot period k h = grind (arith, h, nothing_at k)

of_no_other : {N : ℕ} → (slot : Slot N) (period other k : ℕ) → slot.period ≡ period → other ≢ period → in_slot slot other k ≡ Missing
of_no_other slot period other k h d = grind (arith, h, d, nothing_at k)

alone : {N : ℕ} → (slots : List (Slot N)) (period other j k : ℕ) → known slots period j ≡ true → slot_of other ≡ slot_of period → other ≢ period →
    place slots other k ≡ Missing
alone slots period other j k h same d =
    subst (λ (n : ℕ). in_slot (slice_index_or slots n no_slot) other k ≡ Missing) (sym same)
    (of_no_other (slice_index_or slots (slot_of period) no_slot) period other k (of_period (slice_index_or slots (slot_of period) no_slot) period j h) d)

-- ---- octets that all came before change nothing

put_place : (of : Octet → Octet) (now : ℕ → ℕ → Octet) (period other k : ℕ) → now period k ≡ of (now period k) →
    (slot_of other ≡ slot_of period → other ≢ period → now other k ≡ Missing) →
    now other k ≡ (if period == other then of (now other k) else if slot_of period == slot_of other then Missing else now other k)
put_place of now period other k own same = grind (arith, own, same)

put_again : {N : ℕ} → (deeds : List Deed) (slots : List (Slot N)) (period start : ℕ) (octets : List ℕ) → 0 < length octets →
    AllKnown slots period start (length octets) → Stands deeds slots → Stands (Put period start octets ∷ deeds) slots
put_again deeds slots period start octets some all s = record {
  places = λ other k.
      subst (λ (o : Octet). place slots other k ≡ step (Put period start octets) other k o) (s.places other k)
      (put_place (λ o. with_octet o (came start octets (length octets) k)) (place slots) period other k
      (sym (known_stays octets start (length octets) k (place slots period k) (all k)))
      (λ same differs. alone slots period other start k (all start (omega arith) (omega (arith, some))) same differs));
}

-- ---- one period more

pub record Outcomes {N : ℕ} (outcome : Outcome) (late : Bool) (period start : ℕ) (octets : List ℕ) (deeds : List Deed) (old new : List (Slot N)) : Type 0 where
  pub some : 0 < length octets
  pub taken_is : outcome ≡ Taken → (late ≡ false) × Stands (Put period start octets ∷ deeds) new
  pub late_is : outcome ≡ Late → (late ≡ true) × (new ≡ old)
  pub doubled_is : outcome ≡ Doubled → (new ≡ old) × AllKnown old period start (length octets)

with_some : (late : Bool) (deed : Deed) (octets : List ℕ) (deeds : List Deed) → 0 < length octets →
    (if late || (length octets == 0) then deeds else deed ∷ deeds) ≡ (if late then deeds else deed ∷ deeds)
with_some true deed octets deeds some = refl
with_some false deed octets deeds some = grind (arith, some)

stands_if : {N : ℕ} → (outcome : Outcome) (late : Bool) (period start : ℕ) (octets : List ℕ) (deeds : List Deed) (old new : List (Slot N)) →
    Outcomes outcome late period start octets deeds old new → Stands deeds old → Stands (if late then deeds else Put period start octets ∷ deeds) new
stands_if Taken true period start octets deeds old new h s = let t = h.taken_is refl in absurd (grind (arith, t.0))
stands_if Taken false period start octets deeds old new h s = (h.taken_is refl).1
stands_if Late true period start octets deeds old new h s = subst (λ (slots : List (Slot _)). Stands deeds slots) (sym (h.late_is refl).1) s
stands_if Late false period start octets deeds old new h s = let t = h.late_is refl in absurd (grind (arith, t.0))
stands_if Doubled true period start octets deeds old new h s = subst (λ (slots : List (Slot _)). Stands deeds slots) (sym (h.doubled_is refl).0) s
stands_if Doubled false period start octets deeds old new h s =
    subst (λ (slots : List (Slot _)). Stands (Put period start octets ∷ deeds) slots) (sym (h.doubled_is refl).0)
    (put_again deeds old period start octets h.some (h.doubled_is refl).1 s)

stands_then : {N : ℕ} → (outcome : Outcome) (wait period start : ℕ) (octets : List ℕ) (deeds : List Deed) (old new : List (Slot N)) →
    Outcomes outcome (is_late wait) period start octets deeds old new → Stands deeds old → Stands (with_put wait period start octets deeds) new
stands_then outcome wait period start octets deeds old new h s =
    subst (λ (all : List Deed). Stands all new) (sym (with_some (is_late wait) (Put period start octets) octets deeds h.some))
    (stands_if outcome (is_late wait) period start octets deeds old new h s)

pub stands_period : {N : ℕ} → (outcome : Outcome) (wait period start part n size at piece : ℕ) (payload : List ℕ) (deeds : List Deed) (old new : List (Slot N)) →
    start ≡ start_of part n → at ≡ octets_before (n * size) part (length payload) → at + piece ≡ octets_before ((n + 1) * size) part (length payload) →
    Outcomes outcome (is_late wait) period start (slice_range payload at (at + piece)) deeds old new → Stands deeds old →
    Stands (with_put wait period (start_of part n) (octets_of size part payload n) deeds) new
stands_period outcome wait period start part n size at piece payload deeds old new b a e h s =
    subst (λ (i : ℕ). Stands (with_put wait period i (octets_of size part payload n) deeds) new) b
    (subst (λ (j : ℕ). Stands (with_put wait period start (slice_range payload j (octets_before ((n + 1) * size) part (length payload))) deeds) new) a
    (subst (λ (j : ℕ). Stands (with_put wait period start (slice_range payload at j) deeds) new) e
    (stands_then outcome wait period start (slice_range payload at (at + piece)) deeds old new h s)))

pub same_wait : {N : ℕ} → (one other period start : ℕ) (octets : List ℕ) (deeds : List Deed) (slots : List (Slot N)) → one ≡ other →
    Stands (with_put one period start octets deeds) slots → Stands (with_put other period start octets deeds) slots
same_wait one other period start octets deeds slots e s = subst (λ (w : ℕ). Stands (with_put w period start octets deeds) slots) e s

-- ---- all periods

pub with_next : {N : ℕ} → (size : ℕ) (pace : Pace) (tick first part : ℕ) (payload : List ℕ) (n : ℕ) (deeds : List Deed) (slots : List (Slot N)) →
    Stands (with_periods size pace tick first part payload (suc n) deeds) slots → Stands (with_periods size pace tick first part payload (n + 1) deeds) slots
with_next size pace tick first part payload n deeds slots s =
    let same : suc n ≡ n + 1 = omega arith in
    subst (λ (m : ℕ). Stands (with_periods size pace tick first part payload m deeds) slots) same s

-- a period without octets isn't put
not_put : (late : Bool) (octets : List ℕ) (deed : Deed) (deeds : List Deed) → length octets ≡ 0 → (if late || (length octets == 0) then deeds else deed ∷ deeds) ≡ deeds
not_put true octets deed deeds e = refl
not_put false octets deed deeds e = grind (arith, e)

no_octets_of : (size part : ℕ) (payload : List ℕ) (m : ℕ) → count_of size part (length payload) m ≡ 0 → length (octets_of size part payload m) ≡ 0
no_octets_of size part payload m e =
    let short : length (octets_of size part payload m) ≤ count_of size part (length payload) m =
    length-take-of (octets_before ((m + 1) * size) part (length payload)) (octets_before (m * size) part (length payload)) payload in
    omega (arith, short, e)
  where
    length-take-of : (until from : ℕ) (xs : List ℕ) → length (slice_range xs from until) ≤ until - from
    length-take-of until from xs = grind (arith, common_steps)

pub all_periods : {N : ℕ} → (size : ℕ) (pace : Pace) (tick first part : ℕ) (payload : List ℕ) (n : ℕ) (deeds : List Deed) (slots : List (Slot N)) → n ≤ 51 →
    octets_before (n * size) part (length payload) ≡ length payload →
    Stands (with_periods size pace tick first part payload n deeds) slots → Stands (with_periods size pace tick first part payload 51 deeds) slots
all_periods size pace tick first part payload n deeds slots l e s =
    subst (λ (all : List Deed). Stands all slots)
    (sym (stays_to (λ m. with_periods size pace tick first part payload m deeds) n 51 l
    (λ m r. not_put (is_late (wait_of pace (on first m) tick)) (octets_of size part payload m) _ _ (no_octets_of size part payload m (none_left n m size part (length payload) r e))))) s

-- ---- what is told of the path

-- the pace after the periods so far: the first one has told what it tells
pub record Told (n : ℕ) (after_first : Pace) (old now : Pace) (old_newest newest : ℕ) : Type 0 where
  pub none_yet : n ≡ 0 → (now ≡ old) × (newest ≡ old_newest)
  pub once : n ≢ 0 → now ≡ after_first

pub told_once : {N : ℕ} → (n first tick part length : ℕ) (watched : Bool) (initial : Buffer N) (outcome : Outcome) (now new : Pace) (newest then_newest : ℕ) → first < 2 ^ 32 →
    period_outcome initial tick first part length n ≡ Some outcome →
    Told n (pace_laid initial tick first part length watched) initial.pace now initial.newest newest →
    new ≡ pace_told (Some outcome) now (wait_of now (on first n) tick) (newest_wait now newest tick) tick (watched && (n == 0)) → (n ≢ 0 → new ≡ now) →
    Told (n + 1) (pace_laid initial tick first part length watched) initial.pace new initial.newest then_newest
told_once zero first tick part length watched initial outcome now new newest then_newest fits is h at later = record {
  none_yet = λ e. absurd (omega (arith, e));
  once = λ d. at
      ∙ ap (λ (p : Pace). pace_told (Some outcome) p (wait_of p (on first 0) tick) (newest_wait p newest tick) tick (watched && true)) (h.none_yet refl).0
      ∙ ap (λ (m : ℕ). pace_told (Some outcome) initial.pace (wait_of initial.pace (on first 0) tick) (newest_wait initial.pace m tick) tick (watched && true)) (h.none_yet refl).1
      ∙ ap (λ (p : ℕ). pace_told (Some outcome) initial.pace (wait_of initial.pace p tick) (newest_wait initial.pace initial.newest tick) tick (watched && true)) same
      ∙ ap (λ (w : Bool). pace_told (Some outcome) initial.pace (wait_of initial.pace first tick) (newest_wait initial.pace initial.newest tick) tick w) (and_true watched)
      ∙ ap (λ (o : Option Outcome). pace_told o initial.pace (wait_of initial.pace first tick) (newest_wait initial.pace initial.newest tick) tick watched) (sym is);
}
  where
    same : on first 0 ≡ first
    same = omega (arith, fits)

    and_true : (b : Bool) → (b && true) ≡ b
    and_true true = refl
    and_true false = refl
told_once (suc n) first tick part length watched initial outcome now new newest then_newest fits is h at later = record {
  none_yet = λ e. absurd (omega (arith, e));
  once = λ d. later (λ e. absurd (omega (arith, e))) ∙ h.once (λ e. absurd (omega (arith, e)));
}

-- all is told, also of an empty payload
pub all_told : {N : ℕ} → (n first tick part length : ℕ) (watched : Bool) (initial : Buffer N) (now : Pace) (newest : ℕ) →
    ((m : ℕ) → n ≤ m → period_outcome initial tick first part length m ≡ None) →
    Told n (pace_laid initial tick first part length watched) initial.pace now initial.newest newest → now ≡ pace_laid initial tick first part length watched
all_told zero first tick part length watched initial now newest none h =
    (h.none_yet refl).0
    ∙ ap (λ (o : Option Outcome). pace_told o initial.pace (wait_of initial.pace first tick) (newest_wait initial.pace initial.newest tick) tick watched)
    (sym (none 0 (omega arith)))
all_told (suc n) first tick part length watched initial now newest none h = h.once (λ e. absurd (omega (arith, e)))

-- a later period tells nothing
unwatched : (watched : Bool) (n : ℕ) → n ≢ 0 → (watched && (n == 0)) ≡ false
unwatched true n d = grind (arith, d)
unwatched false n d = refl

pub later_is : (outcome : Outcome) (n wait tick : ℕ) (is_watched watched : Bool) (old new : Pace) → n ≢ 0 → watched ≡ (is_watched && (n == 0)) →
    (outcome ≡ Taken → new ≡ seen old wait tick watched) → (outcome ≡ Late → watched ≡ false → new ≡ old) → (outcome ≡ Doubled → new ≡ old) → new ≡ old
later_is Taken n wait tick is_watched watched old new d e taken late doubled = taken refl ∙ ap (λ (w : Bool). seen old wait tick w) (e ∙ unwatched is_watched n d)
later_is Late n wait tick is_watched watched old new d e taken late doubled = late refl (e ∙ unwatched is_watched n d)
later_is Doubled n wait tick is_watched watched old new d e taken late doubled = doubled refl

-- What waits in time is the first octet that came.
use Rattle.std.proofs.Common.{◌≡◌, ◌<◌, ◌≤◌, ℕ, subst, List, [], ◌∷◌, length, refl, arith}
use Rattle.std.specs.Prelude.{Bool, Option, Some, None, unwrap_or, true, false, ◌≢◌, slice_index_or, ◌==◌, if◌then◌else◌}
use Rattle.rtp_buffer.specs.declared.octet.Octet.{Octet}
use Rattle.rtp_buffer.specs.declared.octet.Octet.TheVariants.{Missing, Held}
use Rattle.rtp_buffer.specs.Octets.{came, with_octet, heard, after_taking, after_leaving_out}
use Rattle.rtp_buffer.specs.declared.slot.Slot.{Slot}
use Rattle.rtp_buffer.specs.Store.{place, slot_of, is_before, in_slot, no_slot}
use Rattle.rtp_buffer.proofs.Slots.{nothing_at}
use Rattle.rtp_buffer.specs.History.{Deed, Put, Take, LeaveOut, LeaveOutBefore, step, place_after, came_by, or_else, first_came, gives_away, leaves, is_waiting, Stands}

-- a place where nothing was played
waiting : Option ℕ → Octet
waiting (Some octet) = Held octet
waiting None = Missing

one_more : (deed : Deed) (period k : ℕ) (first : Option ℕ) → gives_away deed period ≡ false → leaves deed period ≡ true →
    step deed period k (waiting first) ≡ waiting (or_else first (came_by deed period k))
unfolding waiting
one_more (Put other part octets) period k (Some octet) own h = grind (arith, own)
one_more (Put other part octets) period k None own h = grind (arith, own)
one_more (Take other) period k first own h = grind (arith, h)
one_more (LeaveOut other) period k first own h = grind (arith, h)
one_more (LeaveOutBefore other) period k first own h = grind (arith, h)

forgotten : (deed : Deed) (period k : ℕ) (octet : Octet) → gives_away deed period ≡ true → step deed period k octet ≡ Missing
forgotten (Put other part octets) period k octet away = grind (arith, away)
forgotten (Take other) period k octet away = absurd (grind (arith, away))
forgotten (LeaveOut other) period k octet away = absurd (grind (arith, away))
forgotten (LeaveOutBefore other) period k octet away = absurd (grind (arith, away))

stands : (deeds : List Deed) (period k : ℕ) → is_waiting deeds period ≡ true → place_after deeds period k ≡ waiting (first_came deeds period k)
unfolding waiting
stands [] period k h = refl
stands (deed ∷ deeds) period k h = by_slot (stands deeds period k) (gives_away deed period) refl
  where
    by_slot : (is_waiting deeds period ≡ true → place_after deeds period k ≡ waiting (first_came deeds period k)) → (away : Bool) → gives_away deed period ≡ away →
        place_after (deed ∷ deeds) period k ≡ waiting (first_came (deed ∷ deeds) period k)
    by_slot before true e = grind (arith, e, forgotten deed period k (place_after deeds period k))
    by_slot before false e = grind (arith, h, e, before, one_more deed period k (first_came deeds period k))

heard_waiting : (first : Option ℕ) (filler : ℕ) → heard (waiting first) filler ≡ unwrap_or first filler
unfolding waiting
heard_waiting (Some octet) filler = refl
heard_waiting None filler = refl

-- what is played is the first octet that came, or the filler
pub first_is_heard : (deeds : List Deed) (period k filler : ℕ) → is_waiting deeds period ≡ true →
    heard (place_after deeds period k) filler ≡ unwrap_or (first_came deeds period k) filler
first_is_heard deeds period k filler h = grind (arith, stands deeds period k h, heard_waiting (first_came deeds period k) filler)

pub heard_in_time : {N : ℕ} → (deeds : List Deed) (slots : List (Slot N)) (period k filler octet : ℕ) → Stands deeds slots → is_waiting deeds period ≡ true →
    octet ≡ heard (place slots period k) filler → octet ≡ unwrap_or (first_came deeds period k) filler
heard_in_time deeds slots period k filler octet s w h = grind (arith, h, s.places period k, first_is_heard deeds period k filler w)

-- ---- the store after one more deed

put_place : (of : Octet → Octet) (old new : ℕ → ℕ → Octet) (period other k : ℕ) →
    new period k ≡ of (old period k) →
    (slot_of other ≡ slot_of period → other ≢ period → new other k ≡ Missing) →
    (slot_of other ≢ slot_of period → new other k ≡ old other k) →
    new other k ≡ (if period == other then of (old other k) else if slot_of period == slot_of other then Missing else old other k)
put_place of old new period other k own same others = grind (arith, own, same, others)

pub after_put : {N : ℕ} → (deeds : List Deed) (old new : List (Slot N)) (period part : ℕ) (octets : List ℕ) →
    ((k : ℕ) → place new period k ≡ with_octet (place old period k) (came part octets (length octets) k)) →
    ((other k : ℕ) → slot_of other ≡ slot_of period → other ≢ period → place new other k ≡ Missing) →
    ((other k : ℕ) → slot_of other ≢ slot_of period → place new other k ≡ place old other k) →
    Stands deeds old → Stands (Put period part octets ∷ deeds) new
after_put deeds old new period part octets own same others s = record {
  places = λ other k.
      subst (λ (o : Octet). place new other k ≡ step (Put period part octets) other k o) (s.places other k)
      (put_place (λ o. with_octet o (came part octets (length octets) k)) (place old) (place new) period other k (own k) (same other k) (others other k));
}

own_place : (of : Octet → Octet) (old new : ℕ → ℕ → Octet) (period other k : ℕ) → new period k ≡ of (old period k) →
    (other ≢ period → new other k ≡ old other k) → new other k ≡ (if period == other then of (old other k) else old other k)
own_place of old new period other k own others = grind (arith, own, others)

pub after_take : {N : ℕ} → (deeds : List Deed) (old new : List (Slot N)) (period : ℕ) → ((k : ℕ) → place new period k ≡ after_taking (place old period k)) →
    ((other k : ℕ) → other ≢ period → place new other k ≡ place old other k) → Stands deeds old → Stands (Take period ∷ deeds) new
after_take deeds old new period own others s = record {
  places = λ other k.
      subst (λ (o : Octet). place new other k ≡ step (Take period) other k o) (s.places other k)
      (own_place after_taking (place old) (place new) period other k (own k) (others other k));
}

pub after_leave_out : {N : ℕ} → (deeds : List Deed) (old new : List (Slot N)) (period : ℕ) → ((k : ℕ) → place new period k ≡ after_leaving_out (place old period k)) →
    ((other k : ℕ) → other ≢ period → place new other k ≡ place old other k) → Stands deeds old → Stands (LeaveOut period ∷ deeds) new
after_leave_out deeds old new period own others s = record {
  places = λ other k.
      subst (λ (o : Octet). place new other k ≡ step (LeaveOut period) other k o) (s.places other k)
      (own_place after_leaving_out (place old) (place new) period other k (own k) (others other k));
}

pub after_leave_out_before : {N : ℕ} → (deeds : List Deed) (old new : List (Slot N)) (first : ℕ) →
    ((period k : ℕ) → place new period k ≡ (if is_before period first then after_leaving_out (place old period k) else place old period k)) →
    Stands deeds old → Stands (LeaveOutBefore first ∷ deeds) new
after_leave_out_before deeds old new first value s = record {
  places = λ period k. subst (λ (o : Octet). place new period k ≡ step (LeaveOutBefore first) period k o) (s.places period k) (value period k);
}

-- ---- an empty store

empty_in : {N : ℕ} → (slot : Slot N) (period k : ℕ) → slice_index_or slot.octets k Missing ≡ Missing → in_slot slot period k ≡ Missing
empty_in slot period k h = grind (arith, h, nothing_at k)

pub nothing : {N : ℕ} → (slots : List (Slot N)) (n : ℕ) → ((j : ℕ) → j < n → (k : ℕ) → slice_index_or (slice_index_or slots j no_slot).octets k Missing ≡ Missing) → 256 ≤ n → (period k : ℕ) → place slots period k ≡ Missing
nothing slots n h l period k = empty_in (slice_index_or slots (slot_of period) no_slot) period k (h (slot_of period) (omega arith) k)

pub stands_empty : {N : ℕ} → (slots : List (Slot N)) → ((period k : ℕ) → place slots period k ≡ Missing) → Stands [] slots
stands_empty slots h = record { places = h }

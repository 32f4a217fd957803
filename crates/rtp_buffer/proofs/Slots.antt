-- What is known of a slot's octets.
use Rattle.std.proofs.Common.{◌≡◌, ℕ, List, length, ◌<◌, refl, ap, ◌∙◌, [], arith}
use Rattle.std.specs.Prelude.{slice_index_or, slice_set, ◌≢◌, Bool, true, false, if◌then◌else◌}
use Rattle.std.proofs.lemmas.List.{get_or-set_same, get_or-set_other, get_or_default}
use Rattle.rtp_buffer.specs.declared.octet.Octet.{Octet}
use Rattle.rtp_buffer.specs.declared.octet.Octet.TheVariants.{Missing}
use Rattle.rtp_buffer.specs.declared.slot.Slot.{Slot}
use Rattle.rtp_buffer.specs.Octets.{after_leaving_out}
use Rattle.rtp_buffer.specs.Store.{in_slot, no_slot, place, slot_of}

pub nothing_at : (k : ℕ) → slice_index_or [] k Missing ≡ Missing
nothing_at k = refl

pub of_another : {N : ℕ} → (slot : Slot N) (period k : ℕ) → slot.period ≢ period → in_slot slot period k ≡ Missing
of_another slot period k h = grind (arith, nothing_at k)

-- what is the same of a slot and the one in its place is the same of each slot
same_of_each : {N : ℕ} → (of : Slot N → Octet) (slots : List (Slot N)) (i j : ℕ) (slot : Slot N) → i < length slots → of slot ≡ of (slice_index_or slots i no_slot) →
    of (slice_index_or (slice_set slots i slot) j no_slot) ≡ of (slice_index_or slots j no_slot)
same_of_each of slots i j slot l h = grind (arith, get_or-set_same slots i slot no_slot l, get_or-set_other slots i j slot no_slot, h)

pub stays : {N : ℕ} → (slots : List (Slot N)) (i : ℕ) (slot d : Slot N) (other k : ℕ) → i < length slots → in_slot slot other k ≡ in_slot (slice_index_or slots i d) other k →
    place (slice_set slots i slot) other k ≡ place slots other k
stays slots i slot d other k l h =
    same_of_each (λ s. in_slot s other k) slots i (slot_of other) slot l (h ∙ ap (λ s. in_slot s other k) (get_or_default slots i d no_slot l))

-- the octets of a period are left out if it is before another
pub left_out : {N : ℕ} → (before : ℕ → Bool) (slot : Slot N) (row : List Octet) (period k : ℕ) → slice_index_or row k Missing ≡ after_leaving_out (slice_index_or slot.octets k Missing) →
    before slot.period ≡ true →
    in_slot {N = N} (record { period = slot.period; octets = row }) period k ≡ (if before period then after_leaving_out (in_slot slot period k) else in_slot slot period k)
left_out before slot row period k h e = grind (arith, nothing_at k, h, e)

pub not_left_out : {N : ℕ} → (before : ℕ → Bool) (slot : Slot N) (period k : ℕ) → before slot.period ≡ false →
    in_slot slot period k ≡ (if before period then after_leaving_out (in_slot slot period k) else in_slot slot period k)
not_left_out before slot period k e = grind (arith, nothing_at k, e)

-- Whether all octets of a stretch came, as a Bool.
use Rattle.std.proofs.Common.{◌≡◌, ℕ, zero, suc, ◌+◌, ◌≤◌, ◌<◌, List, refl, ap, ◌∙◌, arith}
use Rattle.std.specs.Prelude.{Bool, true, false, ◌&&◌, ◌==◌}
use Rattle.std.specs.List.{list_all, range_with_len}
use Rattle.rtp_buffer.specs.declared.slot.Slot.{Slot}
use Rattle.rtp_buffer.specs.Store.{known}
use Rattle.rtp_buffer.specs.declared.buffer.Buffer.{Buffer}
use Rattle.rtp_buffer.specs.declared.buffer.Outcome.TheVariants.{Taken, Late, Doubled}
use Rattle.rtp_buffer.specs.Pace.{wait_of, is_late}
use Rattle.rtp_buffer.specs.Buffer.{AllKnown, IsLacking, all_known, outcome_of}

all_pass : (passes : ℕ → Bool) (a n : ℕ) → ((k : ℕ) → a ≤ k → k < a + n → passes k ≡ true) → list_all passes (range_with_len a n) ≡ true
all_pass passes a zero h = refl
all_pass passes a (suc n) h =
    rw (h a (omega arith) (omega arith)) (all_pass passes (a + 1) n (λ k l r. h k (omega (arith, l)) (omega (arith, r))))

first_fails : (b rest : Bool) → b ≡ false → (b && rest) ≡ false
first_fails false rest e = refl
first_fails true rest e = absurd (grind (arith, e))

later_fails : (b rest : Bool) → rest ≡ false → (b && rest) ≡ false
later_fails false rest e = refl
later_fails true rest e = e

one_fails : (passes : ℕ → Bool) (a n k : ℕ) → a ≤ k → k < a + n → passes k ≡ false → list_all passes (range_with_len a n) ≡ false
one_fails passes a zero k l r h = absurd (omega (arith, l, r))
one_fails passes a (suc n) k l r h = by_side (λ d. one_fails passes (a + 1) n k d (omega (arith, r)) h) (a == k) refl
  where
    by_side : (a + 1 ≤ k → list_all passes (range_with_len (a + 1) n) ≡ false) → (b : Bool) → (a == k) ≡ b → list_all passes (range_with_len a (suc n)) ≡ false
    by_side later true e = first_fails (passes a) _ (ap passes (grind (arith, e)) ∙ h)
    by_side later false e = later_fails (passes a) _ (later (grind (arith, e, l)))

pub all_are_known : {N : ℕ} → (slots : List (Slot N)) (period part count : ℕ) → AllKnown slots period part count → all_known slots period part count ≡ true
all_are_known slots period part count h = all_pass (λ k. known slots period k) part count h

pub some_lack : {N : ℕ} → (slots : List (Slot N)) (period part count : ℕ) → IsLacking slots period part count → all_known slots period part count ≡ false
some_lack slots period part count (k, l, r, h) = one_fails (λ k. known slots period k) part count k l r h

-- ---- what becomes of octets that come

pub is_doubled : {N : ℕ} → (buffer : Buffer N) (period part count tick : ℕ) → AllKnown buffer.store.slots period part count →
    Doubled ≡ outcome_of buffer period part count tick
is_doubled buffer period part count tick h = rw (all_are_known buffer.store.slots period part count h) refl

pub is_late_one : {N : ℕ} → (buffer : Buffer N) (period part count tick : ℕ) → IsLacking buffer.store.slots period part count →
    is_late (wait_of buffer.pace period tick) ≡ true → Late ≡ outcome_of buffer period part count tick
is_late_one buffer period part count tick h late = rw (some_lack buffer.store.slots period part count h, late) refl

pub is_taken : {N : ℕ} → (buffer : Buffer N) (period part count tick : ℕ) → IsLacking buffer.store.slots period part count →
    is_late (wait_of buffer.pace period tick) ≡ false → Taken ≡ outcome_of buffer period part count tick
is_taken buffer period part count tick h late = rw (some_lack buffer.store.slots period part count h, late) refl

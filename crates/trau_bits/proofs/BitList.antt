-- For crates above: an octet list has 8 bits for each octet (`length-bits_of`), and they determine it
-- (`bits_of-injective`).
use Rattle.std.proofs.Common.{◌≡◌, ℕ, ◌+◌, ◌-◌, ◌*◌, ◌/◌, ◌%◌, ◌<◌, ◌≢◌, List, length, get_or, set, sym, ap, ◌∙◌, subst, arith, inl, inr}
use Rattle.std.specs.Int.{bit_at}
use Rattle.std.proofs.lemmas.List.{length-set, get_or-set_same, get_or-set_other}
use Rattle.std.proofs.lemmas.List.FromFn.{length-map-range_with_len, get_or-map-range_with_len, fill_by_all}
use Rattle.std.proofs.lemmas.Grind.{same_number_lists}
use Rattle.std.proofs.lemmas.Bool.{cases_eq}
use Rattle.std.proofs.lemmas.Nat.Bits.{same_from_bits_below, bit_at-lt}
use Rattle.trau_bits.specs.Bits.{bits_of, bit_of, AreBits}

pub length-bits_of : (bytes : List ℕ) → length (bits_of bytes) ≡ 8 * length bytes
unfolding bits_of
length-bits_of bytes = length-map-range_with_len (bit_of bytes) 0 (8 * length bytes)

pub get_or-bits_of : (bytes : List ℕ) (i : ℕ) → i < 8 * length bytes → get_or (bits_of bytes) i 0 ≡ bit_of bytes i
unfolding bits_of
get_or-bits_of bytes i h = get_or-map-range_with_len (bit_of bytes) 0 (8 * length bytes) i i 0 h (omega arith)

-- v is the octet of bit i with that bit changed
pub record ChangesBit (old v i bit : ℕ) : Type 0 where
  pub here : bit_at v (7 - i % 8) ≡ bit
  pub others : (p : ℕ) → p < 8 → p ≢ 7 - i % 8 → bit_at v p ≡ bit_at old p

-- a bit after the write
bit_of-set : (bytes : List ℕ) (i v bit k : ℕ) → i < 8 * length bytes → ChangesBit (get_or bytes (i / 8) 0) v i bit →
    k ≢ i → bit_of (set bytes (i / 8) v) k ≡ bit_of bytes k
bit_of-set bytes i v bit k within h ne =
    elim (cases_eq (k / 8) (i / 8)) [
      | inl e ↦
          let at : get_or (set bytes (i / 8) v) (k / 8) 0 ≡ v = rw e (get_or-set_same bytes (i / 8) v 0 (omega arith)) in
          let was : get_or bytes (k / 8) 0 ≡ get_or bytes (i / 8) 0 = ap (λ j. get_or bytes j 0) e in
          rw (at, was) (h.others (7 - k % 8) (omega arith) (omega arith))
      | inr d ↦ ap (λ b. bit_at b (7 - k % 8)) (get_or-set_other bytes (i / 8) (k / 8) v 0 d)
    ]

bit_of-set_same : (bytes : List ℕ) (i v bit : ℕ) → i < 8 * length bytes → ChangesBit (get_or bytes (i / 8) 0) v i bit →
    bit_of (set bytes (i / 8) v) i ≡ get_or (set (bits_of bytes) i bit) i 0
bit_of-set_same bytes i v bit within h =
    let n = length-bits_of bytes in
    ap (λ b. bit_at b (7 - i % 8)) (get_or-set_same bytes (i / 8) v 0 (omega arith)) ∙ h.here ∙
    sym (get_or-set_same (bits_of bytes) i bit 0 (omega arith))

-- to change one bit of one octet changes that bit of the list
pub bits_of-set : (bytes : List ℕ) (i v bit : ℕ) → i < 8 * length bytes → ChangesBit (get_or bytes (i / 8) 0) v i bit →
    bits_of (set bytes (i / 8) v) ≡ set (bits_of bytes) i bit
bits_of-set bytes i v bit within h =
    same_number_lists _ _
    (simp (length-bits_of, length-set))
    (λ k below.
    let inside : k < 8 * length bytes = simp (length-bits_of, length-set) at below in
    let left : k < 8 * length (set bytes (i / 8) v) = simp length-set inside in
    get_or-bits_of (set bytes (i / 8) v) k left ∙
    (elim (cases_eq k i) [
      | inl e ↦ rw e (bit_of-set_same bytes i v bit within h)
      | inr ne ↦
          bit_of-set bytes i v bit k within h ne ∙ sym (get_or-bits_of bytes k inside) ∙
          sym (get_or-set_other (bits_of bytes) i k bit 0 ne)
    ]))

-- the bits of an octet list determine it
pub bits_of-injective : (xs ys : List ℕ) → ((k : ℕ) → k < length xs → get_or xs k 0 < 256) → ((k : ℕ) → k < length ys → get_or ys k 0 < 256) →
    bits_of xs ≡ bits_of ys → xs ≡ ys
bits_of-injective xs ys f g e =
    let lengths : 8 * length xs ≡ 8 * length ys = simp length-bits_of at (ap length e) in
    same_number_lists xs ys (omega arith) (λ k below.
    same_from_bits_below 8 (get_or xs k 0) (get_or ys k 0) (f k below) (g k (omega arith)) (λ p small.
    let i : ℕ = 8 * k + (7 - p) in
    let octet : i / 8 ≡ k = omega arith in
    let place : 7 - i % 8 ≡ p = omega arith in
    let a : bit_of xs i ≡ bit_of ys i =
    sym (get_or-bits_of xs i (omega arith)) ∙ ap (λ l. get_or l i 0) e ∙ get_or-bits_of ys i (omega arith) in
    simp (octet, place) at a))

pub bits_of-below : (bytes : List ℕ) (k d : ℕ) → k < length (bits_of bytes) → get_or (bits_of bytes) k d < 2
unfolding bits_of
bits_of-below bytes k d h =
    let count = length-bits_of bytes in
    rw (get_or-map-range_with_len (bit_of bytes) 0 (8 * length bytes) k k d (omega arith) (omega arith)) (bit_at-lt _ _)

-- bits that were written one by one are all bits of the octets
pub filled_bits : (bytes bits : List ℕ) → length bits ≡ 8 * length bytes →
    ((i : ℕ) → i < 8 * length bytes → get_or bits i 0 ≡ bit_of bytes i) → bits ≡ bits_of bytes
unfolding bits_of
filled_bits bytes bits e h = fill_by_all (bit_of bytes) bits (8 * length bytes) 0 e h

pub filled-below : (bytes bits : List ℕ) → length bits ≡ 8 * length bytes →
    ((i : ℕ) → i < 8 * length bytes → get_or bits i 0 ≡ bit_of bytes i) → AreBits bits
filled-below bytes bits e h = let same = filled_bits bytes bits e h in subst AreBits (sym same) (bits_of-below bytes)

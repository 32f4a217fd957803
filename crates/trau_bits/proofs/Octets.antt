-- For crates above: bits that are packed and unpacked are the same again (`bits_of-octets_of`), and so are octets
-- (`octets_of-bits_of`).
use Rattle.std.proofs.Common.{◌≡◌, ℕ, ◌+◌, ◌-◌, ◌*◌, ◌/◌, ◌%◌, ◌^◌, ◌<◌, ◌≤◌, suc, zero, List, map, length, get_or, sym, ap, ◌∙◌, lit<, arith}
use Rattle.std.specs.List.{range_with_len, sum}
use Rattle.std.specs.Int.{bit_at}
use Rattle.std.proofs.lemmas.List.FromFn.{length-map-range_with_len, get_or-map-range_with_len, fill_by_all}
use Rattle.std.proofs.lemmas.Grind.{same_number_lists}
use Rattle.trau_bits.specs.Bits.{bits_of, AreBits, octet_at, octets_of}
use Rattle.trau_bits.proofs.BitList.{length-bits_of, get_or-bits_of, bits_of-injective}

-- the sum of eight bits, the first the most significant
abbrev pub sum_of_eight : (ℕ → ℕ) → ℕ
sum_of_eight f = sum (map (λ j. f j * 2 ^ (7 - j)) (range_with_len 0 8))

-- eight bits f
pub record EightBits (f : ℕ → ℕ) : Type 0 where
  pub b0 : f 0 < 2
  pub b1 : f 1 < 2
  pub b2 : f 2 < 2
  pub b3 : f 3 < 2
  pub b4 : f 4 < 2
  pub b5 : f 5 < 2
  pub b6 : f 6 < 2
  pub b7 : f 7 < 2

eight_bits : (f : ℕ → ℕ) → ((k : ℕ) → k < 8 → f k < 2) → EightBits f
eight_bits f h = record {
  b0 = h 0 (lit< tt);
  b1 = h 1 (lit< tt);
  b2 = h 2 (lit< tt);
  b3 = h 3 (lit< tt);
  b4 = h 4 (lit< tt);
  b5 = h 5 (lit< tt);
  b6 = h 6 (lit< tt);
  b7 = h 7 (lit< tt);
}

sum_of_eight-below : (f : ℕ → ℕ) → EightBits f → sum_of_eight f < 256
sum_of_eight-below f h = omega arith

-- each bit is found again at its place
bit_at-sum_of_eight : (f : ℕ → ℕ) → EightBits f → (j : ℕ) → j < 8 → bit_at (sum_of_eight f) (7 - j) ≡ f j
bit_at-sum_of_eight f h zero l = omega arith
bit_at-sum_of_eight f h (suc zero) l = omega arith
bit_at-sum_of_eight f h (suc (suc zero)) l = omega arith
bit_at-sum_of_eight f h (suc (suc (suc zero))) l = omega arith
bit_at-sum_of_eight f h (suc (suc (suc (suc zero)))) l = omega arith
bit_at-sum_of_eight f h (suc (suc (suc (suc (suc zero))))) l = omega arith
bit_at-sum_of_eight f h (suc (suc (suc (suc (suc (suc zero)))))) l = omega arith
bit_at-sum_of_eight f h (suc (suc (suc (suc (suc (suc (suc zero))))))) l = omega arith
bit_at-sum_of_eight f h (suc (suc (suc (suc (suc (suc (suc (suc j)))))))) l = absurd (omega arith)

pub eight_at : (bits : List ℕ) (first : ℕ) → AreBits bits → first + 8 ≤ length bits → EightBits (λ j. get_or bits (first + j) 0)
eight_at bits first h l = eight_bits (λ j. get_or bits (first + j) 0) (λ k below. h (first + k) 0 (omega arith))

pub octet_at-below : (bits : List ℕ) (first : ℕ) → AreBits bits → first + 8 ≤ length bits → octet_at bits first < 256
unfolding octet_at
octet_at-below bits first h l = sum_of_eight-below (λ j. get_or bits (first + j) 0) (eight_at bits first h l)

bit_at-octet_at : (bits : List ℕ) (first j : ℕ) → AreBits bits → first + 8 ≤ length bits → j < 8 →
    bit_at (octet_at bits first) (7 - j) ≡ get_or bits (first + j) 0
unfolding octet_at
bit_at-octet_at bits first j h l below = bit_at-sum_of_eight (λ j. get_or bits (first + j) 0) (eight_at bits first h l) j below

pub length-octets_of : (bits : List ℕ) (n : ℕ) → length bits ≡ 8 * n → length (octets_of bits) ≡ n
unfolding octets_of
length-octets_of bits n e = length-map-range_with_len (λ k. octet_at bits (8 * k)) 0 (length bits / 8) ∙ omega arith

pub get_or-octets_of : (bits : List ℕ) (k d : ℕ) → k < length bits / 8 → get_or (octets_of bits) k d ≡ octet_at bits (8 * k)
unfolding octets_of
get_or-octets_of bits k d h = get_or-map-range_with_len (λ k. octet_at bits (8 * k)) 0 (length bits / 8) k k d h (omega arith)

pub octets_of-below : (bits : List ℕ) → AreBits bits → (k d : ℕ) → k < length (octets_of bits) → get_or (octets_of bits) k d < 256
unfolding octets_of
octets_of-below bits h k d l =
    let count : length (octets_of bits) ≡ length bits / 8 = length-map-range_with_len (λ k. octet_at bits (8 * k)) 0 (length bits / 8) in
    rw (get_or-octets_of bits k d (omega arith)) (octet_at-below bits (8 * k) h (omega arith))

-- what was packed unpacks to the same bits
pub bits_of-octets_of : (bits : List ℕ) (n : ℕ) → length bits ≡ 8 * n → AreBits bits → bits_of (octets_of bits) ≡ bits
bits_of-octets_of bits n e h =
    let count : length (octets_of bits) ≡ n = length-octets_of bits n e in
    let all : length (bits_of (octets_of bits)) ≡ 8 * n = length-bits_of (octets_of bits) ∙ ap (λ m. 8 * m) count in
    same_number_lists _ _ (all ∙ sym e) (λ k below.
    let i : k < 8 * n = omega arith in
    let place : 8 * (k / 8) + k % 8 ≡ k = omega arith in
    let octet : get_or (octets_of bits) (k / 8) 0 ≡ octet_at bits (8 * (k / 8)) = get_or-octets_of bits (k / 8) 0 (omega arith) in
    get_or-bits_of (octets_of bits) k (omega arith) ∙
    ap (λ x. bit_at x (7 - k % 8)) octet ∙
    bit_at-octet_at bits (8 * (k / 8)) (k % 8) h (omega arith) (omega arith) ∙
    ap (λ m. get_or bits m 0) place)

-- what was unpacked packs to the same octets
pub octets_of-bits_of : (bytes : List ℕ) → ((k : ℕ) (d : ℕ) → k < length bytes → get_or bytes k d < 256) → AreBits (bits_of bytes) →
    octets_of (bits_of bytes) ≡ bytes
octets_of-bits_of bytes small h =
    bits_of-injective _ _
    (λ k below. octets_of-below (bits_of bytes) h k 0 below)
    (λ k below. small k 0 below)
    (bits_of-octets_of (bits_of bytes) (length bytes) (length-bits_of bytes) h)

-- octets that were written one by one are all octets of the bits
pub filled_octets : (bits bytes : List ℕ) → length bits ≡ 8 * length bytes →
    ((k : ℕ) → k < length bytes → get_or bytes k 0 ≡ octet_at bits (8 * k)) → bytes ≡ octets_of bits
unfolding octets_of
filled_octets bits bytes e h = fill_by_all (λ k. octet_at bits (8 * k)) bytes (length bits / 8) 0 (omega arith) (λ k below. h k (omega arith))

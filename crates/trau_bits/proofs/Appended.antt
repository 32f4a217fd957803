-- For crates above: whole octets of bits don't change when bits are appended (`octets_of-append`), and their number
-- (`length-whole_octets`).
use Rattle.std.proofs.Common.{◌≡◌, inl, inr, ℕ, ◌+◌, ◌-◌, ◌*◌, ◌/◌, ◌<◌, ◌≤◌, List, ◌++◌, length, get_or, sym, ap, ◌∙◌, lit<, arith}
use Rattle.std.proofs.lemmas.Bool.{cases_lt}
use Rattle.std.proofs.lemmas.Grind.{same_number_lists}
use Rattle.std.proofs.lemmas.List.{length-append, get_or_append_left, get_or-append_right}
use Rattle.std.proofs.lemmas.List.FromFn.{length-map-range_with_len}
use Rattle.trau_bits.specs.Bits.{octet_at, octets_of}
use Rattle.trau_bits.proofs.Octets.{length-octets_of, get_or-octets_of}

-- octets whose bits are the same are the same
same_octet : (xs ys : List ℕ) (a b : ℕ) → ((j : ℕ) → j < 8 → get_or xs (a + j) 0 ≡ get_or ys (b + j) 0) → octet_at xs a ≡ octet_at ys b
unfolding octet_at
same_octet xs ys a b h =
    omega (arith, h 0 (lit< tt), h 1 (lit< tt), h 2 (lit< tt), h 3 (lit< tt), h 4 (lit< tt), h 5 (lit< tt), h 6 (lit< tt), h 7 (lit< tt))

-- so many whole octets as the bits give
pub length-whole_octets : (bits : List ℕ) → length (octets_of bits) ≡ length bits / 8
unfolding octets_of
length-whole_octets bits = length-map-range_with_len (λ k. octet_at bits (8 * k)) 0 (length bits / 8)

-- Whole octets of bits stay as they are, whatever bits come behind them.
pub octets_of-append : (xs ys : List ℕ) (n : ℕ) → length xs ≡ 8 * n → octets_of (xs ++ ys) ≡ octets_of xs ++ octets_of ys
octets_of-append xs ys n e =
    same_number_lists (octets_of (xs ++ ys)) (octets_of xs ++ octets_of ys)
    (omega (
      arith,
      length-whole_octets (xs ++ ys),
      length-whole_octets xs,
      length-whole_octets ys,
      length-append xs ys,
      length-append (octets_of xs) (octets_of ys),
    ))
    (λ k l. each k (omega (arith, length-whole_octets (xs ++ ys), length-append xs ys)))
  where
    front : (k : ℕ) → k < n → octet_at (xs ++ ys) (8 * k) ≡ octet_at xs (8 * k)
    front k l = same_octet (xs ++ ys) xs (8 * k) (8 * k) (λ j m. get_or_append_left xs ys 0 (8 * k + j) (omega arith))

    back : (k : ℕ) → n ≤ k → octet_at (xs ++ ys) (8 * k) ≡ octet_at ys (8 * (k - n))
    back k l =
        same_octet (xs ++ ys) ys (8 * k) (8 * (k - n))
        (λ j m. get_or-append_right xs ys (8 * n) (8 * k + j) 0 e (omega arith)
        ∙ (let at : 8 * k + j - 8 * n ≡ 8 * (k - n) + j = omega arith in ap (λ (i : ℕ). get_or ys i 0) at))

    each : (k : ℕ) → k < (length xs + length ys) / 8 → get_or (octets_of (xs ++ ys)) k 0 ≡ get_or (octets_of xs ++ octets_of ys) k 0
    each k l = get_or-octets_of (xs ++ ys) k 0 (omega (arith, length-append xs ys)) ∙ elim (cases_lt k n) [
      | inl m ↦
          front k m
          ∙ sym (get_or_append_left (octets_of xs) (octets_of ys) 0 k (omega (arith, length-whole_octets xs)) ∙ get_or-octets_of xs k 0 (omega arith))
      | inr m ↦
          back k m
          ∙ sym (get_or-append_right (octets_of xs) (octets_of ys) n k 0 (length-octets_of xs n e) m ∙ get_or-octets_of ys (k - n) 0 (omega arith))
    ]

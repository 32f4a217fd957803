-- For crates above: the bits of two octet lists in a row are those of each in a row (`bits_of-append`).
use Rattle.std.proofs.Common.{◌≡◌, inl, inr, ℕ, ◌-◌, ◌*◌, ◌/◌, ◌<◌, ◌≤◌, List, ◌++◌, length, get_or, refl, sym, ap, ◌∙◌, arith, length-append}
use Rattle.std.specs.Prelude.{◌%◌}
use Rattle.std.specs.Int.{bit_at}
use Rattle.std.proofs.lemmas.Bool.{cases_lt}
use Rattle.std.proofs.lemmas.List.{get_or_append_left, get_or-append_right}
use Rattle.std.proofs.lemmas.List.FromFn.{fill_by_all}
use Rattle.trau_bits.specs.Bits.{bit_of, bits_of}
use Rattle.trau_bits.proofs.BitList.{length-bits_of, get_or-bits_of}

-- a bit of the octets in front, and of those behind
bit_of-front : (xs ys : List ℕ) (k : ℕ) → k < 8 * length xs → bit_of (xs ++ ys) k ≡ bit_of xs k
bit_of-front xs ys k l = ap (λ octet. bit_at octet (7 - k % 8)) (get_or_append_left xs ys 0 (k / 8) (omega arith))

bit_of-back : (xs ys : List ℕ) (k : ℕ) → 8 * length xs ≤ k → bit_of (xs ++ ys) k ≡ bit_of ys (k - 8 * length xs)
bit_of-back xs ys k l =
    let octet : k / 8 - length xs ≡ (k - 8 * length xs) / 8 = omega arith in
    let bit : k % 8 ≡ (k - 8 * length xs) % 8 = omega arith in
    ap (λ octet. bit_at octet (7 - k % 8)) (get_or-append_right xs ys (length xs) (k / 8) 0 refl (omega arith)) ∙
    ap (λ i. bit_at (get_or ys i 0) (7 - k % 8)) octet ∙ ap (λ j. bit_at (get_or ys ((k - 8 * length xs) / 8) 0) (7 - j)) bit

pub bits_of-append : (xs ys : List ℕ) → bits_of (xs ++ ys) ≡ bits_of xs ++ bits_of ys
unfolding bits_of
bits_of-append xs ys =
    let all = length-append xs ys in
    let n = length-bits_of xs in
    let m = length-bits_of ys in
    sym (fill_by_all (bit_of (xs ++ ys)) (bits_of xs ++ bits_of ys) (8 * length (xs ++ ys)) 0 (length-append (bits_of xs) (bits_of ys) ∙ omega arith)
    (λ k l. elim (cases_lt k (8 * length xs)) [
      | inl front ↦ get_or_append_left (bits_of xs) (bits_of ys) 0 k (omega arith) ∙ get_or-bits_of xs k front ∙ sym (bit_of-front xs ys k front)
      | inr back ↦
          get_or-append_right (bits_of xs) (bits_of ys) (8 * length xs) k 0 n back ∙ get_or-bits_of ys (k - 8 * length xs) (omega arith) ∙
          sym (bit_of-back xs ys k back)
    ]))

-- Eight bits and their octet by one product, with a word that has a bit at each ninth place.
use Rattle.std.proofs.Common.{◌≡◌, ℕ, ◌+◌, ◌-◌, ◌*◌, ◌/◌, ◌%◌, ◌<◌, ◌≤◌, Bool, true, nat_eq, List, length, slice_index, get_or, bit_and, w64, lit<, refl, ◌∙◌}
use Rattle.std.proofs.Common.{subst, arith}
use Rattle.std.specs.Int.{bit_at, from_le_bytes, to_le_bytes}
use Rattle.std.specs.List.{list_all, range_with_len}
use Rattle.std.proofs.lemmas.Bool.{eqb-true}
use Rattle.std.proofs.lemmas.List.Recursion.{and_at}
use Rattle.std.proofs.lemmas.List.FromFn.{get_or-range_with_len, length-range_with_len}
use Rattle.trau_bits.specs.Bits.{AreBits, octet_at}
use Rattle.trau_bits.proofs.Octets.{eight_at, sum_of_eight}

-- what a product of 64 bits has in its most significant octet
top : (p q o r : ℕ) → p ≡ 18446744073709551616 * q + (72057594037927936 * o + r) → r < 72057594037927936 → o < 256 →
    p % 18446744073709551616 / 72057594037927936 ≡ o
top p q o r whole rest below = omega arith

-- the octet of eight bits, one to an octet of the word
pub top_octet : (bits eight : List ℕ) (first : ℕ) → AreBits bits → first + 8 ≤ length bits →
    ((j : ℕ) → j < 8 → slice_index eight j ≡ get_or bits (first + j) 0) →
    from_le_bytes w64 eight * 9241421688590303745 % 18446744073709551616 / 72057594037927936 ≡ octet_at bits first
unfolding octet_at
top_octet bits eight first are within same =
    let b = eight_at bits first are within in
    let f = λ (j : ℕ). get_or bits (first + j) 0 in
    let e0 = same 0 (lit< tt) in let e1 = same 1 (lit< tt) in let e2 = same 2 (lit< tt) in let e3 = same 3 (lit< tt) in
    let e4 = same 4 (lit< tt) in let e5 = same 5 (lit< tt) in let e6 = same 6 (lit< tt) in let e7 = same 7 (lit< tt) in
    top (from_le_bytes w64 eight * 9241421688590303745)
    (128 * f 1 + 32832 * f 2 + 8405024 * f 3 + 2151686160 * f 4 + 550831656968 * f 5 + 141012904183812 * f 6 + 36099303471055874 * f 7)
    (sum_of_eight f)
    (18049651735527937 * f 0 + 9024825867763968 * f 1 + 4512412933881856 * f 2 + 2256206466908160 * f 3 + 1128103225065472 * f 4 + 564049465049088 * f 5
    + 281474976710656 * f 6)
    (omega arith) (omega arith) (omega arith)

-- what contains of each number of a table
entry : (p : ℕ → Bool) (n k : ℕ) → list_all p (range_with_len 0 n) ≡ true → k < n → p k ≡ true
entry p n k all below =
    let e : get_or (range_with_len 0 n) k 0 ≡ k = get_or-range_with_len 0 n k 0 below ∙ omega arith in
    subst (λ m. p m ≡ true) e
    (and_at (list_all p) p refl (λ x xs. refl) (range_with_len 0 n) k 0 (rw (length-range_with_len 0 n) below) all)

-- the eight bits of each octet
eights : list_all (λ n. list_all (λ j. nat_eq (slice_index (to_le_bytes w64
    (bit_and (n * 9241421688590303745 % 18446744073709551616 / 128) 72340172838076673)) j) (bit_at n (7 - j))) (range_with_len 0 8)) (range_with_len 0 256)
    ≡ true
eights = refl

pub eight_of : (octet j : ℕ) → octet < 256 → j < 8 →
    slice_index (to_le_bytes w64 (bit_and (octet * 9241421688590303745 % 18446744073709551616 / 128) 72340172838076673)) j ≡ bit_at octet (7 - j)
eight_of octet j below one =
    eqb-true _ _ (entry (λ j. nat_eq (slice_index (to_le_bytes w64
    (bit_and (octet * 9241421688590303745 % 18446744073709551616 / 128) 72340172838076673)) j) (bit_at octet (7 - j))) 8 j
    (entry (λ n. list_all (λ j. nat_eq (slice_index (to_le_bytes w64
    (bit_and (n * 9241421688590303745 % 18446744073709551616 / 128) 72340172838076673)) j) (bit_at n (7 - j))) (range_with_len 0 8)) 256 octet eights below)
    one)

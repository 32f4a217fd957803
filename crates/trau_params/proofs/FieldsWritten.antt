-- For crates above: 260 bits are those of the fields that are read out of them (`bits260-fields_in`).
use Rattle.std.proofs.Common.{◌≡◌, ℕ, ◌+◌, ◌*◌, ◌^◌, ◌≤◌, zero, suc, List, [], ◌∷◌, ◌++◌, length, drop, get_or, refl, sym, ap, ◌∙◌, append_assoc, arith}
use Rattle.std.specs.Prelude.{sum}
use Rattle.std.proofs.lemmas.List.{drop_more, drop_all}
use Rattle.std.proofs.lemmas.List.Sums.{sum_by-cons}
use Rattle.std.proofs.lemmas.Nat.{pow-add}
use Rattle.trau_params.specs.Widths.{larc_widths, block_widths}
use Rattle.trau_bits.specs.Bits.{AreBits}
use Rattle.trau_params.specs.FieldBits.{low_bits, field_bits}
use Rattle.trau_params.specs.Fields.{number_at, fields_in}
use Rattle.trau_params.specs.Bits260.{bits260}
use Rattle.trau_params.proofs.FieldsRead.{number_at-none, number_at-more}
use Rattle.trau_params.proofs.Fronts.{low_bits-front}

-- ---- one field

-- a bit in front of others
number_at-front : (bits : List ℕ) (offset n : ℕ) → number_at bits offset (n + 1) ≡ 2 * number_at bits (offset + 1) n + get_or bits offset 0
number_at-front bits offset zero =
    let e : offset + 0 ≡ offset = omega arith in
    number_at-more bits offset 0 ∙ ap (λ i. number_at bits offset 0 + get_or bits i 0 * 2 ^ 0) e ∙
    omega (arith, number_at-none bits offset, number_at-none bits (offset + 1))
number_at-front bits offset (suc n) =
    let e : suc n ≡ n + 1 = omega arith in
    let place : offset + (n + 1) ≡ offset + 1 + n = omega arith in
    let before = number_at-front bits offset n in
    let after = number_at-more bits (offset + 1) n in
    ap (λ m. number_at bits offset (m + 1)) e ∙ number_at-more bits offset (n + 1) ∙
    ap (λ i. number_at bits offset (n + 1) + get_or bits i 0 * 2 ^ (n + 1)) place
    ∙ ap (λ p. number_at bits offset (n + 1) + get_or bits (offset + 1 + n) 0 * p) (pow-add 2 n 1)
    ∙ next (number_at bits offset (n + 1)) (number_at bits (offset + 1) n) (number_at bits (offset + 1) (n + 1)) (get_or bits offset 0)
    (get_or bits (offset + 1 + n) 0) (2 ^ n) before after
    ∙ ap (λ m. 2 * number_at bits (offset + 1) m + get_or bits offset 0) (sym e)
  where
    next : (all low high first last power : ℕ) → all ≡ 2 * low + first → high ≡ low + last * power → all + last * (power * 2) ≡ 2 * high + first
    next all low high first last power p q = omega arith

low_bits-none : (value : ℕ) → low_bits 0 value ≡ []
unfolding low_bits
low_bits-none value = refl

-- a field's bits stand before those that follow it
field_read : (bits : List ℕ) (offset width : ℕ) → AreBits bits → offset + width ≤ length bits →
    low_bits width (number_at bits offset width) ++ drop (offset + width) bits ≡ drop offset bits
field_read bits offset zero b l =
    let e : offset + 0 ≡ offset = omega arith in
    ap (λ xs. xs ++ drop (offset + 0) bits) (low_bits-none (number_at bits offset 0)) ∙ ap (λ i. drop i bits) e
field_read bits offset (suc n) b l =
    let e : suc n ≡ n + 1 = omega arith in
    let place : offset + (n + 1) ≡ offset + 1 + n = omega arith in
    let first : ℕ = get_or bits offset 0 in
    let rest : ℕ = number_at bits (offset + 1) n in
    ap (λ m. low_bits m (number_at bits offset m) ++ drop (offset + m) bits) e
    ∙ ap (λ value. low_bits (n + 1) value ++ drop (offset + (n + 1)) bits) (number_at-front bits offset n)
    ∙ ap (λ xs. xs ++ drop (offset + (n + 1)) bits) (low_bits-front n rest first (b offset 0 (omega arith)))
    ∙ ap (λ i. first ∷ low_bits n rest ++ drop i bits) place
    ∙ ap (λ xs. first ∷ xs) (field_read bits (offset + 1) n b (omega arith))
    ∙ sym (drop_more bits offset 0 (omega arith))

-- ---- fields one after another

-- the numbers in fields of these widths, one after another
abbrev numbers_from : List ℕ → ℕ → List ℕ → List ℕ
numbers_from bits offset [] = []
numbers_from bits offset (width ∷ widths) = number_at bits offset width ∷ numbers_from bits (offset + width) widths

-- their bits stand before those that follow them
fields_read : (bits widths : List ℕ) (offset : ℕ) → AreBits bits → offset + sum widths ≤ length bits →
    field_bits widths (numbers_from bits offset widths) ++ drop (offset + sum widths) bits ≡ drop offset bits
fields_read bits [] offset b l = ap (λ i. drop i bits) (let e : offset + sum [] ≡ offset = omega arith in e)
fields_read bits (w ∷ ws) offset b l =
    let all : sum (w ∷ ws) ≡ w + sum ws = sum_by-cons (λ x. x) w ws in
    let e : offset + sum (w ∷ ws) ≡ offset + w + sum ws = omega arith in
    append_assoc (low_bits w (number_at bits offset w)) (field_bits ws (numbers_from bits (offset + w) ws)) (drop (offset + sum (w ∷ ws)) bits)
    ∙ ap (λ i. low_bits w (number_at bits offset w) ++ (field_bits ws (numbers_from bits (offset + w) ws) ++ drop i bits)) e
    ∙ ap (λ xs. low_bits w (number_at bits offset w) ++ xs) (fields_read bits ws (offset + w) b (omega arith))
    ∙ field_read bits offset w b (omega arith)

-- the bits of a block that stands at an offset
abbrev block_from : List ℕ → ℕ → List ℕ
block_from bits offset = field_bits block_widths (numbers_from bits offset block_widths)

block_read : (bits : List ℕ) (offset next : ℕ) → AreBits bits → offset + 56 ≡ next → next ≤ length bits →
    block_from bits offset ++ drop next bits ≡ drop offset bits
block_read bits offset next b e l = ap (λ i. block_from bits offset ++ drop i bits) (sym e) ∙ fields_read bits block_widths offset b (omega arith)

-- **260 bits are those of the fields that they carry.**
pub bits260-fields_in : (bits : List ℕ) → length bits ≡ 260 → AreBits bits → bits260 (fields_in bits) ≡ bits
unfolding bits260 fields_in
bits260-fields_in bits n b =
    let none : [] ≡ drop 260 bits = sym (drop_all 260 bits (omega arith)) in
    ap (λ xs. field_bits larc_widths (numbers_from bits 0 larc_widths) ++
    (block_from bits 36 ++ (block_from bits 92 ++ (block_from bits 148 ++ (block_from bits 204 ++ xs))))) none
    ∙ ap (λ xs. field_bits larc_widths (numbers_from bits 0 larc_widths) ++ (block_from bits 36 ++ (block_from bits 92 ++ (block_from bits 148 ++ xs))))
    (block_read bits 204 260 b (omega arith) (omega arith))
    ∙ ap (λ xs. field_bits larc_widths (numbers_from bits 0 larc_widths) ++ (block_from bits 36 ++ (block_from bits 92 ++ xs)))
    (block_read bits 148 204 b (omega arith) (omega arith))
    ∙ ap (λ xs. field_bits larc_widths (numbers_from bits 0 larc_widths) ++ (block_from bits 36 ++ xs)) (block_read bits 92 148 b (omega arith) (omega arith))
    ∙ ap (λ xs. field_bits larc_widths (numbers_from bits 0 larc_widths) ++ xs) (block_read bits 36 92 b (omega arith) (omega arith))
    ∙ fields_read bits larc_widths 0 b (omega arith)

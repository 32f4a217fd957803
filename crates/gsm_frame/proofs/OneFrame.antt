-- For crates above: octets carry one frame only (`one_frame`), and a frame has one list of octets only (`one_packing`).
use Rattle.std.proofs.Common.{◌≡◌, ℕ, ◌+◌, ◌-◌, ◌^◌, ◌<◌, ◌≤◌, suc, List, [], ◌++◌, All, length, get_or, sym, ap, subst, ◌∙◌}
use Rattle.std.proofs.Common.{inl, inr, replicate, arith}
use Rattle.std.proofs.lemmas.Bool.{cases_lt}
use Rattle.std.proofs.lemmas.List.{get_or-replicate, length-replicate}
use Rattle.std.proofs.lemmas.Grind.{same_number_lists}
use Rattle.trau_params.specs.declared.params.Params.{Params}
use Rattle.trau_params.specs.Fields.{Fields, fields_of}
use Rattle.trau_params.specs.FieldBits.{field_bits}
use Rattle.trau_params.specs.Widths.{larc_widths, block_widths}
use Rattle.trau_params.specs.Bits260.{bits260, bits260_of, block_values, SameFields}
use Rattle.trau_params.specs.Shape.{HasShape}
use Rattle.trau_params.proofs.OneFrame.{fits, same_fields}
use Rattle.gsm_frame.specs.Packed.{magic, octets_from, block_number, Carries}
use Rattle.gsm_frame.proofs.OneNumber.{Fit, same_from_first}

-- ---- the fields of octets

-- a value at k of a list, at k + 0
shifted : (widths values : List ℕ) → ((k : ℕ) → k < length widths → get_or values k 0 < 2 ^ get_or widths k 0) →
    Fit widths 0 (λ i. get_or values i 0)
shifted widths values h k l =
    let z : k ≡ k + 0 = omega arith in
    subst (λ m. get_or values m 0 < 2 ^ get_or widths k 0) z (h k l)

same_block : (p q : Params) → HasShape p → HasShape q → (j : ℕ) → j < 4 →
    block_number (fields_of p) j ≡ block_number (fields_of q) j → block_values p j ≡ block_values q j
same_block p q n m j h e =
    same_number_lists (block_values p j) (block_values q j)
    (ap (λ x. suc (suc (suc (suc x)))) (n.pulses j h ∙ sym (m.pulses j h)))
    (λ k l. same_from_first block_widths 0 (λ i. get_or (block_values p j) i 0) (λ i. get_or (block_values q j) i 0)
    (shifted block_widths (block_values p j) (fits p n j h)) (shifted block_widths (block_values q j) (fits q m j h)) e k
    (omega (arith, n.pulses j h)))

same_larc : (p q : Params) (octets : List ℕ) → HasShape p → HasShape q → Carries octets (fields_of p) → Carries octets (fields_of q) →
    p.larc ≡ q.larc
same_larc p q octets n m a b =
    same_number_lists p.larc q.larc (n.larc ∙ sym m.larc)
    (λ k l. same_from_first larc_widths magic (λ i. get_or p.larc i 0) (λ i. get_or q.larc i 0)
    (shifted larc_widths p.larc p.larc_fit) (shifted larc_widths q.larc q.larc_fit) (sym a.head ∙ b.head) k (omega (arith, n.larc)))

-- the bits of blocks
abbrev block_bits : List ℕ → List ℕ
block_bits values = field_bits block_widths values

bits_of_parts : (larc1 larc2 a1 a2 b1 b2 c1 c2 d1 d2 : List ℕ) → larc1 ≡ larc2 → a1 ≡ a2 → b1 ≡ b2 → c1 ≡ c2 → d1 ≡ d2 →
    field_bits larc_widths larc1 ++ (block_bits a1 ++ (block_bits b1 ++ (block_bits c1 ++ (block_bits d1 ++ [])))) ≡
    field_bits larc_widths larc2 ++ (block_bits a2 ++ (block_bits b2 ++ (block_bits c2 ++ (block_bits d2 ++ []))))
bits_of_parts larc1 larc2 a1 a2 b1 b2 c1 c2 d1 d2 e f g h k = cc

same_bits : (p q : Params) → HasShape p → HasShape q → (octets : List ℕ) → Carries octets (fields_of p) → Carries octets (fields_of q) →
    bits260_of p ≡ bits260_of q
unfolding bits260 bits260_of
same_bits p q n m octets a b =
    bits_of_parts p.larc q.larc (block_values p 0) (block_values q 0) (block_values p 1) (block_values q 1)
    (block_values p 2) (block_values q 2) (block_values p 3) (block_values q 3)
    (same_larc p q octets n m a b)
    (same_block p q n m 0 (omega arith) (sym a.first ∙ b.first))
    (same_block p q n m 1 (omega arith) (sym a.second ∙ b.second))
    (same_block p q n m 2 (omega arith) (sym a.third ∙ b.third))
    (same_block p q n m 3 (omega arith) (sym a.fourth ∙ b.fourth))

-- **Octets carry one frame alone.**
pub one_frame : (p q : Params) → HasShape p → HasShape q → (octets : List ℕ) → Carries octets (fields_of p) → Carries octets (fields_of q) →
    SameFields p q
one_frame p q n m octets a b = same_fields p q n m (same_bits p q n m octets a b)

-- ---- the octets of fields

-- the widths of so many octets
abbrev eights : ℕ → List ℕ
eights count = replicate count 8

octets_fit : (xs : List ℕ) (start count : ℕ) → ((k : ℕ) → k < length xs → get_or xs k 0 < 256) → start + count ≤ length xs →
    Fit (eights count) 0 (λ i. get_or xs (start + i) 0)
octets_fit xs start count f n k l =
    let all : length (eights count) ≡ count = length-replicate count 8 in
    let w : get_or (eights count) k 0 ≡ 8 = get_or-replicate count k 8 0 (omega (arith, all, l)) in
    rw w (f (start + (k + 0)) (omega (arith, all, l, n)))

same_octets : (a b : List ℕ) (start count : ℕ) → ((k : ℕ) → k < length a → get_or a k 0 < 256) → ((k : ℕ) → k < length b → get_or b k 0 < 256) →
    start + count ≤ length a → start + count ≤ length b → octets_from a start count ≡ octets_from b start count →
    (k : ℕ) → start ≤ k → k < start + count → get_or a k 0 ≡ get_or b k 0
same_octets a b start count f g n m e k l u =
    let all : length (eights count) ≡ count = length-replicate count 8 in
    let place : start + (k - start) ≡ k = omega arith in
    let here : get_or a (start + (k - start)) 0 ≡ get_or b (start + (k - start)) 0 =
    same_from_first (eights count) 0 (λ i. get_or a (start + i) 0) (λ i. get_or b (start + i) 0)
    (octets_fit a start count f n) (octets_fit b start count g m) e (k - start) (omega (arith, all, l, u)) in
    subst (λ i. get_or a i 0 ≡ get_or b i 0) place here

-- **A frame is carried by one list of octets alone.**
pub one_packing : (f : Fields) (a b : List ℕ) → length a ≡ 33 → length b ≡ 33 → All (λ x. x < 256) a →
    All (λ y. y < 256) b → Carries a f → Carries b f → a ≡ b
one_packing f a b n m s t c d =
    same_number_lists a b (n ∙ sym m) (λ k l. elim (cases_lt k 5) [
      | inl here ↦ same_octets a b 0 5 (λ j. s j 0) (λ j. t j 0) (omega arith) (omega arith) (c.head ∙ sym d.head) k (omega arith) (omega arith)
      | inr after ↦ elim (cases_lt k 12) [
        | inl here ↦ same_octets a b 5 7 (λ j. s j 0) (λ j. t j 0) (omega arith) (omega arith) (c.first ∙ sym d.first) k after (omega arith)
        | inr after ↦ elim (cases_lt k 19) [
          | inl here ↦ same_octets a b 12 7 (λ j. s j 0) (λ j. t j 0) (omega arith) (omega arith) (c.second ∙ sym d.second) k after (omega arith)
          | inr after ↦ elim (cases_lt k 26) [
            | inl here ↦ same_octets a b 19 7 (λ j. s j 0) (λ j. t j 0) (omega arith) (omega arith) (c.third ∙ sym d.third) k after (omega arith)
            | inr after ↦ same_octets a b 26 7 (λ j. s j 0) (λ j. t j 0) (omega arith) (omega arith) (c.fourth ∙ sym d.fourth) k after (omega arith)
          ]
        ]
      ]
    ])

-- For crates above: each value of a block fits its width (`fits`); frames with the same 260 bits have the same fields
-- (`same_fields`).
use Rattle.std.proofs.Common.{◌≡◌, ℕ, ◌+◌, ◌*◌, ◌/◌, ◌%◌, ◌^◌, ◌<◌, ◌≤◌, zero, suc, List, [], ◌∷◌, ◌++◌, All, length, take, get_or, refl, sym, ap, ◌∙◌, inl}
use Rattle.std.proofs.Common.{inr, arith}
use Rattle.std.specs.List.{range_with_len, flat_map}
use Rattle.std.proofs.lemmas.List.{take_at, append_cancel_left, get_or-replicate, get_or_default, same_lists, length-append}
use Rattle.std.proofs.lemmas.List.Elements.{All-get_or}
use Rattle.std.proofs.lemmas.Grind.{same_number_lists}
use Rattle.std.proofs.lemmas.Bool.{cases_eq}
use Rattle.std.proofs.lemmas.Nat.{pow-add}
use Rattle.trau_params.specs.declared.params.Params.{Params}
use Rattle.trau_params.specs.Widths.{larc_widths, block_widths, pulse_widths, FitWidth}
use Rattle.trau_params.specs.FieldBits.{low_bits, field_bits}
use Rattle.trau_params.specs.Bits260.{bits260, bits260_of, block_values, SameFields}
use Rattle.trau_params.specs.Shape.{HasShape}
use Rattle.trau_params.proofs.BlockBits.{block_bits}
use Rattle.trau_params.proofs.Fronts.{length-low_bits, low_bits-front}

-- ---- two lists of the same length in front

-- two lists whose fronts are as long have the same front
same_front : (a b c d : List ℕ) → length a ≡ length b → a ++ c ≡ b ++ d → a ≡ b
same_front a b c d n e = sym (take_at a c (length b) n) ∙ ap (take (length b)) e ∙ take_at b d (length b) refl

-- and the same rest
same_rest : (a b c d : List ℕ) → length a ≡ length b → a ++ c ≡ b ++ d → c ≡ d
same_rest a b c d n e =
    append_cancel_left b c d (ap (λ xs. xs ++ c) (sym (same_front a b c d n e)) ∙ e)

-- ---- one value for each list of bits

-- the lowest bit, and those of the half
low_bits-suc : (n value : ℕ) → low_bits (suc n) value ≡ value % 2 ∷ low_bits n (value / 2)
low_bits-suc n value =
    let e : suc n ≡ n + 1 = omega arith in
    let v : value ≡ 2 * (value / 2) + value % 2 = omega arith in
    let b : value % 2 < 2 = omega arith in
    ap (λ m. low_bits m value) e ∙ ap (low_bits (n + 1)) v ∙ low_bits-front n (value / 2) (value % 2) b

-- bits determine a value within its width
same_value : (width v u : ℕ) → v < 2 ^ width → u < 2 ^ width → low_bits width v ≡ low_bits width u → v ≡ u
same_value zero v u h g e = omega arith
same_value (suc n) v u h g e =
    let s : v % 2 ∷ low_bits n (v / 2) ≡ u % 2 ∷ low_bits n (u / 2) = sym (low_bits-suc n v) ∙ e ∙ low_bits-suc n u in
    let bit : v % 2 ≡ u % 2 = cc in
    let rest : low_bits n (v / 2) ≡ low_bits n (u / 2) = cc in
    let e : suc n ≡ n + 1 = omega arith in
    let p : 2 ^ suc n ≡ 2 ^ n * 2 = ap (λ m. 2 ^ m) e ∙ pow-add 2 n 1 in
    let half : v / 2 ≡ u / 2 = same_value n (v / 2) (u / 2) (omega arith) (omega arith) rest in
    omega arith

-- ---- one list of values for each list of field bits

length-field_bits : (widths values others : List ℕ) → length values ≡ length others →
    length (field_bits widths values) ≡ length (field_bits widths others)
length-field_bits [] vs us h = refl
length-field_bits (w ∷ ws) [] [] h = refl
length-field_bits (w ∷ ws) [] (u ∷ us) h = absurd (omega arith)
length-field_bits (w ∷ ws) (v ∷ vs) [] h = absurd (omega arith)
length-field_bits (w ∷ ws) (v ∷ vs) (u ∷ us) h =
    let rest = length-field_bits ws vs us (omega arith) in
    length-append (low_bits w v) (field_bits ws vs) ∙
    (omega (arith, rest, length-low_bits w v, length-low_bits w u)) ∙
    sym (length-append (low_bits w u) (field_bits ws us))

-- and so several values
same_values : (widths values others : List ℕ) → length values ≡ length widths → length others ≡ length widths →
    ((k : ℕ) → k < length widths → get_or values k 0 < 2 ^ get_or widths k 0) →
    ((k : ℕ) → k < length widths → get_or others k 0 < 2 ^ get_or widths k 0) →
    field_bits widths values ≡ field_bits widths others → values ≡ others
same_values [] [] [] m n h g e = refl
same_values [] [] (u ∷ us) m n h g e = absurd (omega arith)
same_values [] (v ∷ vs) us m n h g e = absurd (omega arith)
same_values (w ∷ ws) [] us m n h g e = absurd (omega arith)
same_values (w ∷ ws) (v ∷ vs) [] m n h g e = absurd (omega arith)
same_values (w ∷ ws) (v ∷ vs) (u ∷ us) m n h g e =
    let long : length (low_bits w v) ≡ length (low_bits w u) = length-low_bits w v ∙ sym (length-low_bits w u) in
    let first : v ≡ u = same_value w v u (h 0 (omega arith)) (g 0 (omega arith))
    (same_front (low_bits w v) (low_bits w u) (field_bits ws vs) (field_bits ws us) long e) in
    let rest : vs ≡ us = same_values ws vs us (omega arith) (omega arith)
    (λ k l. h (suc k) (omega arith)) (λ k l. g (suc k) (omega arith))
    (same_rest (low_bits w v) (low_bits w u) (field_bits ws vs) (field_bits ws us) long e) in
    cc

-- parts of the same lengths agree one by one
same_parts : (f g : ℕ → List ℕ) (a n : ℕ) → ((k : ℕ) → a ≤ k → k < a + n → length (f k) ≡ length (g k)) →
    flat_map f (range_with_len a n) ≡ flat_map g (range_with_len a n) → (k : ℕ) → a ≤ k → k < a + n → f k ≡ g k
same_parts f g a zero h e k l u = absurd (omega arith)
same_parts f g a (suc n) h e k l u =
    let here = h a (omega arith) (omega arith) in
    elim (cases_eq k a) [
      | inl s ↦ rw s (same_front (f a) (g a) _ _ here e)
      | inr s ↦ same_parts f g (a + 1) n (λ j p q. h j (omega arith) (omega arith))
          (same_rest (f a) (g a) _ _ here e) k (omega arith) (omega arith)
    ]

-- ---- the fields of a frame

-- each field of a block fits its width
block_fits : (nc bc mc xmaxc : ℕ) (xmc : List ℕ) → nc < 128 → bc < 4 → mc < 4 → xmaxc < 64 →
    All (λ v. v < 8) xmc → length xmc ≡ 13 → (k : ℕ) → k < 17 →
    get_or (nc ∷ bc ∷ mc ∷ xmaxc ∷ xmc) k 0 < 2 ^ get_or block_widths k 0
block_fits a b c d xs p q r s t n zero l = p
block_fits a b c d xs p q r s t n (suc zero) l = q
block_fits a b c d xs p q r s t n (suc (suc zero)) l = r
block_fits a b c d xs p q r s t n (suc (suc (suc zero))) l = s
block_fits a b c d xs p q r s t n (suc (suc (suc (suc k)))) l =
    let below : k < 13 = omega arith in
    let w : get_or pulse_widths k 0 ≡ 3 = get_or-replicate 13 k 3 0 below in
    rw w (All-get_or (λ v. v < 8) xs k 0 (omega arith) t)

-- the same in a frame
pub fits : (p : Params) → HasShape p → (j : ℕ) → j < 4 → (k : ℕ) → k < 17 →
    get_or (block_values p j) k 0 < 2 ^ get_or block_widths k 0
fits p n j h =
    block_fits (get_or p.nc j 0) (get_or p.bc j 0) (get_or p.mc j 0) (get_or p.xmaxc j 0) (get_or p.xmc j [])
    (All-get_or (λ v. v < 128) p.nc j 0 (omega (arith, n.nc)) p.nc_fit)
    (All-get_or (λ v. v < 4) p.bc j 0 (omega (arith, n.bc)) p.bc_fit)
    (All-get_or (λ v. v < 4) p.mc j 0 (omega (arith, n.mc)) p.mc_fit)
    (All-get_or (λ v. v < 64) p.xmaxc j 0 (omega (arith, n.xmaxc)) p.xmaxc_fit)
    (All-get_or (λ row. FitWidth 3 row) p.xmc j [] (omega (arith, n.xmc)) p.xmc_fit)
    (n.pulses j h)

-- the bits of a block determine it
same_block : (p q : Params) → HasShape p → HasShape q → (j : ℕ) → j < 4 →
    block_bits p j ≡ block_bits q j → block_values p j ≡ block_values q j
same_block p q m n j h e =
    let a : length (get_or p.xmc j []) ≡ 13 = m.pulses j h in
    let b : length (get_or q.xmc j []) ≡ 13 = n.pulses j h in
    same_values block_widths (block_values p j) (block_values q j) (omega arith) (omega arith) (fits p m j h) (fits q n j h) e

-- and those of all four each of them
same_blocks : (p q : Params) → HasShape p → HasShape q →
    flat_map (block_bits p) (range_with_len 0 4) ≡ flat_map (block_bits q) (range_with_len 0 4) →
    (j : ℕ) → j < 4 → block_values p j ≡ block_values q j
same_blocks p q m n e j h =
    same_block p q m n j h
    (same_parts (block_bits p) (block_bits q) 0 4
    (λ k l u. length-field_bits block_widths (block_values p k) (block_values q k)
    (ap (λ x. suc (suc (suc (suc x)))) (m.pulses k (omega arith) ∙ sym (n.pulses k (omega arith)))))
    e j (omega arith) (omega arith))

-- so each of its numbers
same_number : (p q : Params) → ((j : ℕ) → j < 4 → block_values p j ≡ block_values q j) →
    (j : ℕ) → j < 4 →
    (get_or p.nc j 0 ≡ get_or q.nc j 0) × (get_or p.bc j 0 ≡ get_or q.bc j 0) × (get_or p.mc j 0 ≡ get_or q.mc j 0) ×
    (get_or p.xmaxc j 0 ≡ get_or q.xmaxc j 0) × (get_or p.xmc j [] ≡ get_or q.xmc j [])
same_number p q e j h = let s = e j h in (cc, cc, cc, cc, cc)

-- **The 260 bits determine the frame.**
pub same_fields : (p q : Params) → HasShape p → HasShape q → bits260_of p ≡ bits260_of q → SameFields p q
unfolding bits260 bits260_of
same_fields p q m n e =
    let long = length-field_bits larc_widths p.larc q.larc (m.larc ∙ sym n.larc) in
    let block = same_number p q (same_blocks p q m n (same_rest _ _ _ _ long e)) in
    record {
      larc = same_values larc_widths p.larc q.larc m.larc n.larc p.larc_fit q.larc_fit (same_front _ _ _ _ long e);
      nc = same_number_lists p.nc q.nc (m.nc ∙ sym n.nc) (λ k h. (block k (omega (arith, m.nc))).0);
      bc = same_number_lists p.bc q.bc (m.bc ∙ sym n.bc) (λ k h. (block k (omega (arith, m.bc))).1);
      mc = same_number_lists p.mc q.mc (m.mc ∙ sym n.mc) (λ k h. (block k (omega (arith, m.mc))).2);
      xmaxc = same_number_lists p.xmaxc q.xmaxc (m.xmaxc ∙ sym n.xmaxc) (λ k h. (block k (omega (arith, m.xmaxc))).3);
      xmc = same_lists p.xmc q.xmc (m.xmc ∙ sym n.xmc) (λ k d h.
          get_or_default p.xmc k d [] h ∙ (block k (omega (arith, m.xmc))).4 ∙
          get_or_default q.xmc k [] d (omega (arith, m.xmc, n.xmc)));
    }

-- Each field of a frame stands where the widths of those before it put it.
use Rattle.std.proofs.Common.{◌≡◌, ℕ, ◌+◌, ◌-◌, ◌*◌, ◌/◌, ◌%◌, ◌^◌, ◌<◌, ◌≤◌, zero, suc, List, [], ◌∷◌, ◌++◌, length, take, sum, replicate, get_or, refl, sym}
use Rattle.std.proofs.Common.{ap, ◌∙◌, arith}
use Rattle.std.specs.List.{range_with_len, flat_map}
use Rattle.std.proofs.lemmas.List.{get_or_append_left, get_or-append-add, get_or-append_right, get_or-replicate, length-append}
use Rattle.std.proofs.lemmas.List.Sums.{sum_by-cons, sum_by_more_le}
use Rattle.std.proofs.lemmas.List.FromFn.{get_or-map-range_with_len}
use Rattle.trau_params.specs.declared.params.Params.{Params}
use Rattle.trau_params.specs.Widths.{larc_widths, block_widths}
use Rattle.trau_params.specs.FieldBits.{low_bits, field_bits}
use Rattle.trau_params.specs.Bits260.{bits260, bits260_of, block_values}
use Rattle.trau_params.specs.Places.{FieldsStand}
use Rattle.trau_params.specs.Shape.{HasShape}
use Rattle.trau_params.proofs.BlockBits.{block_bits}
use Rattle.trau_params.proofs.Fronts.{length-low_bits}

-- ---- a field among fields

-- bit t of a value
bit_of-low_bits : (width value t : ℕ) → t < width → get_or (low_bits width value) t 0 ≡ value / 2 ^ t % 2
unfolding low_bits
bit_of-low_bits width value t h =
    get_or-map-range_with_len (λ t. value / 2 ^ t % 2) 0 width t t 0 h (omega arith)

sum-cons : (w : ℕ) (ws : List ℕ) → sum (w ∷ ws) ≡ w + sum ws
sum-cons w ws = sum_by-cons (λ x. x) w ws

length-field_bits : (widths values : List ℕ) → length values ≡ length widths → length (field_bits widths values) ≡ sum widths
length-field_bits [] vs h = refl
length-field_bits (w ∷ ws) [] h = absurd (omega arith)
length-field_bits (w ∷ ws) (v ∷ vs) h =
    let rest = length-field_bits ws vs (omega arith) in
    length-append (low_bits w v) (field_bits ws vs) ∙ (omega (arith, rest, length-low_bits w v, sum-cons w ws))

-- bit t of field k among others
field_at : (widths values : List ℕ) (k t : ℕ) → k < length widths → length values ≡ length widths → t < get_or widths k 0 →
    get_or (field_bits widths values) (sum (take k widths) + t) 0 ≡ get_or values k 0 / 2 ^ t % 2
field_at [] vs k t h n l = absurd (omega arith)
field_at (w ∷ ws) [] k t h n l = absurd (omega arith)
field_at (w ∷ ws) (v ∷ vs) zero t h n l =
    let e : 0 + t ≡ t = omega arith in
    let b : t < length (low_bits w v) = omega (arith, length-low_bits w v) in
    ap (λ i. get_or (low_bits w v ++ field_bits ws vs) i 0) e ∙
    get_or_append_left (low_bits w v) (field_bits ws vs) 0 t b ∙ bit_of-low_bits w v t l
field_at (w ∷ ws) (v ∷ vs) (suc k) t h n l =
    let e : sum (w ∷ take k ws) + t ≡ length (low_bits w v) + (sum (take k ws) + t) =
    omega (arith, sum-cons w (take k ws), length-low_bits w v) in
    ap (λ i. get_or (low_bits w v ++ field_bits ws vs) i 0) e ∙
    get_or-append-add (low_bits w v) (field_bits ws vs) (sum (take k ws) + t) 0 ∙
    field_at ws vs k t (omega arith) (omega arith) l

-- ---- a block among blocks

-- bit r of part j, where each part has 56
part_at : (f : ℕ → List ℕ) (a n : ℕ) → ((k : ℕ) → a ≤ k → k < a + n → length (f k) ≡ 56) →
    (j r : ℕ) → j < n → r < 56 → get_or (flat_map f (range_with_len a n)) (56 * j + r) 0 ≡ get_or (f (a + j)) r 0
part_at f a zero long j r h l = absurd (omega arith)
part_at f a (suc n) long zero r h l =
    let here = long a (omega arith) (omega arith) in
    let e : 56 * 0 + r ≡ r = omega arith in
    let g : a ≡ a + 0 = omega arith in
    ap (λ i. get_or (f a ++ flat_map f (range_with_len (a + 1) n)) i 0) e ∙
    get_or_append_left (f a) (flat_map f (range_with_len (a + 1) n)) 0 r (omega arith) ∙ ap (λ k. get_or (f k) r 0) g
part_at f a (suc n) long (suc j) r h l =
    let here = long a (omega arith) (omega arith) in
    let e : 56 * suc j + r ≡ length (f a) + (56 * j + r) = omega arith in
    let g : a + 1 + j ≡ a + suc j = omega arith in
    ap (λ i. get_or (f a ++ flat_map f (range_with_len (a + 1) n)) i 0) e ∙
    get_or-append-add (f a) (flat_map f (range_with_len (a + 1) n)) (56 * j + r) 0 ∙
    part_at f (a + 1) n (λ k p q. long k (omega arith) (omega arith)) j r (omega arith) l ∙
    ap (λ k. get_or (f k) r 0) g

-- a block has seventeen fields
long_block : (p : Params) → HasShape p → (j : ℕ) → j < 4 → length (block_values p j) ≡ 17
long_block p n j h = ap (λ x. suc (suc (suc (suc x)))) (n.pulses j h)

-- bit r of block j in a frame
block_at : (p : Params) → HasShape p → (j r : ℕ) → j < 4 → r < 56 →
    get_or (bits260_of p) (36 + (56 * j + r)) 0 ≡ get_or (block_bits p j) r 0
unfolding bits260 bits260_of
block_at p n j r h l =
    let front : length (field_bits larc_widths p.larc) ≡ 36 = length-field_bits larc_widths p.larc n.larc in
    let e : 36 + (56 * j + r) - 36 ≡ 56 * j + r = omega arith in
    get_or-append_right (field_bits larc_widths p.larc) (flat_map (block_bits p) (range_with_len 0 4)) 36
    (36 + (56 * j + r)) 0 front (omega arith) ∙
    ap (λ i. get_or (flat_map (block_bits p) (range_with_len 0 4)) i 0) e ∙
    part_at (block_bits p) 0 4
    (λ k a b. length-field_bits block_widths (block_values p k) (long_block p n k (omega arith))) j r h l ∙
    (let g : 0 + j ≡ j = omega arith in ap (λ k. get_or (block_bits p k) r 0) g)

-- field k of a block, which stands at an offset in it
in_block : (p : Params) → HasShape p → (j k offset width place t : ℕ) → j < 4 → k < 17 →
    sum (take k block_widths) ≡ offset → get_or block_widths k 0 ≡ width → offset + width ≤ 56 →
    place ≡ 36 + (56 * j + (offset + t)) → t < width →
    get_or (bits260_of p) place 0 ≡ get_or (block_values p j) k 0 / 2 ^ t % 2
in_block p n j k offset width place t h l o w room e b =
    let fits : t < get_or block_widths k 0 = omega arith in
    ap (λ i. get_or (bits260_of p) i 0) e ∙
    block_at p n j (offset + t) h (omega arith) ∙
    ap (λ i. get_or (block_bits p j) (i + t) 0) (sym o) ∙
    field_at block_widths (block_values p j) k t l (long_block p n j h) fits

-- the offset of pulse i in a block
sum-threes : (n i : ℕ) → i ≤ n → sum (take i (replicate n 3)) ≡ 3 * i
sum-threes n zero h = omega arith
sum-threes zero (suc i) h = absurd (omega arith)
sum-threes (suc n) (suc i) h =
    let rest = sum-threes n i (omega arith) in
    sum-cons 3 (take i (replicate n 3)) ∙ (omega (arith, rest))

pulse_offset : (i : ℕ) → i < 13 → sum (take (suc (suc (suc (suc i)))) block_widths) ≡ 17 + 3 * i
pulse_offset i h =
    let threes : List ℕ = take i (replicate 13 3) in
    let rest = sum-threes 13 i (omega arith) in
    omega (arith, rest, sum-cons 7 (2 ∷ 2 ∷ 6 ∷ threes), sum-cons 2 (2 ∷ 6 ∷ threes), sum-cons 2 (6 ∷ threes), sum-cons 6 threes)

-- bit t of LARc i
larc_at : (p : Params) → HasShape p → (i : ℕ) → i < 8 → (t : ℕ) → t < get_or larc_widths i 0 →
    get_or (bits260_of p) (sum (take i larc_widths) + t) 0 ≡ get_or p.larc i 0 / 2 ^ t % 2
unfolding bits260 bits260_of
larc_at p n i h t l =
    let front : length (field_bits larc_widths p.larc) ≡ 36 = length-field_bits larc_widths p.larc n.larc in
    let part : sum (take i larc_widths) + get_or larc_widths i 0 ≤ 36 = sum_by_more_le (λ x. x) larc_widths i 0 h in
    let inside : sum (take i larc_widths) + t < 36 = omega arith in
    get_or_append_left (field_bits larc_widths p.larc) (flat_map (block_bits p) (range_with_len 0 4)) 0
    (sum (take i larc_widths) + t) (omega arith) ∙
    field_at larc_widths p.larc i t h n.larc l

pub fields_stand : (p : Params) → HasShape p → FieldsStand p (bits260_of p)
fields_stand p n = record {
  larc = larc_at p n;
  nc = λ j h t b. in_block p n j 0 0 7 (36 + 56 * j + t) t h (omega arith) refl refl (omega arith) (omega arith) b;
  bc = λ j h t b. in_block p n j 1 7 2 (43 + 56 * j + t) t h (omega arith) refl refl (omega arith) (omega arith) b;
  mc = λ j h t b. in_block p n j 2 9 2 (45 + 56 * j + t) t h (omega arith) refl refl (omega arith) (omega arith) b;
  xmaxc = λ j h t b. in_block p n j 3 11 6 (47 + 56 * j + t) t h (omega arith) refl refl (omega arith) (omega arith) b;
  xmc = λ j i h l t b.
      in_block p n j (suc (suc (suc (suc i)))) (17 + 3 * i) 3 (53 + 56 * j + 3 * i + t) t h (omega arith)
      (pulse_offset i l) (get_or-replicate 13 i 3 0 l) (omega arith) (omega arith) b;
}

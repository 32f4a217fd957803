-- What shuffles of vectors take: the columns of eight squares, eight octets of each channel, and eight groups of a
-- slot.
use Rattle.std.proofs.Common.{◌≡◌, ℕ, ◌+◌, ◌-◌, ◌*◌, ◌/◌, ◌%◌, ◌<◌, ◌≤◌, zero, suc, List, [], ◌∷◌, ◌++◌, length, get_or, refl, ap, ◌∙◌, arith}
use Rattle.std.specs.Simd.Lanes.{chunk, pick_l}
use Rattle.std.proofs.lemmas.List.{get_or_append_left, get_or-append_right, get_or-map}
use Rattle.std.proofs.lemmas.Simd.{get_or-chunk, length-chunk}
use Rattle.trau_submux.specs.Pairs.{four_pairs, gathered, pair_at}
use Rattle.trau_submux.specs.Squares.{EightColumns, EightOfEach, gathered_at}
use Rattle.trau_submux.proofs.Channels.{for_four}

-- what holds of each of eight places
pub for_eight : (P : ℕ → Type 0) → P 0 → P 1 → P 2 → P 3 → P 4 → P 5 → P 6 → P 7 → (k : ℕ) → k < 8 → P k
for_eight P a b c d e f g h zero l = a
for_eight P a b c d e f g h (suc zero) l = b
for_eight P a b c d e f g h (suc (suc zero)) l = c
for_eight P a b c d e f g h (suc (suc (suc zero))) l = d
for_eight P a b c d e f g h (suc (suc (suc (suc zero)))) l = e
for_eight P a b c d e f g h (suc (suc (suc (suc (suc zero))))) l = f
for_eight P a b c d e f g h (suc (suc (suc (suc (suc (suc zero)))))) l = g
for_eight P a b c d e f g h (suc (suc (suc (suc (suc (suc (suc zero))))))) l = h
for_eight P a b c d e f g h (suc (suc (suc (suc (suc (suc (suc (suc k)))))))) l = absurd (omega arith)

-- ---- shuffles

-- what stands at place k of a shuffle, where that is place i of the first or of the second vector
pub from_first : (xs ys ks : List ℕ) (k i : ℕ) → k < length ks → get_or ks k 0 ≡ i → i < length xs → get_or (pick_l 0 (xs ++ ys) ks) k 0 ≡ get_or xs i 0
from_first xs ys ks k i l e within = get_or-map (λ n. get_or (xs ++ ys) n 0) ks k 0 0 l ∙ ap (λ n. get_or (xs ++ ys) n 0) e
    ∙ get_or_append_left xs ys 0 i within

pub from_second : (xs ys ks : List ℕ) (k i n : ℕ) → k < length ks → get_or ks k 0 ≡ n + i → length xs ≡ n → get_or (pick_l 0 (xs ++ ys) ks) k 0 ≡ get_or ys i 0
from_second xs ys ks k i n l e long =
    let back : n + i - n ≡ i = omega arith in
    get_or-map (λ m. get_or (xs ++ ys) m 0) ks k 0 0 l ∙ ap (λ m. get_or (xs ++ ys) m 0) e ∙ get_or-append_right xs ys n (n + i) 0 long (omega arith)
    ∙ ap (λ m. get_or ys m 0) back

-- the pairs of an octet that was put together
pub pairs_back : (p q r s : ℕ) → p < 4 → q < 4 → r < 4 → s < 4 →
    (pair_at 0 (four_pairs p q r s) ≡ p) × (pair_at 1 (four_pairs p q r s) ≡ q) × (pair_at 2 (four_pairs p q r s) ≡ r) × (pair_at 3 (four_pairs p q r s) ≡ s)
pairs_back p q r s lp lq lr ls = (omega arith, omega arith, omega arith, omega arith)

-- what is gathered of the same
pub same_gathered : (j : ℕ) {a b c d a' b' c' d' : ℕ} → a ≡ a' → b ≡ b' → c ≡ c' → d ≡ d' → gathered j a b c d ≡ gathered j a' b' c' d'
same_gathered j p q r s = λ i. gathered j (p i) (q i) (r i) (s i)

four_same : {a b c d a' b' c' d' : ℕ} → a ≡ a' → b ≡ b' → c ≡ c' → d ≡ d' → four_pairs a b c d ≡ four_pairs a' b' c' d'
four_same p q r s = λ i. four_pairs (p i) (q i) (r i) (s i)

-- the pairs of an octet that has the halves of two
front_pairs : (z x y : ℕ) → z ≡ four_pairs (pair_at 0 x) (pair_at 1 x) (pair_at 0 y) (pair_at 1 y) →
    (pair_at 0 z ≡ pair_at 0 x) × (pair_at 1 z ≡ pair_at 1 x) × (pair_at 2 z ≡ pair_at 0 y) × (pair_at 3 z ≡ pair_at 1 y)
front_pairs z x y e =
    let back = pairs_back (pair_at 0 x) (pair_at 1 x) (pair_at 0 y) (pair_at 1 y) (omega arith) (omega arith) (omega arith) (omega arith) in
    (ap (pair_at 0) e ∙ back.0, ap (pair_at 1) e ∙ back.1, ap (pair_at 2) e ∙ back.2, ap (pair_at 3) e ∙ back.3)

-- and the others
back_pairs : (z x y : ℕ) → z ≡ four_pairs (pair_at 2 x) (pair_at 3 x) (pair_at 2 y) (pair_at 3 y) →
    (pair_at 0 z ≡ pair_at 2 x) × (pair_at 1 z ≡ pair_at 3 x) × (pair_at 2 z ≡ pair_at 2 y) × (pair_at 3 z ≡ pair_at 3 y)
back_pairs z x y e =
    let back = pairs_back (pair_at 2 x) (pair_at 3 x) (pair_at 2 y) (pair_at 3 y) (omega arith) (omega arith) (omega arith) (omega arith) in
    (ap (pair_at 0) e ∙ back.0, ap (pair_at 1) e ∙ back.1, ap (pair_at 2) e ∙ back.2, ap (pair_at 3) e ∙ back.3)

-- ---- eight squares are turned

abbrev fronts : List ℕ
fronts = 0 ∷ 1 ∷ 2 ∷ 3 ∷ 4 ∷ 5 ∷ 6 ∷ 7 ∷ 16 ∷ 17 ∷ 18 ∷ 19 ∷ 20 ∷ 21 ∷ 22 ∷ 23 ∷ []

abbrev backs : List ℕ
backs = 8 ∷ 9 ∷ 10 ∷ 11 ∷ 12 ∷ 13 ∷ 14 ∷ 15 ∷ 24 ∷ 25 ∷ 26 ∷ 27 ∷ 28 ∷ 29 ∷ 30 ∷ 31 ∷ []

module _ (x y p q u w : List ℕ) (long : length p ≡ 16)
    (first : (k : ℕ) → k < 16 →
    get_or p k 0 ≡ four_pairs (pair_at 0 (get_or x k 0)) (pair_at 1 (get_or x k 0)) (pair_at 0 (get_or y k 0)) (pair_at 1 (get_or y k 0)))
    (last : (k : ℕ) → k < 16 →
    get_or q k 0 ≡ four_pairs (pair_at 2 (get_or x k 0)) (pair_at 3 (get_or x k 0)) (pair_at 2 (get_or y k 0)) (pair_at 3 (get_or y k 0)))
    (even : (k : ℕ) → k < 16 → get_or u k 0 ≡ four_pairs (pair_at 0 (get_or (pick_l 0 (p ++ q) fronts) k 0)) (pair_at 0 (get_or (pick_l 0 (p ++ q) backs) k 0))
    (pair_at 2 (get_or (pick_l 0 (p ++ q) fronts) k 0)) (pair_at 2 (get_or (pick_l 0 (p ++ q) backs) k 0)))
    (odd : (k : ℕ) → k < 16 → get_or w k 0 ≡ four_pairs (pair_at 1 (get_or (pick_l 0 (p ++ q) fronts) k 0)) (pair_at 1 (get_or (pick_l 0 (p ++ q) backs) k 0))
    (pair_at 3 (get_or (pick_l 0 (p ++ q) fronts) k 0)) (pair_at 3 (get_or (pick_l 0 (p ++ q) backs) k 0)))
  where
    front_front : (k : ℕ) → k < 8 → get_or (pick_l 0 (p ++ q) fronts) k 0 ≡ get_or p k 0
    front_front k l = from_first p q fronts k k (omega arith) (for_eight (λ k. get_or fronts k 0 ≡ k) refl refl refl refl refl refl refl refl k l) (omega arith)

    front_back : (k : ℕ) → k < 8 → get_or (pick_l 0 (p ++ q) fronts) (8 + k) 0 ≡ get_or q k 0
    front_back k l = from_second p q fronts (8 + k) k 16 (omega arith)
        (for_eight (λ k. get_or fronts (8 + k) 0 ≡ 16 + k) refl refl refl refl refl refl refl refl k l) long

    back_front : (k : ℕ) → k < 8 → get_or (pick_l 0 (p ++ q) backs) k 0 ≡ get_or p (8 + k) 0
    back_front k l = from_first p q backs k (8 + k) (omega arith) (for_eight (λ k. get_or backs k 0 ≡ 8 + k) refl refl refl refl refl refl refl refl k l)
        (omega arith)

    back_back : (k : ℕ) → k < 8 → get_or (pick_l 0 (p ++ q) backs) (8 + k) 0 ≡ get_or q (8 + k) 0
    back_back k l = from_second p q backs (8 + k) (8 + k) 16 (omega arith)
        (for_eight (λ k. get_or backs (8 + k) 0 ≡ 16 + (8 + k)) refl refl refl refl refl refl refl refl k l) long

    pub columns : EightColumns x y u w
    columns = record {
      first = λ k l.
          let one = front_pairs _ _ _ (first k (omega arith)) in
          let two = front_pairs _ _ _ (first (8 + k) (omega arith)) in
          even k (omega arith) ∙ four_same (ap (pair_at 0) (front_front k l) ∙ one.0) (ap (pair_at 0) (back_front k l) ∙ two.0)
          (ap (pair_at 2) (front_front k l) ∙ one.2) (ap (pair_at 2) (back_front k l) ∙ two.2);
      second = λ k l.
          let one = front_pairs _ _ _ (first k (omega arith)) in
          let two = front_pairs _ _ _ (first (8 + k) (omega arith)) in
          odd k (omega arith) ∙ four_same (ap (pair_at 1) (front_front k l) ∙ one.1) (ap (pair_at 1) (back_front k l) ∙ two.1)
          (ap (pair_at 3) (front_front k l) ∙ one.3) (ap (pair_at 3) (back_front k l) ∙ two.3);
      third = λ k l.
          let one = back_pairs _ _ _ (last k (omega arith)) in
          let two = back_pairs _ _ _ (last (8 + k) (omega arith)) in
          even (8 + k) (omega arith) ∙ four_same (ap (pair_at 0) (front_back k l) ∙ one.0) (ap (pair_at 0) (back_back k l) ∙ two.0)
          (ap (pair_at 2) (front_back k l) ∙ one.2) (ap (pair_at 2) (back_back k l) ∙ two.2);
      fourth = λ k l.
          let one = back_pairs _ _ _ (last k (omega arith)) in
          let two = back_pairs _ _ _ (last (8 + k) (omega arith)) in
          odd (8 + k) (omega arith) ∙ four_same (ap (pair_at 1) (front_back k l) ∙ one.1) (ap (pair_at 1) (back_back k l) ∙ two.1)
          (ap (pair_at 3) (front_back k l) ∙ one.3) (ap (pair_at 3) (back_back k l) ∙ two.3);
    }

-- ---- of 32 octets of a slot, eight of each channel

abbrev zeroth_ones : List ℕ
zeroth_ones = 0 ∷ 4 ∷ 8 ∷ 12 ∷ 16 ∷ 20 ∷ 24 ∷ 28 ∷ 1 ∷ 5 ∷ 9 ∷ 13 ∷ 17 ∷ 21 ∷ 25 ∷ 29 ∷ []

abbrev second_ones : List ℕ
second_ones = 2 ∷ 6 ∷ 10 ∷ 14 ∷ 18 ∷ 22 ∷ 26 ∷ 30 ∷ 3 ∷ 7 ∷ 11 ∷ 15 ∷ 19 ∷ 23 ∷ 27 ∷ 31 ∷ []

module _ (slot o u w : List ℕ) (at : ℕ) (room : at + 32 ≤ length slot) (is : o ≡ chunk at 32 slot)
    (turned : EightColumns (pick_l 0 (o ++ o) zeroth_ones) (pick_l 0 (o ++ o) second_ones) u w)
  where
    long : length o ≡ 32
    long = ap length is ∙ length-chunk at 32 slot room

    octet : (ks : List ℕ) (k i m : ℕ) → k < length ks → get_or ks k 0 ≡ i → i < 32 → at + i ≡ m → get_or (pick_l 0 (o ++ o) ks) k 0 ≡ get_or slot m 0
    octet ks k i m l e less place =
        from_first o o ks k i l e (omega (arith, long)) ∙ ap (λ xs. get_or xs i 0) is ∙ get_or-chunk at 32 slot i 0 less ∙ ap (λ n. get_or slot n 0) place

    row : (j : ℕ) (k : ℕ) → k < 8 → gathered j (get_or (pick_l 0 (o ++ o) zeroth_ones) k 0) (get_or (pick_l 0 (o ++ o) zeroth_ones) (8 + k) 0)
        (get_or (pick_l 0 (o ++ o) second_ones) k 0) (get_or (pick_l 0 (o ++ o) second_ones) (8 + k) 0) ≡ gathered_at j slot (at + 4 * k)
    row j k l = same_gathered j
        (octet zeroth_ones k (4 * k) (at + 4 * k) (omega arith) (for_eight (λ k. get_or zeroth_ones k 0 ≡ 4 * k) refl refl refl refl refl refl refl refl k l)
        (omega arith) refl)
        (octet zeroth_ones (8 + k) (4 * k + 1) (at + 4 * k + 1) (omega arith)
        (for_eight (λ k. get_or zeroth_ones (8 + k) 0 ≡ 4 * k + 1) refl refl refl refl refl refl refl refl k l) (omega arith) (omega arith))
        (octet second_ones k (4 * k + 2) (at + 4 * k + 2) (omega arith)
        (for_eight (λ k. get_or second_ones k 0 ≡ 4 * k + 2) refl refl refl refl refl refl refl refl k l) (omega arith) (omega arith))
        (octet second_ones (8 + k) (4 * k + 3) (at + 4 * k + 3) (omega arith)
        (for_eight (λ k. get_or second_ones (8 + k) 0 ≡ 4 * k + 3) refl refl refl refl refl refl refl refl k l) (omega arith) (omega arith))

    pub of_each : EightOfEach slot at u w
    of_each = record {
      first = λ k l. turned.first k l ∙ row 0 k l;
      second = λ k l. turned.second k l ∙ row 1 k l;
      third = λ k l. turned.third k l ∙ row 2 k l;
      fourth = λ k l. turned.fourth k l ∙ row 3 k l;
    }

-- ---- of eight octets of each channel, 32 of a slot

abbrev both : List ℕ
both = 0 ∷ 1 ∷ 2 ∷ 3 ∷ 4 ∷ 5 ∷ 6 ∷ 7 ∷ 8 ∷ 9 ∷ 10 ∷ 11 ∷ 12 ∷ 13 ∷ 14 ∷ 15 ∷ []

abbrev in_groups : List ℕ
in_groups =
    0 ∷ 16 ∷ 8 ∷ 24 ∷ 1 ∷ 17 ∷ 9 ∷ 25 ∷ 2 ∷ 18 ∷ 10 ∷ 26 ∷ 3 ∷ 19 ∷ 11 ∷ 27 ∷
    4 ∷ 20 ∷ 12 ∷ 28 ∷ 5 ∷ 21 ∷ 13 ∷ 29 ∷ 6 ∷ 22 ∷ 14 ∷ 30 ∷ 7 ∷ 23 ∷ 15 ∷ 31 ∷ []

module _ (a b c d xa xb xc xd u w : List ℕ) (at : ℕ) (room_a : at + 8 ≤ length a) (room_c : at + 8 ≤ length c)
    (is_a : xa ≡ chunk at 8 a) (is_b : xb ≡ chunk at 8 b) (is_c : xc ≡ chunk at 8 c) (is_d : xd ≡ chunk at 8 d) (long : length u ≡ 16)
    (turned : EightColumns (pick_l 0 (xa ++ xb) both) (pick_l 0 (xc ++ xd) both) u w)
  where
    lane : (xs ys : List ℕ) (k : ℕ) → ys ≡ chunk at 8 xs → k < 8 → get_or ys k 0 ≡ get_or xs (at + k) 0
    lane xs ys k is l = ap (λ zs. get_or zs k 0) is ∙ get_or-chunk at 8 xs k 0 l

    of_first : (xs ys front back : List ℕ) (k : ℕ) → at + 8 ≤ length front → xs ≡ chunk at 8 front → k < 8 →
        get_or (pick_l 0 (xs ++ ys) both) k 0 ≡ get_or front (at + k) 0
    of_first xs ys front back k room is l =
        from_first xs ys both k k (omega arith) (for_eight (λ k. get_or both k 0 ≡ k) refl refl refl refl refl refl refl refl k l)
        (omega (arith, ap length is, length-chunk at 8 front room)) ∙ lane front xs k is l

    of_second : (xs ys front back : List ℕ) (k : ℕ) → at + 8 ≤ length front → xs ≡ chunk at 8 front → ys ≡ chunk at 8 back → k < 8 →
        get_or (pick_l 0 (xs ++ ys) both) (8 + k) 0 ≡ get_or back (at + k) 0
    of_second xs ys front back k room is is' l =
        from_second xs ys both (8 + k) k 8 (omega arith) (for_eight (λ k. get_or both (8 + k) 0 ≡ 8 + k) refl refl refl refl refl refl refl refl k l)
        (ap length is ∙ length-chunk at 8 front room) ∙ lane back ys k is' l

    column : (j k : ℕ) → k < 8 → gathered j (get_or (pick_l 0 (xa ++ xb) both) k 0) (get_or (pick_l 0 (xa ++ xb) both) (8 + k) 0)
        (get_or (pick_l 0 (xc ++ xd) both) k 0) (get_or (pick_l 0 (xc ++ xd) both) (8 + k) 0)
        ≡ gathered j (get_or a (at + k) 0) (get_or b (at + k) 0) (get_or c (at + k) 0) (get_or d (at + k) 0)
    column j k l = same_gathered j (of_first xa xb a b k room_a is_a l) (of_second xa xb a b k room_a is_a is_b l) (of_first xc xd c d k room_c is_c l)
        (of_second xc xd c d k room_c is_c is_d l)

    abbrev z : List ℕ
    z = pick_l 0 (u ++ w) in_groups

    abbrev At : ℕ → Type 0
    At n = (k : ℕ) → k < 8 → get_or z (4 * k + n) 0 ≡ gathered n (get_or a (at + k) 0) (get_or b (at + k) 0) (get_or c (at + k) 0) (get_or d (at + k) 0)

    at_0 : At 0
    at_0 k l = from_first u w in_groups (4 * k + 0) k (omega arith)
        (for_eight (λ k. get_or in_groups (4 * k + 0) 0 ≡ k) refl refl refl refl refl refl refl refl k l) (omega (arith, long)) ∙ turned.first k l
        ∙ column 0 k l

    at_1 : At 1
    at_1 k l = from_second u w in_groups (4 * k + 1) k 16 (omega arith)
        (for_eight (λ k. get_or in_groups (4 * k + 1) 0 ≡ 16 + k) refl refl refl refl refl refl refl refl k l) long ∙ turned.second k l ∙ column 1 k l

    at_2 : At 2
    at_2 k l = from_first u w in_groups (4 * k + 2) (8 + k) (omega arith)
        (for_eight (λ k. get_or in_groups (4 * k + 2) 0 ≡ 8 + k) refl refl refl refl refl refl refl refl k l) (omega (arith, long)) ∙ turned.third k l
        ∙ column 2 k l

    at_3 : At 3
    at_3 k l = from_second u w in_groups (4 * k + 3) (8 + k) 16 (omega arith)
        (for_eight (λ k. get_or in_groups (4 * k + 3) 0 ≡ 16 + (8 + k)) refl refl refl refl refl refl refl refl k l) long ∙ turned.fourth k l ∙ column 3 k l

    pub groups : (i : ℕ) → i < 32 →
        get_or z i 0 ≡ gathered (i % 4) (get_or a (at + i / 4) 0) (get_or b (at + i / 4) 0) (get_or c (at + i / 4) 0) (get_or d (at + i / 4) 0)
    groups i l =
        let place : i ≡ 4 * (i / 4) + i % 4 = omega arith in
        ap (λ m. get_or z m 0) place ∙ for_four At at_0 at_1 at_2 at_3 (i % 4) (omega arith) (i / 4) (omega arith)

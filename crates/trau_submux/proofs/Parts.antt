-- A block of a slot and its channels, a part after the other.
use Rattle.std.proofs.Common.{◌≡◌, ℕ, ◌+◌, ◌-◌, ◌*◌, ◌/◌, ◌%◌, ◌<◌, ◌≤◌, List, [], ◌∷◌, ◌++◌, length, get_or, inl, inr, refl, ap, ◌∙◌, arith}
use Rattle.std.specs.Simd.Lanes.{pick_l, put_chunk}
use Rattle.std.proofs.lemmas.Bool.{cases_lt}
use Rattle.std.proofs.lemmas.Simd.{get_or-put_chunk_at, get_or-put_chunk_below, length-put_chunk}
use Rattle.trau_submux.specs.Pairs.{gathered}
use Rattle.trau_submux.specs.Squares.{EightOfEach, gathered_at}
use Rattle.trau_submux.specs.Channels.{channel}
use Rattle.trau_submux.proofs.Channels.{gathered_channel}
use Rattle.trau_submux.proofs.Vectors.{for_eight, from_first}

-- the first n octets of a row are channel j of the slot
pub record Taken (j : ℕ) (slot row : List ℕ) (n : ℕ) : Type 0 where
  pub long : length row ≡ 40
  pub done : (m : ℕ) → m < n → get_or row m 0 ≡ gathered_at j slot (4 * m)

-- the first eight lanes, and the last
abbrev low : List ℕ
low = 0 ∷ 1 ∷ 2 ∷ 3 ∷ 4 ∷ 5 ∷ 6 ∷ 7 ∷ []

abbrev high : List ℕ
high = 8 ∷ 9 ∷ 10 ∷ 11 ∷ 12 ∷ 13 ∷ 14 ∷ 15 ∷ []

-- eight octets more of a channel
pub taken_more : (j : ℕ) (slot row v : List ℕ) (n m : ℕ) → m ≡ n + 8 → m ≤ 40 → length v ≡ 8 →
    ((k : ℕ) → k < 8 → get_or v k 0 ≡ gathered_at j slot (4 * n + 4 * k)) → Taken j slot row n → Taken j slot (put_chunk n row v) m
taken_more j slot row v n m next within eight each before = record {
  long = length-put_chunk n row v ∙ before.long;
  done = λ i below. elim (cases_lt i n) [
    | inl l ↦ get_or-put_chunk_below n row v i 0 l ∙ before.done i l
    | inr h ↦
        let place : i ≡ n + (i - n) = omega arith in
        let four : 4 * n + 4 * (i - n) ≡ 4 * i = omega arith in
        ap (λ x. get_or (put_chunk n row v) x 0) place ∙ get_or-put_chunk_at n row v (i - n) 0 (omega arith) (omega (arith, before.long))
        ∙ each (i - n) (omega arith) ∙ ap (gathered_at j slot) four
  ];
}

module _ (slot u w : List ℕ) (n m : ℕ) (next : m ≡ n + 8) (within : m ≤ 40) (long_u : length u ≡ 16) (long_w : length w ≡ 16)
    (of_each : EightOfEach slot (4 * n) u w) where
  -- what a shuffle takes of the lanes
  front : (v : List ℕ) (k : ℕ) → length v ≡ 16 → k < 8 → get_or (pick_l 0 (v ++ v) low) k 0 ≡ get_or v k 0
  front v k long l = from_first v v low k k (omega arith) (for_eight (λ k. get_or low k 0 ≡ k) refl refl refl refl refl refl refl refl k l)
      (omega (arith, long))

  back : (v : List ℕ) (k : ℕ) → length v ≡ 16 → k < 8 → get_or (pick_l 0 (v ++ v) high) k 0 ≡ get_or v (8 + k) 0
  back v k long l = from_first v v high k (8 + k) (omega arith) (for_eight (λ k. get_or high k 0 ≡ 8 + k) refl refl refl refl refl refl refl refl k l)
      (omega (arith, long))

  -- each channel has eight octets more
  pub first_more : (row : List ℕ) → Taken 0 slot row n → Taken 0 slot (put_chunk n row (pick_l 0 (u ++ u) low)) m
  first_more row = taken_more 0 slot row (pick_l 0 (u ++ u) low) n m next within refl (λ k l. front u k long_u l ∙ of_each.first k l)

  pub second_more : (row : List ℕ) → Taken 1 slot row n → Taken 1 slot (put_chunk n row (pick_l 0 (w ++ w) low)) m
  second_more row = taken_more 1 slot row (pick_l 0 (w ++ w) low) n m next within refl (λ k l. front w k long_w l ∙ of_each.second k l)

  pub third_more : (row : List ℕ) → Taken 2 slot row n → Taken 2 slot (put_chunk n row (pick_l 0 (u ++ u) high)) m
  third_more row = taken_more 2 slot row (pick_l 0 (u ++ u) high) n m next within refl (λ k l. back u k long_u l ∙ of_each.third k l)

  pub fourth_more : (row : List ℕ) → Taken 3 slot row n → Taken 3 slot (put_chunk n row (pick_l 0 (w ++ w) high)) m
  fourth_more row = taken_more 3 slot row (pick_l 0 (w ++ w) high) n m next within refl (λ k l. back w k long_w l ∙ of_each.fourth k l)

-- the first n octets of a slot are put together of four channels
pub record Joined (a b c d slot : List ℕ) (n : ℕ) : Type 0 where
  pub long : length slot ≡ 160
  pub done : (i : ℕ) → i < n → get_or slot i 0 ≡ gathered (i % 4) (get_or a (i / 4) 0) (get_or b (i / 4) 0) (get_or c (i / 4) 0) (get_or d (i / 4) 0)

-- 32 octets more of the slot
pub joined_more : (a b c d slot z : List ℕ) (n m at : ℕ) → n ≡ 4 * at → m ≡ n + 32 → m ≤ 160 → length z ≡ 32 →
    ((i : ℕ) → i < 32 → get_or z i 0
    ≡ gathered (i % 4) (get_or a (at + i / 4) 0) (get_or b (at + i / 4) 0) (get_or c (at + i / 4) 0) (get_or d (at + i / 4) 0)) →
    Joined a b c d slot n → Joined a b c d (put_chunk n slot z) m
joined_more a b c d slot z n m at place next within long each before = record {
  long = length-put_chunk n slot z ∙ before.long;
  done = λ i below. elim (cases_lt i n) [
    | inl l ↦ get_or-put_chunk_below n slot z i 0 l ∙ before.done i l
    | inr h ↦
        let here : i ≡ n + (i - n) = omega arith in
        let group : at + (i - n) / 4 ≡ i / 4 = omega arith in
        let lane : (i - n) % 4 ≡ i % 4 = omega arith in
        ap (λ x. get_or (put_chunk n slot z) x 0) here ∙ get_or-put_chunk_at n slot z (i - n) 0 (omega (arith, long)) (omega (arith, before.long, long))
        ∙ each (i - n) (omega arith)
        ∙ ap (λ g. gathered ((i - n) % 4) (get_or a g 0) (get_or b g 0) (get_or c g 0) (get_or d g 0)) group
        ∙ ap (λ j. gathered j (get_or a (i / 4) 0) (get_or b (i / 4) 0) (get_or c (i / 4) 0) (get_or d (i / 4) 0)) lane
  ];
}

-- before the first part
pub nothing_taken : (j : ℕ) (slot row : List ℕ) → length row ≡ 40 → Taken j slot row 0
nothing_taken j slot row long = record { long = long; done = λ m below. absurd (omega arith) }

pub nothing_joined : (a b c d slot : List ℕ) → length slot ≡ 160 → Joined a b c d slot 0
nothing_joined a b c d slot long = record { long = long; done = λ i below. absurd (omega arith) }

-- a row that is whole is the channel
pub whole_taken : (j : ℕ) (slot row : List ℕ) (n : ℕ) → j < 4 → length slot ≡ 160 → 40 ≤ n → Taken j slot row n → row ≡ channel j slot
whole_taken j slot row n small long whole taken = gathered_channel j slot row 40 small long taken.long (λ k below. taken.done k (omega arith))

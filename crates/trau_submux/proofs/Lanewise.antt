-- One lane of each operation on vectors of octets, and sixteen.
use Rattle.std.proofs.Common.{◌≡◌, ℕ, ◌+◌, ◌*◌, ◌/◌, ◌%◌, ◌^◌, ◌<◌, List, length, get_or, replicate, bit_and, sym, ap, ◌∙◌, arith}
use Rattle.std.specs.Simd.Lanes.{zip2}
use Rattle.std.proofs.lemmas.Nat.{and_block, and_mask}
use Rattle.std.proofs.lemmas.Nat.Bits.{and_high}
use Rattle.std.proofs.lemmas.Simd.{get_or-zip2, get_or-replicate, length-zip2, length-replicate}
use Rattle.trau_submux.specs.Pairs.{four_pairs, pair_at}

-- ---- one lane

-- a sum, a shift down and a shift up in a lane
abbrev pub plus : ℕ → ℕ → ℕ
plus a b = (a + b) % 2 ^ 8

abbrev pub down : ℕ → ℕ → ℕ
down a b = a / 2 ^ b

abbrev pub up : ℕ → ℕ → ℕ
up a b = a * 2 ^ b % 2 ^ 8

-- the pairs 0 and 2 of an octet, and 1 and 3
even_of : (x : ℕ) → bit_and x 204 ≡ x / 64 % 4 * 64 + x / 4 % 4 * 4
even_of x =
    let e : x ≡ x / 16 * 2 ^ 4 + x % 16 = omega arith in
    let high : bit_and (x / 16) 12 ≡ x / 16 / 4 % 4 * 4 = and_high (x / 16) 2 2 in
    let low : bit_and (x % 16) 12 ≡ x % 16 / 4 % 4 * 4 = and_high (x % 16) 2 2 in
    let block : bit_and (x / 16 * 2 ^ 4 + x % 16) 204 ≡ bit_and (x / 16) 12 * 16 + bit_and (x % 16) 12 =
    and_block 4 (x / 16) 12 (x % 16) 12 (omega arith) (omega arith) in
    ap (λ n. bit_and n 204) e ∙ block ∙ omega (arith, high, low)

odd_of : (x : ℕ) → bit_and x 51 ≡ x / 16 % 4 * 16 + x % 4
odd_of x =
    let e : x ≡ x / 16 * 2 ^ 4 + x % 16 = omega arith in
    let high : bit_and (x / 16) 3 ≡ x / 16 % 4 = and_mask (x / 16) 2 in
    let low : bit_and (x % 16) 3 ≡ x % 16 % 4 = and_mask (x % 16) 2 in
    let block : bit_and (x / 16 * 2 ^ 4 + x % 16) 51 ≡ bit_and (x / 16) 3 * 16 + bit_and (x % 16) 3 =
    and_block 4 (x / 16) 3 (x % 16) 3 (omega arith) (omega arith) in
    ap (λ n. bit_and n 51) e ∙ block ∙ omega (arith, high, low)

-- the first half of an octet, and the second
high_of : (x : ℕ) → bit_and x 240 ≡ x / 16 % 16 * 16
high_of x = and_high x 4 4

low_of : (x : ℕ) → bit_and x 15 ≡ x % 16
low_of x = and_mask x 4

-- the halves of two octets, exchanged
first_halves : (x y : ℕ) → plus (bit_and x 240) (bit_and (down y 4) 15) ≡ four_pairs (pair_at 0 x) (pair_at 1 x) (pair_at 0 y) (pair_at 1 y)
first_halves x y = let h = high_of x in let l = low_of (y / 16) in omega (arith, h, l)

last_halves : (x y : ℕ) → plus (up x 4) (bit_and y 15) ≡ four_pairs (pair_at 2 x) (pair_at 3 x) (pair_at 2 y) (pair_at 3 y)
last_halves x y = let l = low_of y in omega (arith, l)

-- their pairs, exchanged
even_pairs : (x y : ℕ) → plus (bit_and x 204) (bit_and (down y 2) 51) ≡ four_pairs (pair_at 0 x) (pair_at 0 y) (pair_at 2 x) (pair_at 2 y)
even_pairs x y = let e = even_of x in let o = odd_of (y / 4) in omega (arith, e, o)

odd_pairs : (x y : ℕ) → plus (up (bit_and x 51) 2) (bit_and y 51) ≡ four_pairs (pair_at 1 x) (pair_at 1 y) (pair_at 3 x) (pair_at 3 y)
odd_pairs x y = let e = odd_of x in let o = odd_of y in omega (arith, e, o)

-- ---- sixteen lanes

-- a lane of an operation with the same in each lane, and of one on two vectors
at_splat : (f : ℕ → ℕ → ℕ) (xs : List ℕ) (m k : ℕ) → length xs ≡ 16 → k < 16 → get_or (zip2 f xs (replicate 16 m)) k 0 ≡ f (get_or xs k 0) m
at_splat f xs m k long l = get_or-zip2 f xs (replicate 16 m) k 0 0 0 (omega arith) (omega (arith, length-replicate 16 m))
    ∙ ap (f (get_or xs k 0)) (get_or-replicate 16 k m 0 l)

at_zip : (f : ℕ → ℕ → ℕ) (xs ys : List ℕ) (k : ℕ) → length xs ≡ 16 → length ys ≡ 16 → k < 16 → get_or (zip2 f xs ys) k 0 ≡ f (get_or xs k 0) (get_or ys k 0)
at_zip f xs ys k long_x long_y l = get_or-zip2 f xs ys k 0 0 0 (omega arith) (omega arith)

-- sixteen lanes stay so many
splat_long : (f : ℕ → ℕ → ℕ) (xs : List ℕ) (m : ℕ) → length xs ≡ 16 → length (zip2 f xs (replicate 16 m)) ≡ 16
splat_long f xs m long = length-zip2 f xs (replicate 16 m) (long ∙ sym (length-replicate 16 m)) ∙ long

module _ (xs ys : List ℕ) (long_x : length xs ≡ 16) (long_y : length ys ≡ 16) where
  abbrev pub shifted : ℕ → ℕ → List ℕ
  shifted by mask = zip2 bit_and (zip2 down ys (replicate 16 by)) (replicate 16 mask)

  shifted_long : (by mask : ℕ) → length (shifted by mask) ≡ 16
  shifted_long by mask = splat_long bit_and (zip2 down ys (replicate 16 by)) mask (splat_long down ys by long_y)

  shifted_at : (by mask k : ℕ) → k < 16 → get_or (shifted by mask) k 0 ≡ bit_and (down (get_or ys k 0) by) mask
  shifted_at by mask k l = at_splat bit_and (zip2 down ys (replicate 16 by)) mask k (splat_long down ys by long_y) l
      ∙ ap (λ a. bit_and a mask) (at_splat down ys by k long_y l)

  -- a mask of x, and what a shift leaves of y
  masked_shifted_at : (by mask other k : ℕ) → k < 16 → get_or (zip2 plus (zip2 bit_and xs (replicate 16 other)) (shifted by mask)) k 0
      ≡ plus (bit_and (get_or xs k 0) other) (bit_and (down (get_or ys k 0) by) mask)
  masked_shifted_at by mask other k l =
      at_zip plus (zip2 bit_and xs (replicate 16 other)) (shifted by mask) k (splat_long bit_and xs other long_x) (shifted_long by mask) l
      ∙ ap (λ a. plus a (get_or (shifted by mask) k 0)) (at_splat bit_and xs other k long_x l)
      ∙ ap (λ b. plus (bit_and (get_or xs k 0) other) b) (shifted_at by mask k l)

  -- each lane of the exchanges
  pub first_halves_at : (k : ℕ) → k < 16 → get_or (zip2 plus (zip2 bit_and xs (replicate 16 240)) (shifted 4 15)) k 0
      ≡ four_pairs (pair_at 0 (get_or xs k 0)) (pair_at 1 (get_or xs k 0)) (pair_at 0 (get_or ys k 0)) (pair_at 1 (get_or ys k 0))
  first_halves_at k l = masked_shifted_at 4 15 240 k l ∙ first_halves (get_or xs k 0) (get_or ys k 0)

  pub last_halves_at : (k : ℕ) → k < 16 → get_or (zip2 plus (zip2 up xs (replicate 16 4)) (zip2 bit_and ys (replicate 16 15))) k 0
      ≡ four_pairs (pair_at 2 (get_or xs k 0)) (pair_at 3 (get_or xs k 0)) (pair_at 2 (get_or ys k 0)) (pair_at 3 (get_or ys k 0))
  last_halves_at k l =
      at_zip plus (zip2 up xs (replicate 16 4)) (zip2 bit_and ys (replicate 16 15)) k (splat_long up xs 4 long_x) (splat_long bit_and ys 15 long_y) l
      ∙ ap (λ a. plus a (get_or (zip2 bit_and ys (replicate 16 15)) k 0)) (at_splat up xs 4 k long_x l)
      ∙ ap (λ b. plus (up (get_or xs k 0) 4) b) (at_splat bit_and ys 15 k long_y l)
      ∙ last_halves (get_or xs k 0) (get_or ys k 0)

  pub even_pairs_at : (k : ℕ) → k < 16 → get_or (zip2 plus (zip2 bit_and xs (replicate 16 204)) (shifted 2 51)) k 0
      ≡ four_pairs (pair_at 0 (get_or xs k 0)) (pair_at 0 (get_or ys k 0)) (pair_at 2 (get_or xs k 0)) (pair_at 2 (get_or ys k 0))
  even_pairs_at k l = masked_shifted_at 2 51 204 k l ∙ even_pairs (get_or xs k 0) (get_or ys k 0)

  pub odd_pairs_at : (k : ℕ) → k < 16 → get_or (zip2 plus (zip2 up (zip2 bit_and xs (replicate 16 51)) (replicate 16 2)) (zip2 bit_and ys (replicate 16 51)))
      k 0 ≡ four_pairs (pair_at 1 (get_or xs k 0)) (pair_at 1 (get_or ys k 0)) (pair_at 3 (get_or xs k 0)) (pair_at 3 (get_or ys k 0))
  odd_pairs_at k l =
      at_zip plus (zip2 up (zip2 bit_and xs (replicate 16 51)) (replicate 16 2)) (zip2 bit_and ys (replicate 16 51)) k
      (splat_long up (zip2 bit_and xs (replicate 16 51)) 2 (splat_long bit_and xs 51 long_x)) (splat_long bit_and ys 51 long_y) l
      ∙ ap (λ a. plus a (get_or (zip2 bit_and ys (replicate 16 51)) k 0))
      (at_splat up (zip2 bit_and xs (replicate 16 51)) 2 k (splat_long bit_and xs 51 long_x) l ∙ ap (λ a. up a 2) (at_splat bit_and xs 51 k long_x l))
      ∙ ap (λ b. plus (up (bit_and (get_or xs k 0) 51) 2) b) (at_splat bit_and ys 51 k long_y l)
      ∙ odd_pairs (get_or xs k 0) (get_or ys k 0)

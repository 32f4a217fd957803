-- The rows of a lag's products, 16, 16 and eight of them: added by neighbours, and then to four lanes.
use Rattle.std.proofs.Common.{◌≡◌, ℕ, ◌+◌, ◌-◌, ◌%◌, ◌^◌, ◌<◌, ◌≤◌, ℤ, pos, ◌+ℤ◌, ◌*ℤ◌, FitsSigned, w16, w32, to_z, of_z, fold, map, List}
use Rattle.std.proofs.Common.{[], ◌∷◌, ◌++◌, length, get_or, refl, ap, sym, subst, ◌∙◌, arith, lit≤}
use Rattle.std.specs.List.{range_with_len}
use Rattle.std.proofs.lemmas.Int.{ints, to_z-of_z}
use Rattle.std.specs.Simd.Lanes.{zip2, Each1, chunk}
use Rattle.std.proofs.lemmas.Simd.{pick_l-range_with_len, zip2_of_maps, Each1-chunk, Each1-from_get_or, Each1-weaker, length-zip2, length-chunk, get_or-zip2}
use Rattle.trau_lanes.specs.Lanes.{sums_of_pairs}
use Rattle.trau_lanes.proofs.Eight.{by_four, by_eight, eight_same}
use Rattle.trau_lanes.proofs.LaneDots.{Within, products_within, sums_within, pairs_within, product_at, fold_on, fold_sums, shifted, pair, pair_sum, lane_sum, four_same, lanes_passed}
use Rattle.fr_long.specs.Scaling.{AreScaled}
use Rattle.fr_long.specs.Lag.{AreSigned16}
use Rattle.fr_long.proofs.Lanes.{scaled_all, kept, joined_within}

-- ---- lanes

-- what holds of each 16 numbers holds of each list of 16
by_sixteen : (P : List ℤ → Type 0) → ((a b c d e f g h i j k l m n o p : ℤ) → P (a ∷ b ∷ c ∷ d ∷ e ∷ f ∷ g ∷ h ∷ i ∷ j ∷ k ∷ l ∷ m ∷ n ∷ o ∷ p ∷ [])) →
    (xs : List ℤ) → length xs ≡ 16 → P xs
by_sixteen P q (a ∷ b ∷ c ∷ d ∷ e ∷ f ∷ g ∷ h ∷ xs) l = by_eight (λ ys. P (a ∷ b ∷ c ∷ d ∷ e ∷ f ∷ g ∷ h ∷ ys)) (q a b c d e f g h) xs (omega arith)
by_sixteen P q [] l = absurd (omega arith)
by_sixteen P q (a ∷ []) l = absurd (omega arith)
by_sixteen P q (a ∷ b ∷ []) l = absurd (omega arith)
by_sixteen P q (a ∷ b ∷ c ∷ []) l = absurd (omega arith)
by_sixteen P q (a ∷ b ∷ c ∷ d ∷ []) l = absurd (omega arith)
by_sixteen P q (a ∷ b ∷ c ∷ d ∷ e ∷ []) l = absurd (omega arith)
by_sixteen P q (a ∷ b ∷ c ∷ d ∷ e ∷ f ∷ []) l = absurd (omega arith)
by_sixteen P q (a ∷ b ∷ c ∷ d ∷ e ∷ f ∷ g ∷ []) l = absurd (omega arith)

-- the sums of neighbours in 16 lanes are those of numbers
abbrev Pairs16 : List ℕ → List ℤ → Type 0
Pairs16 ns zs =
    (pair ns 0 1 ∷ pair ns 2 3 ∷ pair ns 4 5 ∷ pair ns 6 7 ∷ pair ns 8 9 ∷ pair ns 10 11 ∷ pair ns 12 13 ∷ pair ns 14 15 ∷ []) ≡ sums_of_pairs zs

pub pairs_of_sixteen : (xs : List ℤ) → length xs ≡ 16 → Each1 (Within 1073741823) xs → Pairs16 (map (of_z w32) xs ++ map (of_z w32) xs) xs
pairs_of_sixteen xs l =
    by_sixteen (λ zs. Each1 (Within 1073741823) zs → Pairs16 (map (of_z w32) zs ++ map (of_z w32) zs) zs)
    (λ a b c d e f g h i j k l m n o p w.
    let v = w.1.1.1.1.1.1.1.1 in
    eight_same (pair_sum a b w.0 w.1.0) (pair_sum c d w.1.1.0 w.1.1.1.0) (pair_sum e f w.1.1.1.1.0 w.1.1.1.1.1.0)
    (pair_sum g h w.1.1.1.1.1.1.0 w.1.1.1.1.1.1.1.0) (pair_sum i j v.0 v.1.0) (pair_sum k l v.1.1.0 v.1.1.1.0) (pair_sum m n v.1.1.1.1.0 v.1.1.1.1.1.0)
    (pair_sum o p v.1.1.1.1.1.1.0 v.1.1.1.1.1.1.1.0)) xs l

-- the sum of two lanes
abbrev two : List ℕ → ℕ → ℕ → ℤ
two ns i j = to_z w32 ((get_or ns i 0 + get_or ns j 0) % 2 ^ 32)

-- the two halves of eight lanes
pub halves_added : (xs : List ℤ) → length xs ≡ 8 → Each1 (Within 1073741823) xs →
    let ns = map (of_z w32) xs ++ map (of_z w32) xs in
    (two ns 0 4 ∷ two ns 1 5 ∷ two ns 2 6 ∷ two ns 3 7 ∷ []) ≡ zip2 ◌+ℤ◌ (chunk 0 4 xs) (chunk 4 4 xs)
halves_added xs l =
    by_eight (λ xs. Each1 (Within 1073741823) xs →
    let ns = map (of_z w32) xs ++ map (of_z w32) xs in
    (two ns 0 4 ∷ two ns 1 5 ∷ two ns 2 6 ∷ two ns 3 7 ∷ []) ≡ zip2 ◌+ℤ◌ (chunk 0 4 xs) (chunk 4 4 xs))
    (λ a b c d e f g h w. four_same _ _ _ _ _ _ _ _ (lane_sum a e w.0 w.1.1.1.1.0) (lane_sum b f w.1.0 w.1.1.1.1.1.0) (lane_sum c g w.1.1.0 w.1.1.1.1.1.1.0)
    (lane_sum d h w.1.1.1.0 w.1.1.1.1.1.1.1.0)) xs l

-- four lanes and four more
pub four_and_four : (xs ys : List ℤ) → length xs ≡ 4 → length ys ≡ 4 → Each1 (FitsSigned w32) xs → Each1 (FitsSigned w32) ys →
    let ns = map (of_z w32) xs ++ map (of_z w32) ys in
    (to_z w32 (get_or ns 0 0) ∷ to_z w32 (get_or ns 1 0) ∷ to_z w32 (get_or ns 2 0) ∷ to_z w32 (get_or ns 3 0) ∷ to_z w32 (get_or ns 4 0) ∷
    to_z w32 (get_or ns 5 0) ∷ to_z w32 (get_or ns 6 0) ∷ to_z w32 (get_or ns 7 0) ∷ []) ≡ xs ++ ys
four_and_four xs ys k l =
    by_four (λ xs. Each1 (FitsSigned w32) xs → Each1 (FitsSigned w32) ys →
    let ns = map (of_z w32) xs ++ map (of_z w32) ys in
    (to_z w32 (get_or ns 0 0) ∷ to_z w32 (get_or ns 1 0) ∷ to_z w32 (get_or ns 2 0) ∷ to_z w32 (get_or ns 3 0) ∷ to_z w32 (get_or ns 4 0) ∷
    to_z w32 (get_or ns 5 0) ∷ to_z w32 (get_or ns 6 0) ∷ to_z w32 (get_or ns 7 0) ∷ []) ≡ xs ++ ys)
    (λ a b c d p. by_four (λ ys. Each1 (FitsSigned w32) ys →
    let ns = of_z w32 a ∷ of_z w32 b ∷ of_z w32 c ∷ of_z w32 d ∷ map (of_z w32) ys in
    (to_z w32 (get_or ns 0 0) ∷ to_z w32 (get_or ns 1 0) ∷ to_z w32 (get_or ns 2 0) ∷ to_z w32 (get_or ns 3 0) ∷ to_z w32 (get_or ns 4 0) ∷
    to_z w32 (get_or ns 5 0) ∷ to_z w32 (get_or ns 6 0) ∷ to_z w32 (get_or ns 7 0) ∷ []) ≡ a ∷ b ∷ c ∷ d ∷ ys)
    (λ e f g h q. eight_same (to_z-of_z w32 a p.0) (to_z-of_z w32 b p.1.0) (to_z-of_z w32 c p.1.1.0) (to_z-of_z w32 d p.1.1.1.0)
    (to_z-of_z w32 e q.0) (to_z-of_z w32 f q.1.0) (to_z-of_z w32 g q.1.1.0) (to_z-of_z w32 h q.1.1.1.0)) ys l) xs k

-- ---- rows

-- the sums of neighbours among n products: of a block from place i on and the residuals from place `at` on
abbrev pub pairs_at : List ℤ → List ℤ → ℕ → ℕ → ℕ → List ℤ
pairs_at wt earlier n i at = sums_of_pairs (zip2 ◌*ℤ◌ (chunk i n wt) (chunk at n earlier))

-- samples of a scaled block, and residuals
pub scaled_chunk : (wt : List ℤ) (i n : ℕ) → length wt ≡ 40 → AreScaled wt → Each1 (Within 512) (chunk i n wt)
scaled_chunk wt i n l scaled = Each1-chunk (Within 512) i n wt (Each1-from_get_or (Within 512) wt (pos 0) (λ k h. scaled_all wt l scaled k))

pub words_within : (x : ℤ) → FitsSigned w16 x → Within 32768 x
words_within x f = omega (arith, ints)

word_chunk : (earlier : List ℤ) (at n : ℕ) → AreSigned16 earlier → Each1 (Within 32768) (chunk at n earlier)
word_chunk earlier at n words =
    Each1-chunk (Within 32768) at n earlier (Each1-from_get_or (Within 32768) earlier (pos 0) (λ k h. words_within (get_or earlier k (pos 0)) (words k)))

pub products_small : (wt earlier : List ℤ) (n i at : ℕ) → length wt ≡ 40 → AreScaled wt → AreSigned16 earlier →
    Each1 (Within 16777216) (zip2 ◌*ℤ◌ (chunk i n wt) (chunk at n earlier))
products_small wt earlier n i at l scaled words =
    products_within 512 32768 (chunk i n wt) (chunk at n earlier) (scaled_chunk wt i n l scaled) (word_chunk earlier at n words)

-- products of lanes that are passed, and are passed on
pub products_passed : (wt earlier : List ℤ) (n i at : ℕ) (xs ys ps : List ℤ) → length wt ≡ 40 → AreScaled wt → AreSigned16 earlier →
    xs ≡ chunk i n wt → ys ≡ chunk at n earlier → ps ≡ zip2 ◌*ℤ◌ (map (to_z w32) (map (of_z w32) xs)) (map (to_z w32) (map (of_z w32) ys)) →
    map (to_z w32) (map (of_z w32) ps) ≡ zip2 ◌*ℤ◌ (chunk i n wt) (chunk at n earlier)
products_passed wt earlier n i at xs ys ps l scaled words ex ey ep =
    lanes_passed 16777216 ps (zip2 ◌*ℤ◌ (chunk i n wt) (chunk at n earlier)) (lit≤ tt) (products_small wt earlier n i at l scaled words)
    (ep ∙ ap (λ zs. zip2 ◌*ℤ◌ zs (map (to_z w32) (map (of_z w32) ys))) (lanes_passed 512 xs (chunk i n wt) (lit≤ tt) (scaled_chunk wt i n l scaled) ex) ∙
    ap (zip2 ◌*ℤ◌ (chunk i n wt)) (lanes_passed 32768 ys (chunk at n earlier) (lit≤ tt) (word_chunk earlier at n words) ey))

pub products_length : (wt earlier : List ℤ) (n i at : ℕ) → i + n ≤ length wt → at + n ≤ length earlier →
    length (zip2 ◌*ℤ◌ (chunk i n wt) (chunk at n earlier)) ≡ n
products_length wt earlier n i at a b =
    let x = length-chunk i n wt a in
    let y = length-chunk at n earlier b in
    length-zip2 ◌*ℤ◌ (chunk i n wt) (chunk at n earlier) (x ∙ sym y) ∙ x

pub pairs_small : (wt earlier : List ℤ) (n i at : ℕ) → length wt ≡ 40 → AreScaled wt → AreSigned16 earlier →
    Each1 (Within 33554432) (pairs_at wt earlier n i at)
pairs_small wt earlier n i at l scaled words =
    pairs_within 16777216 (zip2 ◌*ℤ◌ (chunk i n wt) (chunk at n earlier)) (products_small wt earlier n i at l scaled words)

length_of_pairs : (xs : List ℤ) (n : ℕ) → length xs ≡ n + n → length (sums_of_pairs xs) ≡ n
length_of_pairs [] n l = omega arith
length_of_pairs (x ∷ []) n l = absurd (omega arith)
length_of_pairs (x ∷ y ∷ zs) n l = let rest = length_of_pairs zs (n - 1) (omega arith) in omega arith

-- ---- their sums

-- the sum of sums of pairs
sum_of_pairs : (xs : List ℤ) (n : ℕ) (s : ℤ) → length xs ≡ n + n → fold ◌+ℤ◌ s (sums_of_pairs xs) ≡ fold ◌+ℤ◌ s xs
sum_of_pairs [] n s l = refl
sum_of_pairs (x ∷ []) n s l = absurd (omega arith)
sum_of_pairs (x ∷ y ∷ zs) n s l =
    let turn : s +ℤ (x +ℤ y) ≡ s +ℤ x +ℤ y = omega (arith, ints) in
    ap (λ a. fold ◌+ℤ◌ a (sums_of_pairs zs)) turn ∙ sum_of_pairs zs (n - 1) (s +ℤ x +ℤ y) (omega arith)

-- the sum of two halves
sum_of_halves : (xs : List ℤ) → length xs ≡ 8 → fold ◌+ℤ◌ (pos 0) (zip2 ◌+ℤ◌ (chunk 0 4 xs) (chunk 4 4 xs)) ≡ fold ◌+ℤ◌ (pos 0) xs
sum_of_halves xs l = by_eight (λ zs. fold ◌+ℤ◌ (pos 0) (zip2 ◌+ℤ◌ (chunk 0 4 zs) (chunk 4 4 zs)) ≡ fold ◌+ℤ◌ (pos 0) zs) (λ a b c d e f g h. omega (arith, ints)) xs l

length_of_halves : (xs : List ℤ) → length xs ≡ 8 → length (zip2 ◌+ℤ◌ (chunk 0 4 xs) (chunk 4 4 xs)) ≡ 4
length_of_halves xs l = by_eight (λ zs. length (zip2 ◌+ℤ◌ (chunk 0 4 zs) (chunk 4 4 zs)) ≡ 4) (λ a b c d e f g h. refl) xs l

-- a row of 2 n products, added by pairs
pub record Row (wt earlier : List ℤ) (start n i : ℕ) (xs : List ℤ) : Type 0 where
  pub within : Each1 (Within 33554432) xs
  pub long : length xs ≡ n
  pub total : fold ◌+ℤ◌ (pos 0) xs ≡ fold ◌+ℤ◌ (pos 0) (map (product_at wt earlier start) (range_with_len i (n + n)))

pub row_of : (wt earlier : List ℤ) (start n i at : ℕ) (xs : List ℤ) → length wt ≡ 40 → AreScaled wt → AreSigned16 earlier → i + (n + n) ≤ length wt →
    at + (n + n) ≤ length earlier → at ≡ start + i → xs ≡ pairs_at wt earlier (n + n) i at → Row wt earlier start n i xs
row_of wt earlier start n i at xs l scaled words a b place e =
    let long = products_length wt earlier (n + n) i at a b in
    let room : start + i + (n + n) ≤ length earlier = omega arith in
    let terms : zip2 ◌*ℤ◌ (chunk i (n + n) wt) (chunk (start + i) (n + n) earlier) ≡ map (product_at wt earlier start) (range_with_len i (n + n)) =
    zip2_of_maps ◌*ℤ◌ (λ k. get_or wt k (pos 0)) (λ k. get_or earlier (start + k) (pos 0)) (range_with_len i (n + n))
    (sym (pick_l-range_with_len (pos 0) wt i (n + n) a))
    (sym (pick_l-range_with_len (pos 0) earlier (start + i) (n + n) room) ∙ shifted (λ k. get_or earlier k (pos 0)) start i (n + n)) in
    record {
      within = subst (Each1 (Within 33554432)) (sym e) (pairs_small wt earlier (n + n) i at l scaled words);
      long = ap length e ∙ length_of_pairs (zip2 ◌*ℤ◌ (chunk i (n + n) wt) (chunk at (n + n) earlier)) n long;
      total = ap (fold ◌+ℤ◌ (pos 0)) e ∙ sum_of_pairs (zip2 ◌*ℤ◌ (chunk i (n + n) wt) (chunk at (n + n) earlier)) n (pos 0) long ∙
          ap (λ j. fold ◌+ℤ◌ (pos 0) (zip2 ◌*ℤ◌ (chunk i (n + n) wt) (chunk j (n + n) earlier))) place ∙ ap (fold ◌+ℤ◌ (pos 0)) terms;
    }

-- ---- a lag

-- the sums of two vectors that are passed
pub sums_passed : (m n : ℕ) (xs ys r : List ℤ) → m ≤ 1073741823 → n ≤ 1073741823 → Each1 (Within m) xs → Each1 (Within n) ys →
    r ≡ zip2 ◌+ℤ◌ (map (to_z w32) (map (of_z w32) xs)) (map (to_z w32) (map (of_z w32) ys)) → r ≡ zip2 ◌+ℤ◌ xs ys
sums_passed m n xs ys r a b p q e =
    e ∙ ap (λ zs. zip2 ◌+ℤ◌ zs (map (to_z w32) (map (of_z w32) ys))) (kept m xs a p) ∙ ap (zip2 ◌+ℤ◌ xs) (kept n ys b q)

-- a vector that is passed is within a bound where it is so itself
pub passed_within : (m n : ℕ) (xs : List ℤ) → m ≤ 1073741823 → m ≤ n → Each1 (Within m) xs → Each1 (Within n) (map (to_z w32) (map (of_z w32) xs))
passed_within m n xs a b p = subst (Each1 (Within n)) (sym (kept m xs a p)) (Each1-weaker (Within m) (Within n) (λ x h. omega arith) xs p)

-- the halves of a vector that is passed
pub halves_passed : (m : ℕ) (xs r : List ℤ) → m ≤ 1073741823 → Each1 (Within m) xs →
    r ≡ zip2 ◌+ℤ◌ (chunk 0 4 (map (to_z w32) (map (of_z w32) xs))) (chunk 4 4 (map (to_z w32) (map (of_z w32) xs))) →
    r ≡ zip2 ◌+ℤ◌ (chunk 0 4 xs) (chunk 4 4 xs)
halves_passed m xs r a p e = e ∙ ap (λ zs. zip2 ◌+ℤ◌ (chunk 0 4 zs) (chunk 4 4 zs)) (kept m xs a p)

-- the sums of two vectors of eight lanes, and those of its halves
pub record Added (xs ys zs : List ℤ) : Type 0 where
  pub within : Each1 (Within 67108864) zs
  pub long : length zs ≡ 8
  pub total : fold ◌+ℤ◌ (pos 0) zs ≡ fold ◌+ℤ◌ (pos 0) xs +ℤ fold ◌+ℤ◌ (pos 0) ys

pub added_of : (xs ys zs : List ℤ) → length xs ≡ 8 → length ys ≡ 8 → Each1 (Within 33554432) xs → Each1 (Within 33554432) ys →
    zs ≡ zip2 ◌+ℤ◌ (map (to_z w32) (map (of_z w32) xs)) (map (to_z w32) (map (of_z w32) ys)) → Added xs ys zs
added_of xs ys zs k l p q e =
    let is : zs ≡ zip2 ◌+ℤ◌ xs ys = sums_passed 33554432 33554432 xs ys zs (lit≤ tt) (lit≤ tt) p q e in
    record {
      within = subst (Each1 (Within 67108864)) (sym is) (sums_within 33554432 33554432 xs ys p q);
      long = ap length is ∙ length-zip2 ◌+ℤ◌ xs ys (k ∙ sym l) ∙ k;
      total = ap (fold ◌+ℤ◌ (pos 0)) is ∙ fold_sums xs ys (pos 0) (pos 0) (k ∙ sym l);
    }

pub record Folded (xs zs : List ℤ) : Type 0 where
  pub within : Each1 (Within 134217728) zs
  pub long : length zs ≡ 4
  pub total : fold ◌+ℤ◌ (pos 0) zs ≡ fold ◌+ℤ◌ (pos 0) xs

pub folded_of : (xs zs : List ℤ) → length xs ≡ 8 → Each1 (Within 67108864) xs →
    zs ≡ zip2 ◌+ℤ◌ (chunk 0 4 (map (to_z w32) (map (of_z w32) xs))) (chunk 4 4 (map (to_z w32) (map (of_z w32) xs))) → Folded xs zs
folded_of xs zs l p e =
    let is : zs ≡ zip2 ◌+ℤ◌ (chunk 0 4 xs) (chunk 4 4 xs) = halves_passed 67108864 xs zs (lit≤ tt) p e in
    record {
      within = subst (Each1 (Within 134217728)) (sym is) (sums_within 67108864 67108864 (chunk 0 4 xs) (chunk 4 4 xs)
          (Each1-chunk (Within 67108864) 0 4 xs p) (Each1-chunk (Within 67108864) 4 4 xs p));
      long = ap length is ∙ length_of_halves xs l;
      total = ap (fold ◌+ℤ◌ (pos 0)) is ∙ sum_of_halves xs l;
    }

-- the four sums of a lag
pub record Sums (wt earlier : List ℤ) (start : ℕ) (zs : List ℤ) : Type 0 where
  pub within : Each1 (Within 167772160) zs
  pub long : length zs ≡ 4
  pub total : fold ◌+ℤ◌ (pos 0) zs ≡ fold ◌+ℤ◌ (pos 0) (map (product_at wt earlier start) (range_with_len 0 40))

pub sums_of : (wt earlier : List ℤ) (start : ℕ) (front middle back added folded zs : List ℤ) → Row wt earlier start 8 0 front →
    Row wt earlier start 8 16 middle → Row wt earlier start 4 32 back → Added front middle added → Folded added folded →
    zs ≡ zip2 ◌+ℤ◌ (map (to_z w32) (map (of_z w32) folded)) (map (to_z w32) (map (of_z w32) back)) → Sums wt earlier start zs
sums_of wt earlier start front middle back added folded zs f m b a h e =
    let is : zs ≡ zip2 ◌+ℤ◌ folded back = sums_passed 134217728 33554432 folded back zs (lit≤ tt) (lit≤ tt) h.within b.within e in
    let g : ℕ → ℤ = product_at wt earlier start in
    let ft = f.total in
    let mt = m.total in
    let bt = b.total in
    record {
      within = subst (Each1 (Within 167772160)) (sym is) (sums_within 134217728 33554432 folded back h.within b.within);
      long = ap length is ∙ length-zip2 ◌+ℤ◌ folded back (h.long ∙ sym b.long) ∙ h.long;
      total = ap (fold ◌+ℤ◌ (pos 0)) is ∙ fold_sums folded back (pos 0) (pos 0) (h.long ∙ sym b.long) ∙
          ap (λ z. z +ℤ fold ◌+ℤ◌ (pos 0) back) (h.total ∙ a.total) ∙ (λ i. ft i +ℤ mt i +ℤ bt i) ∙
          ap (λ z. z +ℤ fold ◌+ℤ◌ (pos 0) (map g (range_with_len 32 8))) (sym (fold_on g 16 16)) ∙ sym (fold_on g 32 8);
    }

-- ---- eight lags

-- the lanes of two vectors that are passed
pub joined_passed : (m : ℕ) (xs ys zs : List ℤ) → m ≤ 1073741823 → Each1 (Within m) xs → Each1 (Within m) ys →
    zs ≡ map (to_z w32) (map (of_z w32) xs) ++ map (to_z w32) (map (of_z w32) ys) → zs ≡ xs ++ ys
joined_passed m xs ys zs l p q e =
    e ∙ ap (λ vs. vs ++ map (to_z w32) (map (of_z w32) ys)) (kept m xs l p) ∙ ap (λ vs. xs ++ vs) (kept m ys l q)

-- their bound
pub joined_small : (m : ℕ) (xs ys zs : List ℤ) → m ≤ 1073741823 → Each1 (Within m) xs → Each1 (Within m) ys →
    zs ≡ map (to_z w32) (map (of_z w32) xs) ++ map (to_z w32) (map (of_z w32) ys) → Each1 (Within m) zs
joined_small m xs ys zs l p q e = subst (Each1 (Within m)) (sym (joined_passed m xs ys zs l p q e)) (joined_within (Within m) xs ys p q)

-- each lane of a vector that is added to itself
pub twice_lane : (xs : List ℤ) (k : ℕ) → k < length xs → get_or (zip2 ◌+ℤ◌ xs xs) k (pos 0) ≡ get_or xs k (pos 0) *ℤ pos 2
twice_lane xs k b = get_or-zip2 ◌+ℤ◌ xs xs k (pos 0) (pos 0) (pos 0) b b ∙ twice (get_or xs k (pos 0))
  where
    twice : (x : ℤ) → x +ℤ x ≡ x *ℤ pos 2
    twice x = omega (arith, ints)

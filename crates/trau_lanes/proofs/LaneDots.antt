-- For crates above: sums and products of 32-bit lanes don't wrap within bounds (`Within`), and so sums of products lane
-- by lane (`Pairs`); sums of two lists (`fold_sums`), and places counted from another (`shifted`).
use Rattle.std.proofs.Common.{◌≡◌, ℕ, zero, suc, ◌+◌, ◌*◌, ◌%◌, ◌^◌, ◌≤◌, ℤ, pos, ◌+ℤ◌, ◌*ℤ◌, unsigned_abs, FitsSigned, w16, w32, to_z, of_z, fold, map, List}
use Rattle.std.proofs.Common.{[], ◌∷◌, ◌++◌, length, get_or, refl, ap, sym, ◌∙◌, arith, lit<, mul-le-mul, add-zero, add-one}
use Rattle.std.specs.List.{range_with_len}
use Rattle.std.proofs.lemmas.Int.{ints, to_z-of_z, unsigned_abs-mul, wrapping_add_is, wrapping_mul_is, int_wrap_fits, fits_signed_mul}
use Rattle.std.specs.Simd.Lanes.{zip2, Each1, chunk}
use Rattle.std.proofs.lemmas.Simd.{pick_l-range_with_len, zip2_of_maps, Each1-weaker, length-zip2, length-chunk}
use Rattle.std.proofs.lemmas.List.FromFn.{map-range_with_len_more}
use Rattle.std.proofs.lemmas.Grind.{fold-append}
use Rattle.trau_lanes.specs.Lanes.{sums_of_pairs}
use Rattle.trau_lanes.proofs.Eight.{lanes_kept, by_eight}

-- the magnitude of a lane is at most b
abbrev pub Within : ℕ → ℤ → Type 0
Within b x = unsigned_abs x ≤ b

-- words in lanes of 32 bits
pub lanes_widened : (f : ℕ → ℕ) → ((x : ℤ) → FitsSigned w16 x → to_z w32 (f (of_z w16 x)) ≡ x) → (xs : List ℤ) → Each1 (FitsSigned w16) xs →
    map (to_z w32) (map f (map (of_z w16) xs)) ≡ xs
lanes_widened f h [] p = refl
lanes_widened f h (x ∷ xs) p = ap (λ z. z ∷ map (to_z w32) (map f (map (of_z w16) xs))) (h x p.0) ∙ ap (λ zs. x ∷ zs) (lanes_widened f h xs p.1)

-- a word in a lane of 32 bits
pub lane_widened : (x : ℤ) → FitsSigned w16 x → to_z w32 (of_z w32 (to_z w16 (of_z w16 x))) ≡ x
lane_widened x f = omega (arith, ints)

-- the product of two words, of which one is above the least
pub lane_product : (x y : ℤ) → Within 32767 x → Within 32768 y → to_z w32 ((of_z w32 x * of_z w32 y) % 2 ^ 32) ≡ x *ℤ y
lane_product x y a b =
    let fx : FitsSigned w32 x = omega (arith, ints) in
    let fy : FitsSigned w32 y = omega (arith, ints) in
    wrapping_mul_is w32 x y fx fy ∙ int_wrap_fits w32 (x *ℤ y) (fits_signed_mul w32 x y 32767 32768 a b (lit< tt))

-- the sum of two lanes
pub lane_sum : (x y : ℤ) → Within 1073741823 x → Within 1073741823 y → to_z w32 ((of_z w32 x + of_z w32 y) % 2 ^ 32) ≡ x +ℤ y
lane_sum x y a b =
    let fx : FitsSigned w32 x = omega (arith, ints) in
    let fy : FitsSigned w32 y = omega (arith, ints) in
    let f : FitsSigned w32 (x +ℤ y) = omega (arith, ints) in
    wrapping_add_is w32 x y fx fy ∙ int_wrap_fits w32 (x +ℤ y) f

-- an operation on the bits of each pair of lanes
pub lane_by_lane : (f : ℕ → ℕ → ℕ) (g : ℤ → ℤ → ℤ) (m n : ℕ) →
    ((x y : ℤ) → Within m x → Within n y → to_z w32 (f (of_z w32 x) (of_z w32 y)) ≡ g x y) →
    (xs ys : List ℤ) → Each1 (Within m) xs → Each1 (Within n) ys →
    map (to_z w32) (zip2 f (map (of_z w32) xs) (map (of_z w32) ys)) ≡ zip2 g xs ys
lane_by_lane f g m n h [] ys p q = refl
lane_by_lane f g m n h (x ∷ xs) [] p q = refl
lane_by_lane f g m n h (x ∷ xs) (y ∷ ys) p q =
    ap (λ z. z ∷ map (to_z w32) (zip2 f (map (of_z w32) xs) (map (of_z w32) ys))) (h x y p.0 q.0) ∙
    ap (λ zs. g x y ∷ zs) (lane_by_lane f g m n h xs ys p.1 q.1)

-- the products of lanes
pub products_within : (m n : ℕ) (xs ys : List ℤ) → Each1 (Within m) xs → Each1 (Within n) ys → Each1 (Within (m * n)) (zip2 ◌*ℤ◌ xs ys)
products_within m n [] ys p q = tt
products_within m n (x ∷ xs) [] p q = tt
products_within m n (x ∷ xs) (y ∷ ys) p q = (simp unsigned_abs-mul (mul-le-mul p.0 q.0), products_within m n xs ys p.1 q.1)

-- the sums of lanes
pub sums_within : (m n : ℕ) (xs ys : List ℤ) → Each1 (Within m) xs → Each1 (Within n) ys → Each1 (Within (m + n)) (zip2 ◌+ℤ◌ xs ys)
sums_within m n [] ys p q = tt
sums_within m n (x ∷ xs) [] p q = tt
sums_within m n (x ∷ xs) (y ∷ ys) p q = let a = p.0 in let b = q.0 in (omega (arith, ints), sums_within m n xs ys p.1 q.1)

-- the sum of sums
pub fold_sums : (xs ys : List ℤ) (s t : ℤ) → length xs ≡ length ys → fold ◌+ℤ◌ (s +ℤ t) (zip2 ◌+ℤ◌ xs ys) ≡ fold ◌+ℤ◌ s xs +ℤ fold ◌+ℤ◌ t ys
fold_sums [] [] s t e = refl
fold_sums [] (y ∷ ys) s t e = absurd (omega arith)
fold_sums (x ∷ xs) [] s t e = absurd (omega arith)
fold_sums (x ∷ xs) (y ∷ ys) s t e =
    let turn : s +ℤ t +ℤ (x +ℤ y) ≡ s +ℤ x +ℤ (t +ℤ y) = omega (arith, ints) in
    ap (λ a. fold ◌+ℤ◌ a (zip2 ◌+ℤ◌ xs ys)) turn ∙ fold_sums xs ys (s +ℤ x) (t +ℤ y) (omega arith)

-- a sum of halves, doubled
pub doubled_sum : (g f : ℕ → ℤ) → ((k : ℕ) → g k *ℤ pos 2 ≡ f k) → (ks : List ℕ) (s t : ℤ) → s *ℤ pos 2 ≡ t →
    fold ◌+ℤ◌ s (map g ks) *ℤ pos 2 ≡ fold ◌+ℤ◌ t (map f ks)
doubled_sum g f h [] s t e = e
doubled_sum g f h (k ∷ ks) s t e = let here = h k in doubled_sum g f h ks (s +ℤ g k) (t +ℤ f k) (omega (arith, ints))

-- one term more at the end
pub fold_more : (h : ℤ → ℤ → ℤ) (f : ℕ → ℤ) (k : ℕ) → fold h (pos 0) (map f (range_with_len 0 (k + 1))) ≡ h (fold h (pos 0) (map f (range_with_len 0 k))) (f k)
fold_more h f k = ap (fold h (pos 0)) (map-range_with_len_more f 0 k k (omega arith)) ∙ fold-append h (pos 0) (map f (range_with_len 0 k)) (f k ∷ [])

-- the terms of n places more
pub fold_on : (g : ℕ → ℤ) (i n : ℕ) →
    fold ◌+ℤ◌ (pos 0) (map g (range_with_len 0 (i + n))) ≡ fold ◌+ℤ◌ (pos 0) (map g (range_with_len 0 i)) +ℤ fold ◌+ℤ◌ (pos 0) (map g (range_with_len i n))
fold_on g i zero = rw (add-zero i) (omega (arith, ints))
fold_on g i (suc n) =
    let place : i + suc n ≡ i + n + 1 = omega arith in
    let here = fold_more ◌+ℤ◌ g (i + n) in
    let last = ap (fold ◌+ℤ◌ (pos 0)) (map-range_with_len_more g i n (i + n) refl) ∙ fold-append ◌+ℤ◌ (pos 0) (map g (range_with_len i n)) (g (i + n) ∷ []) in
    let last' = rw (add-one n) at last in
    let before = fold_on g i n in
    rw place (omega (arith, ints))

-- places counted from s
pub shifted : (h : ℕ → ℤ) (s i n : ℕ) → map h (range_with_len (s + i) n) ≡ map (λ k. h (s + k)) (range_with_len i n)
shifted h s i zero = refl
shifted h s i (suc n) =
    let next : s + i + 1 ≡ s + (i + 1) = omega arith in
    ap (λ zs. h (s + i) ∷ zs) (ap (λ j. map h (range_with_len j n)) next ∙ shifted h s (i + 1) n)

-- the product at place k, of a block and the residuals from `start` on
abbrev pub product_at : List ℤ → List ℤ → ℕ → ℕ → ℤ
product_at wt earlier start k = get_or wt k (pos 0) *ℤ get_or earlier (start + k) (pos 0)

-- eight products
eight_products : (wt earlier : List ℤ) (start i : ℕ) → i + 8 ≤ length wt → start + i + 8 ≤ length earlier →
    zip2 ◌*ℤ◌ (chunk i 8 wt) (chunk (start + i) 8 earlier) ≡ map (product_at wt earlier start) (range_with_len i 8)
eight_products wt earlier start i a b =
    zip2_of_maps ◌*ℤ◌ (λ k. get_or wt k (pos 0)) (λ k. get_or earlier (start + k) (pos 0)) (range_with_len i 8)
    (sym (pick_l-range_with_len (pos 0) wt i 8 a))
    (sym (pick_l-range_with_len (pos 0) earlier (start + i) 8 b) ∙ shifted (λ k. get_or earlier k (pos 0)) start i 8)

-- a vector that is passed on is kept
pub lanes_passed : (b : ℕ) (xs ys : List ℤ) → b ≤ 1073741823 → Each1 (Within b) ys → xs ≡ ys → map (to_z w32) (map (of_z w32) xs) ≡ ys
lanes_passed b xs ys m p e =
    ap (λ zs. map (to_z w32) (map (of_z w32) zs)) e ∙ lanes_kept w32 ys (Each1-weaker (Within b) (FitsSigned w32) (λ x h. omega (arith, ints)) ys p)

-- the products of eight numbers with eight others
abbrev pub row : List ℤ → List ℤ → ℕ → ℕ → List ℤ
row wt earlier i at = zip2 ◌*ℤ◌ (chunk i 8 wt) (chunk at 8 earlier)

pub row_length : (wt earlier : List ℤ) (i at : ℕ) → i + 8 ≤ length wt → at + 8 ≤ length earlier → length (row wt earlier i at) ≡ 8
row_length wt earlier i at a b =
    let x = length-chunk i 8 wt a in
    let y = length-chunk at 8 earlier b in
    length-zip2 ◌*ℤ◌ (chunk i 8 wt) (chunk at 8 earlier) (x ∙ sym y) ∙ x

-- sums of pairs on the bits of lanes
abbrev pub pair : List ℕ → ℕ → ℕ → ℤ
pair ns i j = to_z w32 ((of_z w32 (to_z w32 (get_or ns i 0)) + of_z w32 (to_z w32 (get_or ns j 0))) % 2 ^ 32)

-- the sums of neighbours in lanes are those of numbers
abbrev pub Pairs : List ℕ → List ℤ → Type 0
Pairs ns zs = (pair ns 0 1 ∷ pair ns 2 3 ∷ pair ns 4 5 ∷ pair ns 6 7 ∷ []) ≡ sums_of_pairs zs

-- one of them, where both numbers are small
pub pair_sum : (x y : ℤ) → Within 1073741823 x → Within 1073741823 y →
    to_z w32 ((of_z w32 (to_z w32 (of_z w32 x)) + of_z w32 (to_z w32 (of_z w32 y))) % 2 ^ 32) ≡ x +ℤ y
pair_sum x y a b =
    let fx : FitsSigned w32 x = omega (arith, ints) in
    let fy : FitsSigned w32 y = omega (arith, ints) in
    ap (λ m. to_z w32 ((of_z w32 m + of_z w32 (to_z w32 (of_z w32 y))) % 2 ^ 32)) (to_z-of_z w32 x fx) ∙
    ap (λ n. to_z w32 ((of_z w32 x + of_z w32 n) % 2 ^ 32)) (to_z-of_z w32 y fy) ∙ lane_sum x y a b

-- lists of four are the same where each two numbers are
pub four_same : (x x' y y' z z' w w' : ℤ) → x ≡ x' → y ≡ y' → z ≡ z' → w ≡ w' → (x ∷ y ∷ z ∷ w ∷ []) ≡ (x' ∷ y' ∷ z' ∷ w' ∷ [])
four_same x x' y y' z z' w w' a b c d = cc

-- the lanes of one vector
pub pairs_of_one : (xs : List ℤ) → length xs ≡ 8 → Each1 (Within 1073741823) xs → Pairs (map (of_z w32) xs ++ map (of_z w32) xs) xs
pairs_of_one xs l =
    by_eight (λ zs. Each1 (Within 1073741823) zs → Pairs (map (of_z w32) zs ++ map (of_z w32) zs) zs)
    (λ a b c d e f g h p. four_same _ _ _ _ _ _ _ _ (pair_sum a b p.0 p.1.0) (pair_sum c d p.1.1.0 p.1.1.1.0) (pair_sum e f p.1.1.1.1.0 p.1.1.1.1.1.0)
    (pair_sum g h p.1.1.1.1.1.1.0 p.1.1.1.1.1.1.1.0)) xs l

-- their sum, length and bound
fold_pairs : (xs : List ℤ) → length xs ≡ 8 → fold ◌+ℤ◌ (pos 0) (sums_of_pairs xs) ≡ fold ◌+ℤ◌ (pos 0) xs
fold_pairs xs l = by_eight (λ zs. fold ◌+ℤ◌ (pos 0) (sums_of_pairs zs) ≡ fold ◌+ℤ◌ (pos 0) zs) (λ a b c d e f g h. omega (arith, ints)) xs l

pub length_pairs : (xs : List ℤ) → length xs ≡ 8 → length (sums_of_pairs xs) ≡ 4
length_pairs xs l = by_eight (λ zs. length (sums_of_pairs zs) ≡ 4) (λ a b c d e f g h. refl) xs l

pub pairs_within : (m : ℕ) (xs : List ℤ) → Each1 (Within m) xs → Each1 (Within (m + m)) (sums_of_pairs xs)
pairs_within m [] p = tt
pairs_within m (x ∷ []) p = tt
pairs_within m (x ∷ y ∷ zs) p = let a = p.0 in let b = p.1.0 in (omega (arith, ints), pairs_within m zs p.1.1)

-- the sums of all lanes after eight products more
pub eight_more : (wt earlier sums : List ℤ) (start i : ℕ) → length sums ≡ 4 → i + 8 ≤ length wt → start + i + 8 ≤ length earlier →
    fold ◌+ℤ◌ (pos 0) sums ≡ fold ◌+ℤ◌ (pos 0) (map (product_at wt earlier start) (range_with_len 0 i)) →
    fold ◌+ℤ◌ (pos 0) (zip2 ◌+ℤ◌ sums (sums_of_pairs (row wt earlier i (start + i)))) ≡
    fold ◌+ℤ◌ (pos 0) (map (product_at wt earlier start) (range_with_len 0 (i + 8)))
eight_more wt earlier sums start i l a b e =
    let long = row_length wt earlier i (start + i) a b in
    fold_sums sums (sums_of_pairs (row wt earlier i (start + i))) (pos 0) (pos 0) (l ∙ sym (length_pairs (row wt earlier i (start + i)) long)) ∙
    ap (λ z. fold ◌+ℤ◌ (pos 0) sums +ℤ z) (fold_pairs (row wt earlier i (start + i)) long ∙ ap (fold ◌+ℤ◌ (pos 0)) (eight_products wt earlier start i a b)) ∙
    ap (λ z. z +ℤ fold ◌+ℤ◌ (pos 0) (map (product_at wt earlier start) (range_with_len i 8))) e ∙
    sym (fold_on (product_at wt earlier start) i 8)

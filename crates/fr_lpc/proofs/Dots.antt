-- Sums of products of scaled samples, eight at a time.
use Rattle.std.proofs.Common.{◌≡◌, ℕ, zero, suc, ◌+◌, ◌-◌, ◌*◌, ◌<◌, ◌≤◌, ℤ, pos, ◌+ℤ◌, ◌*ℤ◌, FitsSigned, w16, w32, to_z, of_z, fold, map, List, ◌∷◌, length}
use Rattle.std.proofs.Common.{get_or, refl, ap, sym, subst, ◌∙◌, arith, lit≤, inl, inr}
use Rattle.std.specs.List.{range_with_len}
use Rattle.std.proofs.lemmas.Int.{ints}
use Rattle.std.proofs.lemmas.Bool.{cases_lt}
use Rattle.std.proofs.lemmas.List.{get_or_past}
use Rattle.std.specs.Simd.Lanes.{zip2, Each1, chunk}
use Rattle.std.proofs.lemmas.Simd.{Each1-chunk, Each1-from_get_or, Each1-weaker}
use Rattle.trau_num.specs.Num.{entry}
use Rattle.trau_lanes.proofs.Eight.{by_four}
use Rattle.trau_lanes.proofs.LaneDots.{Within, products_within, sums_within, lanes_passed, row, product_at, fold_on}
use Rattle.fr_lpc.specs.Scaling.{AreWithin}
use Rattle.fr_lpc.proofs.Energy.{plain_sum}

-- each sample is at most 2048
abbrev pub AreSmall : List ℤ → Type 0
AreSmall xs = (k : ℕ) → Within 2048 (get_or xs k (pos 0))

-- eight of them, as words and as longs
pub small_chunk : (xs : List ℤ) (i : ℕ) → AreSmall xs → Each1 (Within 2048) (chunk i 8 xs)
small_chunk xs i h = Each1-chunk (Within 2048) i 8 xs (Each1-from_get_or (Within 2048) xs (pos 0) (λ k b. h k))

pub small_words : (xs : List ℤ) (i : ℕ) → AreSmall xs → Each1 (FitsSigned w16) (chunk i 8 xs)
small_words xs i h = Each1-weaker (Within 2048) (FitsSigned w16) (λ x b. omega (arith, ints)) (chunk i 8 xs) (small_chunk xs i h)

pub small_longs : (xs : List ℤ) (i : ℕ) → AreSmall xs → Each1 (FitsSigned w32) (chunk i 8 xs)
small_longs xs i h = Each1-weaker (Within 2048) (FitsSigned w32) (λ x b. omega (arith, ints)) (chunk i 8 xs) (small_chunk xs i h)

-- the samples, and the same behind eight zeros
pub samples_small : (s : List ℤ) → AreWithin 2048 s → AreSmall s
samples_small s h k =
    elim (cases_lt k (length s)) [
      | inl l ↦ h k l
      | inr g ↦ subst (Within 2048) (sym (get_or_past s k (pos 0) g)) (omega arith)
    ]

-- with eight zeros in front they stay so
pub past_small : (s past : List ℤ) → length past ≡ 168 → AreWithin 2048 s → ((i : ℕ) → i < 8 → entry past i ≡ pos 0) →
    ((i : ℕ) → i < 160 → entry past (8 + i) ≡ entry s i) → AreSmall past
past_small s past l h z e k =
    elim (cases_lt k 8) [
      | inl a ↦ subst (Within 2048) (sym (z k a)) (omega arith)
      | inr a ↦ elim (cases_lt k 168) [
        | inl b ↦
            let place : 8 + (k - 8) ≡ k = omega arith in
            subst (λ i. Within 2048 (entry past i)) place (subst (Within 2048) (sym (e (k - 8) (omega arith))) (samples_small s h (k - 8)))
        | inr b ↦ subst (Within 2048) (sym (get_or_past past k (pos 0) (omega arith))) (omega arith)
      ]
    ]

-- what a function is passed
pub passed : (xs ys : List ℤ) (i : ℕ) → AreSmall ys → xs ≡ chunk i 8 ys → map (to_z w32) (map (of_z w32) xs) ≡ chunk i 8 ys
passed xs ys i h e = lanes_passed 2048 xs (chunk i 8 ys) (lit≤ tt) (small_chunk ys i h) e

-- eight of them are passed within a bound
pub passed_within : (m : ℕ) (xs ys : List ℤ) (i : ℕ) → 2048 ≤ m → AreSmall ys → xs ≡ chunk i 8 ys → Each1 (Within m) (map (to_z w32) (map (of_z w32) xs))
passed_within m xs ys i l h e =
    subst (Each1 (Within m)) (sym (passed xs ys i h e)) (Each1-weaker (Within 2048) (Within m) (λ x b. omega arith) (chunk i 8 ys) (small_chunk ys i h))

-- eight products of a row, as numbers and as they are passed
pub row_within : (s past : List ℤ) (i at : ℕ) → AreSmall s → AreSmall past → Each1 (Within 4194304) (row s past i at)
row_within s past i at a b = products_within 2048 2048 (chunk i 8 s) (chunk at 8 past) (small_chunk s i a) (small_chunk past at b)

pub row_passed : (s past xs ys ps : List ℤ) (i at : ℕ) → AreSmall s → AreSmall past → xs ≡ chunk i 8 s → ys ≡ chunk at 8 past →
    ps ≡ zip2 ◌*ℤ◌ (map (to_z w32) (map (of_z w32) xs)) (map (to_z w32) (map (of_z w32) ys)) → map (to_z w32) (map (of_z w32) ps) ≡ row s past i at
row_passed s past xs ys ps i at a b ex ey ep =
    lanes_passed 4194304 ps (row s past i at) (lit≤ tt) (row_within s past i at a b) (ep ∙ (λ j. zip2 ◌*ℤ◌ (passed xs s i a ex j) (passed ys past at b ey j)))

-- one row more in the sums
pub next_within : (n : ℕ) (sums ps : List ℤ) → Each1 (Within (8388608 * n)) sums → Each1 (Within 8388608) ps →
    Each1 (Within (8388608 * (n + 1))) (zip2 ◌+ℤ◌ sums ps)
next_within n sums ps a b =
    let e : 8388608 * n + 8388608 ≡ 8388608 * (n + 1) = omega arith in
    subst (λ m. Each1 (Within m) (zip2 ◌+ℤ◌ sums ps)) e (sums_within (8388608 * n) 8388608 sums ps a b)

pub next_passed : (n : ℕ) (sums ps qs rs : List ℤ) → n < 20 → Each1 (Within (8388608 * n)) sums → Each1 (Within 8388608) ps → qs ≡ ps → rs ≡ zip2 ◌+ℤ◌ sums qs →
    map (to_z w32) (map (of_z w32) rs) ≡ zip2 ◌+ℤ◌ sums ps
next_passed n sums ps qs rs m a b eq er =
    lanes_passed (8388608 * (n + 1)) rs (zip2 ◌+ℤ◌ sums ps) (omega arith) (next_within n sums ps a b) (er ∙ ap (zip2 ◌+ℤ◌ sums) eq)

-- ---- the plain sum

-- sums over a range by terms that agree, or that are 0
same_range : (g f : ℕ → ℤ) (a n : ℕ) → ((i : ℕ) → a ≤ i → i < a + n → g i ≡ f i) → map g (range_with_len a n) ≡ map f (range_with_len a n)
same_range g f a zero h = refl
same_range g f a (suc n) h = (λ j. h a (omega arith) (omega arith) j ∷ same_range g f (a + 1) n (λ i l m. h i (omega arith) (omega arith)) j)

no_terms : (g : ℕ → ℤ) (a n : ℕ) (s : ℤ) → ((i : ℕ) → a ≤ i → i < a + n → g i ≡ pos 0) → fold ◌+ℤ◌ s (map g (range_with_len a n)) ≡ s
no_terms g a zero s h = refl
no_terms g a (suc n) s h =
    let here : s +ℤ g a ≡ s = (let z = h a (omega arith) (omega arith) in omega (arith, ints)) in
    ap (λ t. fold ◌+ℤ◌ t (map g (range_with_len (a + 1) n))) here ∙ no_terms g (a + 1) n s (λ i l m. h i (omega arith) (omega arith))

-- the products with what lies behind eight zeros are those of the plain sum
pub is_plain : (s past : List ℤ) (k : ℕ) → k ≤ 8 → ((i : ℕ) → i < 8 → entry past i ≡ pos 0) → ((i : ℕ) → i < 160 → entry past (8 + i) ≡ entry s i) →
    fold ◌+ℤ◌ (pos 0) (map (product_at s past (8 - k)) (range_with_len 0 160)) ≡ plain_sum s k
is_plain s past k l z e =
    let n : 160 ≡ k + (160 - k) = omega arith in
    let none : fold ◌+ℤ◌ (pos 0) (map (product_at s past (8 - k)) (range_with_len 0 k)) ≡ pos 0 =
    no_terms (product_at s past (8 - k)) 0 k (pos 0) (λ i a b. ap (λ v. entry s i *ℤ v) (z (8 - k + i) (omega arith)) ∙ nothing (entry s i)) in
    let rest : map (product_at s past (8 - k)) (range_with_len k (160 - k)) ≡ map (λ i. entry s i *ℤ entry s (i - k)) (range_with_len k (160 - k)) =
    same_range (product_at s past (8 - k)) (λ i. entry s i *ℤ entry s (i - k)) k (160 - k)
    (λ i a b. let place : 8 - k + i ≡ 8 + (i - k) = omega arith in ap (λ v. entry s i *ℤ v) (ap (entry past) place ∙ e (i - k) (omega arith))) in
    ap (λ m. fold ◌+ℤ◌ (pos 0) (map (product_at s past (8 - k)) (range_with_len 0 m))) n ∙ fold_on (product_at s past (8 - k)) k (160 - k) ∙
    (λ j. none j +ℤ fold ◌+ℤ◌ (pos 0) (rest j)) ∙ front (plain_sum s k)
  where
    nothing : (x : ℤ) → x *ℤ pos 0 ≡ pos 0
    nothing x = omega (arith, ints)

    front : (x : ℤ) → pos 0 +ℤ x ≡ x
    front x = omega (arith, ints)

-- the sum of four lanes
pub four_sum : (p : List ℤ) → length p ≡ 4 → get_or p 0 (pos 0) +ℤ get_or p 1 (pos 0) +ℤ get_or p 2 (pos 0) +ℤ get_or p 3 (pos 0) ≡ fold ◌+ℤ◌ (pos 0) p
four_sum p l = by_four (λ p. get_or p 0 (pos 0) +ℤ get_or p 1 (pos 0) +ℤ get_or p 2 (pos 0) +ℤ get_or p 3 (pos 0) ≡ fold ◌+ℤ◌ (pos 0) p)
    (λ a b c d. omega (arith, ints)) p l

-- The lanes of the correlations: what fits, and what their sums are.
use Rattle.std.proofs.Common.{◌≡◌, ℕ, zero, suc, ◌+◌, ◌-◌, ◌*◌, ◌<◌, ◌≤◌, ℤ, pos, ◌+ℤ◌, ◌*ℤ◌, unsigned_abs, FitsSigned, w16, w32, to_z, of_z, fold, map, List}
use Rattle.std.proofs.Common.{[], ◌∷◌, ◌++◌, length, get_or, refl, ap, sym, subst, ◌∙◌, arith, mul-le-mul, inl, inr}
use Rattle.std.specs.List.{range_with_len}
use Rattle.std.proofs.lemmas.Int.{ints}
use Rattle.std.specs.Simd.Lanes.{Each1, chunk}
use Rattle.std.proofs.lemmas.Simd.{Each1-chunk, Each1-from_get_or, Each1-weaker}
use Rattle.std.proofs.lemmas.List.{get_or_past, length-append}
use Rattle.std.proofs.lemmas.Bool.{cases_lt}
use Rattle.trau_num.specs.Num.{l_mult_of, entry}
use Rattle.trau_lanes.specs.Lanes.{sums_of_pairs}
use Rattle.trau_lanes.proofs.Eight.{lanes_kept, by_four}
use Rattle.trau_lanes.proofs.LaneDots.{Within, product_at, lanes_passed, pairs_within, length_pairs, Pairs, pair_sum}
use Rattle.trau_lanes.proofs.LaneDots.{four_same}
use Rattle.fr_long.specs.Scaling.{AreScaled}
use Rattle.fr_long.specs.Lag.{correlation_of, sum_of_products, AreSigned16}
use Rattle.fr_long.specs.Synthesis.{sample_before}
use Rattle.fr_long.proofs.Blocks.{doubled_small}

-- n of some words
pub chunk_words : (xs : List ℤ) (i n : ℕ) → ((k : ℕ) → FitsSigned w16 (get_or xs k (pos 0))) → Each1 (FitsSigned w16) (chunk i n xs)
chunk_words xs i n fits = Each1-chunk (FitsSigned w16) i n xs (Each1-from_get_or (FitsSigned w16) xs (pos 0) (λ k h. fits k))

-- and their numbers in 32 bits
pub word_numbers : (xs : List ℤ) → Each1 (FitsSigned w16) xs → map (to_z w32) (map (of_z w32) xs) ≡ xs
word_numbers xs p = lanes_kept w32 xs (Each1-weaker (FitsSigned w16) (FitsSigned w32) (λ x f. omega (arith, ints)) xs p)

-- no sample of a scaled block is above 512, and what is past its end is 0
pub scaled_all : (wt : List ℤ) → length wt ≡ 40 → AreScaled wt → (k : ℕ) → Within 512 (get_or wt k (pos 0))
scaled_all wt l scaled k =
    elim (cases_lt k 40) [
      | inl b ↦ scaled k b
      | inr b ↦ let past = get_or_past wt k (pos 0) (omega arith) in rw past (omega arith)
    ]

-- no product of the two is above 2^24
small_term : (wt : List ℤ) (v : ℤ) (k : ℕ) → length wt ≡ 40 → AreScaled wt → (k < 40 → Within 32768 v) →
    unsigned_abs (get_or wt k (pos 0)) * unsigned_abs v ≤ 16777216
small_term wt v k l scaled word =
    elim (cases_lt k 40) [
      | inl b ↦ mul-le-mul (scaled k b) (word b)
      | inr b ↦ let past = get_or_past wt k (pos 0) (omega arith) in rw past (omega arith)
    ]

-- a term of a correlation
pub doubled_term : (wt earlier : List ℤ) (lag k : ℕ) → length wt ≡ 40 → length earlier ≡ 120 → lag ≤ 120 → AreScaled wt →
    (k < 40 → Within 32768 (get_or earlier (120 - lag + k) (pos 0))) →
    product_at wt earlier (120 - lag) k *ℤ pos 2 ≡ l_mult_of (entry wt k) (sample_before earlier lag k)
doubled_term wt earlier lag k lw le m scaled word =
    let place : 120 - lag + k ≡ length earlier + k - lag = omega arith in
    doubled_small (get_or wt k (pos 0)) (get_or earlier (120 - lag + k) (pos 0)) (small_term wt (get_or earlier (120 - lag + k) (pos 0)) k lw scaled word) ∙
    ap (λ i. l_mult_of (get_or wt k (pos 0)) (get_or earlier i (pos 0))) place

-- the lanes of two vectors
pub pairs_of_two : (xs ys : List ℤ) → length xs ≡ 4 → length ys ≡ 4 → Each1 (Within 1073741823) (xs ++ ys) →
    Pairs (map (of_z w32) xs ++ map (of_z w32) ys) (xs ++ ys)
pairs_of_two xs ys k l =
    by_four (λ zs. Each1 (Within 1073741823) (zs ++ ys) → Pairs (map (of_z w32) zs ++ map (of_z w32) ys) (zs ++ ys))
    (λ a b c d. by_four (λ zs. Each1 (Within 1073741823) (a ∷ b ∷ c ∷ d ∷ zs) →
    Pairs (of_z w32 a ∷ of_z w32 b ∷ of_z w32 c ∷ of_z w32 d ∷ map (of_z w32) zs) (a ∷ b ∷ c ∷ d ∷ zs))
    (λ e f g h p. four_same _ _ _ _ _ _ _ _ (pair_sum a b p.0 p.1.0) (pair_sum c d p.1.1.0 p.1.1.1.0) (pair_sum e f p.1.1.1.1.0 p.1.1.1.1.1.0)
    (pair_sum g h p.1.1.1.1.1.1.0 p.1.1.1.1.1.1.1.0)) ys l) xs k

-- ---- four vectors, added by pairs twice

-- two lists side by side
pub joined_within : (P : ℤ → Type 0) (xs ys : List ℤ) → Each1 P xs → Each1 P ys → Each1 P (xs ++ ys)
joined_within P [] ys p q = q
joined_within P (x ∷ xs) ys p q = (p.0, joined_within P xs ys p.1 q)

-- what `both` is passed
pub kept : (m : ℕ) (xs : List ℤ) → m ≤ 1073741823 → Each1 (Within m) xs → map (to_z w32) (map (of_z w32) xs) ≡ xs
kept m xs l p = lanes_passed m xs xs l p refl

-- four sums beside four others, and their neighbours added
pub both_passed : (m : ℕ) (a b : List ℤ) → m ≤ 1073741823 → Each1 (Within m) a → Each1 (Within m) b →
    Each1 (Within 1073741823) (map (to_z w32) (map (of_z w32) a) ++ map (to_z w32) (map (of_z w32) b))
both_passed m a b l p q =
    let wide = Each1-weaker (Within m) (Within 1073741823) (λ x h. omega arith) in
    joined_within (Within 1073741823) _ _ (subst (Each1 (Within 1073741823)) (sym (kept m a l p)) (wide a p))
    (subst (Each1 (Within 1073741823)) (sym (kept m b l q)) (wide b q))

-- and gives
pub both_is : (m : ℕ) (a b r : List ℤ) → m ≤ 1073741823 → Each1 (Within m) a → Each1 (Within m) b →
    r ≡ sums_of_pairs (map (to_z w32) (map (of_z w32) a) ++ map (to_z w32) (map (of_z w32) b)) → r ≡ sums_of_pairs (a ++ b)
both_is m a b r l p q e =
    e ∙ ap (λ zs. sums_of_pairs (zs ++ map (to_z w32) (map (of_z w32) b))) (kept m a l p) ∙ ap (λ zs. sums_of_pairs (a ++ zs)) (kept m b l q)

pub both_within : (m : ℕ) (a b r : List ℤ) → Each1 (Within m) a → Each1 (Within m) b → r ≡ sums_of_pairs (a ++ b) → Each1 (Within (m + m)) r
both_within m a b r p q e = subst (Each1 (Within (m + m))) (sym e) (pairs_within m (a ++ b) (joined_within (Within m) a b p q))

pub both_length : (a b r : List ℤ) → length a ≡ 4 → length b ≡ 4 → r ≡ sums_of_pairs (a ++ b) → length r ≡ 4
both_length a b r k l e = ap length e ∙ length_pairs (a ++ b) (length-append a b ∙ omega arith)

-- the totals of four vectors
pub four_totals : (p q r s : List ℤ) → length p ≡ 4 → length q ≡ 4 → length r ≡ 4 → length s ≡ 4 →
    sums_of_pairs (sums_of_pairs (p ++ q) ++ sums_of_pairs (r ++ s)) ≡
    fold ◌+ℤ◌ (pos 0) p ∷ fold ◌+ℤ◌ (pos 0) q ∷ fold ◌+ℤ◌ (pos 0) r ∷ fold ◌+ℤ◌ (pos 0) s ∷ []
four_totals p q r s lp lq lr ls =
    by_four (λ p. sums_of_pairs (sums_of_pairs (p ++ q) ++ sums_of_pairs (r ++ s)) ≡
    fold ◌+ℤ◌ (pos 0) p ∷ fold ◌+ℤ◌ (pos 0) q ∷ fold ◌+ℤ◌ (pos 0) r ∷ fold ◌+ℤ◌ (pos 0) s ∷ [])
    (λ a b c d. by_four (λ q. sums_of_pairs (sums_of_pairs ((a ∷ b ∷ c ∷ d ∷ []) ++ q) ++ sums_of_pairs (r ++ s)) ≡
    fold ◌+ℤ◌ (pos 0) (a ∷ b ∷ c ∷ d ∷ []) ∷ fold ◌+ℤ◌ (pos 0) q ∷ fold ◌+ℤ◌ (pos 0) r ∷ fold ◌+ℤ◌ (pos 0) s ∷ [])
    (λ e f g h. by_four (λ r. sums_of_pairs (sums_of_pairs ((a ∷ b ∷ c ∷ d ∷ []) ++ (e ∷ f ∷ g ∷ h ∷ [])) ++ sums_of_pairs (r ++ s)) ≡
    fold ◌+ℤ◌ (pos 0) (a ∷ b ∷ c ∷ d ∷ []) ∷ fold ◌+ℤ◌ (pos 0) (e ∷ f ∷ g ∷ h ∷ []) ∷ fold ◌+ℤ◌ (pos 0) r ∷ fold ◌+ℤ◌ (pos 0) s ∷ [])
    (λ i j k l. by_four (λ s. sums_of_pairs (sums_of_pairs ((a ∷ b ∷ c ∷ d ∷ []) ++ (e ∷ f ∷ g ∷ h ∷ [])) ++ sums_of_pairs ((i ∷ j ∷ k ∷ l ∷ []) ++ s)) ≡
    fold ◌+ℤ◌ (pos 0) (a ∷ b ∷ c ∷ d ∷ []) ∷ fold ◌+ℤ◌ (pos 0) (e ∷ f ∷ g ∷ h ∷ []) ∷ fold ◌+ℤ◌ (pos 0) (i ∷ j ∷ k ∷ l ∷ []) ∷ fold ◌+ℤ◌ (pos 0) s ∷ [])
    (λ m n o t. four_same _ _ _ _ _ _ _ _ (flat a b c d) (flat e f g h) (flat i j k l) (flat m n o t)) s ls) r lr) q lq) p lp
  where
    flat : (a b c d : ℤ) → (a +ℤ b) +ℤ (c +ℤ d) ≡ fold ◌+ℤ◌ (pos 0) (a ∷ b ∷ c ∷ d ∷ [])
    flat a b c d = omega (arith, ints)

-- a fact of each of four lanes
pub four_lanes : (P : ℕ → ℤ → Type 0) (x y z w : ℤ) → P 0 x → P 1 y → P 2 z → P 3 w → (k : ℕ) → k < 4 → P k (get_or (x ∷ y ∷ z ∷ w ∷ []) k (pos 0))
four_lanes P x y z w a b c d zero l = a
four_lanes P x y z w a b c d (suc zero) l = b
four_lanes P x y z w a b c d (suc (suc zero)) l = c
four_lanes P x y z w a b c d (suc (suc (suc zero))) l = d
four_lanes P x y z w a b c d (suc (suc (suc (suc k)))) l = absurd (omega arith)

-- and of each of eight, by those of the first four and of the others
eight_each : (P : ℕ → ℤ → Type 0) (ys : List ℤ) (a b c d : ℤ) → ((k : ℕ) → k < 4 → P k (get_or (a ∷ b ∷ c ∷ d ∷ []) k (pos 0))) →
    ((k : ℕ) → k < 4 → P (4 + k) (get_or ys k (pos 0))) → (k : ℕ) → k < 8 → P k (get_or (a ∷ b ∷ c ∷ d ∷ ys) k (pos 0))
eight_each P ys a b c d p q zero l = p 0 (omega arith)
eight_each P ys a b c d p q (suc zero) l = p 1 (omega arith)
eight_each P ys a b c d p q (suc (suc zero)) l = p 2 (omega arith)
eight_each P ys a b c d p q (suc (suc (suc zero))) l = p 3 (omega arith)
eight_each P ys a b c d p q (suc (suc (suc (suc k)))) l =
    let place : 4 + k ≡ suc (suc (suc (suc k))) = omega arith in
    subst (λ j. P j (get_or ys k (pos 0))) place (q k (omega arith))

pub eight_lanes : (P : ℕ → ℤ → Type 0) (xs ys : List ℤ) → length xs ≡ 4 → ((k : ℕ) → k < 4 → P k (get_or xs k (pos 0))) →
    ((k : ℕ) → k < 4 → P (4 + k) (get_or ys k (pos 0))) → (k : ℕ) → k < 8 → P k (get_or (xs ++ ys) k (pos 0))
eight_lanes P xs ys l =
    by_four (λ xs. ((k : ℕ) → k < 4 → P k (get_or xs k (pos 0))) → ((k : ℕ) → k < 4 → P (4 + k) (get_or ys k (pos 0))) → (k : ℕ) → k < 8 →
    P k (get_or (xs ++ ys) k (pos 0))) (λ a b c d. eight_each P ys a b c d) xs l

-- a correlation of words is a plain sum
pub plain_correlation : (wt earlier : List ℤ) (lag : ℕ) → length wt ≡ 40 → length earlier ≡ 120 → lag ≤ 120 → AreScaled wt → AreSigned16 earlier →
    correlation_of wt earlier lag ≡ sum_of_products wt earlier lag
unfolding correlation_of
plain_correlation wt earlier lag l m b scaled words = λ i.
    fold ◌+ℤ◌ (pos 0) (map (λ k. sym (doubled_term wt earlier lag k l m b scaled (λ h. word (entry earlier (120 - lag + k)) (words (120 - lag + k)))) i)
    (range_with_len 0 40))
  where
    word : (x : ℤ) → FitsSigned w16 x → Within 32768 x
    word x f = omega (arith, ints)

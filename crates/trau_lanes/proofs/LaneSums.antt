-- For crates above: the lanes of a saturating sum are the sums of their lanes (`sums_given`); the lesser of two lanes
-- (`less`).
-- Saturating sums and differences of eight words in lanes.
use Rattle.std.proofs.Common.{◌≡◌, ℕ, ◌+◌, ◌-◌, ◌%◌, ◌^◌, ◌<◌, ℤ, ◌+ℤ◌, ◌-ℤ◌, FitsSigned, w16, w32, to_z, of_z, map, List, replicate, ap, sym, subst, ◌∙◌}
use Rattle.std.proofs.Common.{arith, cond, lit<}
use Rattle.std.proofs.lemmas.Int.{ints, to_z-of_z, wrapping_add_is, wrapping_sub_is, int_wrap_fits, of_z-to_z}
use Rattle.std.proofs.lemmas.Nat.{mod_below}
use Rattle.std.specs.Simd.Lanes.{zip2, Each1}
use lib.Lanes.{sel_l, top}
use lib.Signed.{lt_z}
use Rattle.trau_num.specs.Num.{clamp16, add_of, sub_of}
use Rattle.trau_lanes.specs.Lanes.{EightWords}
use Rattle.trau_lanes.proofs.Eight.{by_pairs, eight_same, words_kept, eight_zipped}
use Rattle.trau_num.proofs.Clamped.{add_word, sub_word}

-- a word in a lane of 32 bits, and a lane of 32 bits that becomes one of 16
abbrev pub widened : ℕ → ℕ
widened n = of_z w32 (to_z w16 n)

-- a long's lane made a word's
abbrev pub narrowed : ℕ → ℕ
narrowed n = of_z w16 (to_z w32 n)

-- the lesser and the greater, as a comparison and a choice make them
abbrev pub less : ℕ → ℕ → ℕ
less a b = cond (lt_z (to_z w32 a) (to_z w32 b)) (2 ^ 32 - 1) 0

-- a lane clamped to a word
abbrev pub clamp_lane : ℕ → ℕ
clamp_lane x =
    let low = cond (top 31 (less x 4294934528)) 4294934528 x in
    cond (top 31 (less low 32767)) low 32767

pub clamp_is : (z : ℤ) → FitsSigned w32 z → to_z w32 (clamp_lane (of_z w32 z)) ≡ clamp16 z
clamp_is z f = grind (arith, ints)

-- a sum and a difference in a wide lane
sum_lane : (x y : ℤ) → FitsSigned w16 x → FitsSigned w16 y → to_z w32 ((widened (of_z w16 x) + widened (of_z w16 y)) % 2 ^ 32) ≡ x +ℤ y
sum_lane x y f g =
    let wx : FitsSigned w32 x = omega (arith, ints) in
    let wy : FitsSigned w32 y = omega (arith, ints) in
    let s : FitsSigned w32 (x +ℤ y) = omega (arith, ints) in
    ap (λ a. to_z w32 ((of_z w32 a + widened (of_z w16 y)) % 2 ^ 32)) (to_z-of_z w16 x f) ∙
    ap (λ b. to_z w32 ((of_z w32 x + of_z w32 b) % 2 ^ 32)) (to_z-of_z w16 y g) ∙
    wrapping_add_is w32 x y wx wy ∙ int_wrap_fits w32 (x +ℤ y) s

difference_lane : (x y : ℤ) → FitsSigned w16 x → FitsSigned w16 y → to_z w32 ((widened (of_z w16 x) + (2 ^ 32 - widened (of_z w16 y))) % 2 ^ 32) ≡ x -ℤ y
difference_lane x y f g =
    let wx : FitsSigned w32 x = omega (arith, ints) in
    let wy : FitsSigned w32 y = omega (arith, ints) in
    let s : FitsSigned w32 (x -ℤ y) = omega (arith, ints) in
    ap (λ a. to_z w32 ((of_z w32 a + (2 ^ 32 - widened (of_z w16 y))) % 2 ^ 32)) (to_z-of_z w16 x f) ∙
    ap (λ b. to_z w32 ((of_z w32 x + (2 ^ 32 - of_z w32 b)) % 2 ^ 32)) (to_z-of_z w16 y g) ∙
    wrapping_sub_is w32 x y wx wy ∙ int_wrap_fits w32 (x -ℤ y) s

-- a lane that was clamped, from what its bits stand for
lane_clamped : (n : ℕ) (z : ℤ) → n < 2 ^ 32 → FitsSigned w32 z → to_z w32 n ≡ z → to_z w32 (clamp_lane n) ≡ clamp16 z
lane_clamped n z l f e = ap (λ b. to_z w32 (clamp_lane b)) (sym (of_z-to_z w32 n l) ∙ ap (of_z w32) e) ∙ clamp_is z f

-- clamped they are the saturating ones
pub added_lane : (x y : ℤ) → FitsSigned w16 x → FitsSigned w16 y → to_z w32 (clamp_lane ((widened (of_z w16 x) + widened (of_z w16 y)) % 2 ^ 32)) ≡ add_of x y
unfolding add_of
added_lane x y f g =
    lane_clamped _ (x +ℤ y) (mod_below (widened (of_z w16 x) + widened (of_z w16 y)) (2 ^ 32) (lit< tt)) (omega (arith, ints)) (sum_lane x y f g)

pub subtracted_lane : (x y : ℤ) → FitsSigned w16 x → FitsSigned w16 y →
    to_z w32 (clamp_lane ((widened (of_z w16 x) + (2 ^ 32 - widened (of_z w16 y))) % 2 ^ 32)) ≡ sub_of x y
unfolding sub_of
subtracted_lane x y f g =
    lane_clamped _ (x -ℤ y) (mod_below (widened (of_z w16 x) + (2 ^ 32 - widened (of_z w16 y))) (2 ^ 32) (lit< tt)) (omega (arith, ints))
    (difference_lane x y f g)

-- ---- eight lanes

-- the lower one of two lists of lanes, and both of them wide
abbrev lower : List ℕ → List ℕ
lower ns = sel_l (map (top 31) (zip2 less ns (replicate 8 4294934528))) (replicate 8 4294934528) ns

-- clamped to words, by two comparisons and two choices
abbrev pub clamped : List ℕ → List ℕ
clamped ns = sel_l (map (top 31) (zip2 less (lower ns) (replicate 8 32767))) (lower ns) (replicate 8 32767)

abbrev pub widened_all : List ℤ → List ℕ
widened_all xs = map widened (map (of_z w16) xs)

-- an operation f on the bits of two lanes that, clamped, is g on words
abbrev IsLane : (ℕ → ℕ → ℕ) → (ℤ → ℤ → ℤ) → ℤ → ℤ → Type 0
IsLane f g x y = to_z w32 (clamp_lane (f (widened (of_z w16 x)) (widened (of_z w16 y)))) ≡ g x y

-- of any such operation in lanes: each clamped lane is a word
pub clamped_fits : (f : ℕ → ℕ → ℕ) (g : ℤ → ℤ → ℤ) → ((x y : ℤ) → FitsSigned w16 x → FitsSigned w16 y → IsLane f g x y) → ((x y : ℤ) → FitsSigned w16 (g x y)) →
    (xs ys : List ℤ) → EightWords xs → EightWords ys → Each1 (λ n. FitsSigned w16 (to_z w32 n)) (clamped (zip2 f (widened_all xs) (widened_all ys)))
clamped_fits f g h w xs ys p q =
    by_pairs (FitsSigned w16) (FitsSigned w16) (λ x y. FitsSigned w16 (to_z w32 (clamp_lane (f (widened (of_z w16 x)) (widened (of_z w16 y))))))
    (λ xs ys. Each1 (λ n. FitsSigned w16 (to_z w32 n)) (clamped (zip2 f (widened_all xs) (widened_all ys))))
    (λ x y a b. subst (FitsSigned w16) (sym (h x y a b)) (w x y))
    (λ a b c d e f g h a' b' c' d' e' f' g' h' r s t u v w x y. (r, (s, (t, (u, (v, (w, (x, (y, tt)))))))))
    xs ys p.eight q.eight p.words q.words

-- and they are the operation of the words
pub clamped_are : (f : ℕ → ℕ → ℕ) (g : ℤ → ℤ → ℤ) → ((x y : ℤ) → FitsSigned w16 x → FitsSigned w16 y → IsLane f g x y) → ((x y : ℤ) → FitsSigned w16 (g x y)) →
    (xs ys : List ℤ) → EightWords xs → EightWords ys → map (to_z w16) (map narrowed (clamped (zip2 f (widened_all xs) (widened_all ys)))) ≡ zip2 g xs ys
clamped_are f g h w xs ys p q =
    by_pairs (FitsSigned w16) (FitsSigned w16) (λ x y. to_z w16 (narrowed (clamp_lane (f (widened (of_z w16 x)) (widened (of_z w16 y))))) ≡ g x y)
    (λ xs ys. map (to_z w16) (map narrowed (clamped (zip2 f (widened_all xs) (widened_all ys)))) ≡ zip2 g xs ys)
    (λ x y a b. ap (λ z. to_z w16 (of_z w16 z)) (h x y a b) ∙ to_z-of_z w16 (g x y) (w x y))
    (λ a b c d e f g h a' b' c' d' e' f' g' h' r s t u v w x y. eight_same r s t u v w x y)
    xs ys p.eight q.eight p.words q.words

-- what a function gives: its arguments are passed as their bits
pub sums_given : (xs ys r : List ℤ) → EightWords xs → EightWords ys →
    r ≡ zip2 add_of (map (to_z w16) (map (of_z w16) xs)) (map (to_z w16) (map (of_z w16) ys)) → (r ≡ zip2 add_of xs ys) × EightWords r
sums_given xs ys r p q e =
    let is : r ≡ zip2 add_of xs ys = e ∙ (λ i. zip2 add_of (words_kept xs p i) (words_kept ys q i)) in
    (is, subst EightWords (sym is) (eight_zipped add_of add_word xs ys p.eight q.eight))

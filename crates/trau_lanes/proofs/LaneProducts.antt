-- For crates above: the lanes of a rounded product are the products of their lanes (`products_given`).
-- Rounded products of eight factors with eight words in lanes: the high half of the doubled factor's product, one word
-- for what doubling wraps off, and the highest bit of the low half.
use Rattle.std.proofs.Common.{◌≡◌, ℕ, ◌+◌, ◌*◌, ◌/◌, ◌%◌, ◌^◌, ◌≤◌, ℤ, pos, ◌+ℤ◌, ◌*ℤ◌, unsigned_abs, FitsSigned, w16, w32, to_z, of_z, map, List, length}
use Rattle.std.proofs.Common.{replicate, ap, sym, subst, ◌∙◌, arith, lit<, bit_and}
use Rattle.std.proofs.lemmas.Int.{SFits-int_wrap, int_wrap-add_left, int_wrap-add_right, ints, of_z-to_z, wrapping_mul_is, wrapping_add_is, int_wrap_fits}
use Rattle.std.proofs.lemmas.Nat.{mod_below}
use Rattle.std.specs.Simd.Lanes.{zip2, Each1}
use Rattle.std.specs.Int.{int_shr, int_wrap}
use lib.Signed.{shr_z}
use Rattle.trau_num.specs.Num.{mult_r_of}
use Rattle.trau_lanes.specs.Lanes.{EightWords, EightFactors}
use Rattle.trau_lanes.proofs.Eight.{by_pairs, eight_same, eight_zipped, words_kept, factors_words}
use Rattle.trau_lanes.proofs.LaneSums.{widened, narrowed, widened_all}
use Rattle.trau_lanes.proofs.Remainders.{remainder_of, low_below}
use Rattle.trau_lanes.proofs.Doubled.{twice_bits, over_bits, over_of, twice_of, is_twice, twice_is, over_is}
use Rattle.trau_lanes.proofs.Halves.{high_bits, low_half, carry_bits, small_product, high_small, high_is, low_is, carry_is}
use Rattle.trau_lanes.proofs.Rounded.{rounded, clamp_none, word_shifted, mult_r_word}

-- ---- one lane

-- one lane of the rounded product
abbrev pub sum_bits : ℕ → ℕ → ℕ
sum_bits a b = ((narrowed (high_bits (twice_bits a) b) + (over_bits a * b) % 2 ^ 16) % 2 ^ 16 + carry_bits (low_half (twice_bits a) b)) % 2 ^ 16

-- it is the rounded product, and its high half is a word
pub record IsProduct (r v : ℤ) : Type 0 where
  pub high : FitsSigned w16 (to_z w32 (high_bits (twice_bits (of_z w16 r)) (of_z w16 v)))
  pub sum : to_z w16 (sum_bits (of_z w16 r) (of_z w16 v)) ≡ mult_r_of r v

pub is_product : (r v : ℤ) → unsigned_abs r ≤ 32767 → FitsSigned w16 v → IsProduct r v
unfolding mult_r_of
is_product r v b f =
    let fr : FitsSigned w16 r = omega (arith, ints) in
    let twice = is_twice r b in
    let o : ℤ = over_of r in
    let t : ℤ = twice_of r in
    let ft : FitsSigned w16 t = twice.fits in
    let q : ℤ = o *ℤ v in
    let h : ℤ = shr_z (t *ℤ v) 65536 in
    let k : ℕ = remainder_of (t *ℤ v) / 32768 in
    let lo = twice.low in
    let hi = twice.high in
    let fo : FitsSigned w16 o = omega (arith, ints, lo, hi) in
    let tb : unsigned_abs t ≤ 32768 = omega (arith, ints, ft) in
    let bounds = high_small (t *ℤ v) (small_product t v 32768 tb f) in
    let l = bounds.0 in
    let u = bounds.1 in
    let hw : FitsSigned w16 h = omega (arith, ints, l, u) in
    let below = low_below (t *ℤ v) in
    let kw : FitsSigned w16 (pos k) = omega (arith, ints, below) in
    let ts = twice_is r b fr in
    let high : to_z w32 (high_bits (twice_bits (of_z w16 r)) (of_z w16 v)) ≡ h = ap (λ n. to_z w32 (high_bits n (of_z w16 v))) ts ∙ high_is t v ft f in
    let carry : carry_bits (low_half (twice_bits (of_z w16 r)) (of_z w16 v)) ≡ k =
    ap (λ n. carry_bits (low_half n (of_z w16 v))) ts ∙ ap carry_bits (low_is t v ft f) ∙ carry_is (remainder_of (t *ℤ v)) below in
    let wrapped : FitsSigned w16 (int_wrap w16 q) = SFits-int_wrap w16 q in
    let over : (over_bits (of_z w16 r) * of_z w16 v) % 2 ^ 16 ≡ of_z w16 (int_wrap w16 q) =
    ap (λ n. (n * of_z w16 v) % 2 ^ 16) (over_is r b fr) ∙
    sym (of_z-to_z w16 ((of_z w16 o * of_z w16 v) % 2 ^ 16) (mod_below (of_z w16 o * of_z w16 v) (2 ^ 16) (lit< tt))) ∙
    ap (of_z w16) (wrapping_mul_is w16 o v fo f) in
    let first : (narrowed (high_bits (twice_bits (of_z w16 r)) (of_z w16 v)) + (over_bits (of_z w16 r) * of_z w16 v) % 2 ^ 16) % 2 ^ 16 ≡
    of_z w16 (int_wrap w16 (h +ℤ q)) =
    ap (λ z. (of_z w16 z + (over_bits (of_z w16 r) * of_z w16 v) % 2 ^ 16) % 2 ^ 16) high ∙ ap (λ n. (of_z w16 h + n) % 2 ^ 16) over ∙
    sym (of_z-to_z w16 ((of_z w16 h + of_z w16 (int_wrap w16 q)) % 2 ^ 16) (mod_below (of_z w16 h + of_z w16 (int_wrap w16 q)) (2 ^ 16) (lit< tt))) ∙
    ap (of_z w16) (wrapping_add_is w16 h (int_wrap w16 q) hw wrapped ∙ int_wrap-add_right w16 h q) in
    let s : ℤ = int_shr (r *ℤ v +ℤ pos 16384) 15 in
    let word : FitsSigned w16 s = word_shifted (r *ℤ v) (small_product r v 32767 b f) in
    record {
      high = subst (FitsSigned w16) (sym high) hw;
      sum = ap (λ n. to_z w16 ((n + carry_bits (low_half (twice_bits (of_z w16 r)) (of_z w16 v))) % 2 ^ 16)) first ∙
          ap (λ n. to_z w16 ((of_z w16 (int_wrap w16 (h +ℤ q)) + n) % 2 ^ 16)) carry ∙
          wrapping_add_is w16 (int_wrap w16 (h +ℤ q)) (pos k) (SFits-int_wrap w16 (h +ℤ q)) kw ∙ int_wrap-add_left w16 (h +ℤ q) (pos k) ∙
          ap (int_wrap w16) (rounded r v o lo hi) ∙ int_wrap_fits w16 s word ∙ sym (clamp_none s word);
    }

-- ---- eight lanes

-- the same in all eight lanes, step by step
abbrev shifted_all : List ℕ → ℕ → List ℕ
shifted_all ns s = zip2 (λ a s. of_z w16 (shr_z (to_z w16 a) (2 ^ s))) ns (replicate 8 s)

abbrev added_all : List ℕ → List ℕ → List ℕ
added_all ns ms = zip2 (λ a b. (a + b) % 2 ^ 16) ns ms

abbrev times_all : List ℕ → List ℕ → List ℕ
times_all ns ms = zip2 (λ a b. (a * b) % 2 ^ 16) ns ms

abbrev twice_all : List ℤ → List ℕ
twice_all rs = added_all (map (of_z w16) rs) (map (of_z w16) rs)

abbrev over_all : List ℤ → List ℕ
over_all rs = shifted_all (added_all (shifted_all (map (of_z w16) rs) 14) (replicate 8 1)) 1

abbrev pub high_all : List ℤ → List ℤ → List ℕ
high_all rs vs = zip2 (λ a s. of_z w32 (shr_z (to_z w32 a) (2 ^ s))) (zip2 (λ a b. (a * b) % 2 ^ 32) (map widened (twice_all rs)) (widened_all vs))
    (replicate 8 16)

abbrev carry_all : List ℤ → List ℤ → List ℕ
carry_all rs vs = zip2 bit_and (shifted_all (times_all (twice_all rs) (map (of_z w16) vs)) 15) (replicate 8 1)

abbrev pub sum_all : List ℤ → List ℤ → List ℤ
sum_all rs vs = map (to_z w16) (added_all (added_all (map narrowed (high_all rs vs)) (times_all (over_all rs) (map (of_z w16) vs))) (carry_all rs vs))

-- all eight are rounded products
pub record AreProducts (rs vs : List ℤ) : Type 0 where
  pub high : Each1 (λ n. FitsSigned w16 (to_z w32 n)) (high_all rs vs)
  pub sums : sum_all rs vs ≡ zip2 mult_r_of rs vs

pub are_products : (rs vs : List ℤ) → EightFactors rs → EightWords vs → AreProducts rs vs
are_products rs vs p q =
    by_pairs (λ r. unsigned_abs r ≤ 32767) (FitsSigned w16) IsProduct AreProducts is_product
    (λ a b c d e f g h a' b' c' d' e' f' g' h' r s t u v w x y. record {
      high = (r.high, (s.high, (t.high, (u.high, (v.high, (w.high, (x.high, (y.high, tt))))))));
      sums = eight_same r.sum s.sum t.sum u.sum v.sum w.sum x.sum y.sum;
    })
    rs vs p.eight q.eight p.factors q.words

-- rounded products are words
pub products_words : (rs vs : List ℤ) → length rs ≡ 8 → length vs ≡ 8 → EightWords (zip2 mult_r_of rs vs)
products_words rs vs l m = eight_zipped mult_r_of mult_r_word rs vs l m

-- what a function gives: its arguments are passed as their bits
pub products_given : (rs vs r : List ℤ) → EightFactors rs → EightWords vs →
    r ≡ zip2 mult_r_of (map (to_z w16) (map (of_z w16) rs)) (map (to_z w16) (map (of_z w16) vs)) → (r ≡ zip2 mult_r_of rs vs) × EightWords r
products_given rs vs r p q e =
    let is : r ≡ zip2 mult_r_of rs vs = e ∙ (λ i. zip2 mult_r_of (words_kept rs (factors_words rs p) i) (words_kept vs q i)) in
    (is, subst EightWords (sym is) (products_words rs vs p.eight q.eight))

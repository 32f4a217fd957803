-- Sums of products within 32 bits, and that no autocorrelation is above the first.
use Rattle.std.proofs.Common.{◌≡◌, ℕ, zero, suc, ℤ, ◌+◌, ◌-◌, ◌*◌, ◌≤◌, pos, ◌+ℤ◌, ◌*ℤ◌, ◌≤ℤ◌, unsigned_abs, length, List, [], ◌∷◌, map, fold, refl, sym, ap}
use Rattle.std.proofs.Common.{subst, ◌∙◌, arith, inl, inr, mul-le-mul}
use Rattle.std.specs.List.{range_with_len}
use Rattle.std.proofs.lemmas.Bool.{cases_lt}
use Rattle.std.proofs.lemmas.Int.{ints, unsigned_abs-mul}
use Rattle.std.proofs.lemmas.List.{get_or_past}
use Rattle.std.proofs.lemmas.List.FromFn.{map-range_with_len_more}
use Rattle.std.proofs.lemmas.List.Sums.{fold-append}
use Rattle.trau_num.specs.Num.{clamp32, l_mult_of, entry}
use Rattle.fr_lpc.specs.Scaling.{AreWithin}
use Rattle.fr_lpc.specs.Autocorrelation.{autocorrelation_of, plain_autocorrelation}
use Rattle.trau_lanes.proofs.LaneDots.{doubled_sum}

-- twice a small product isn't clamped
pub unclamped : (a b z : ℤ) → z ≡ a *ℤ b → unsigned_abs z ≤ 4194304 → l_mult_of a b ≡ z *ℤ pos 2
unfolding l_mult_of
unclamped a b z e h =
    let small : (y : ℤ) → unsigned_abs y ≤ 4194304 → clamp32 (y *ℤ pos 2) ≡ y *ℤ pos 2 = λ y l. grind (arith, ints) in
    rw (← e) (small z h)

-- the magnitude of a small product
pub small_product : (a b : ℤ) → unsigned_abs a ≤ 2048 → unsigned_abs b ≤ 2048 → unsigned_abs (a *ℤ b) ≤ 4194304
small_product a b g h = rw unsigned_abs-mul (omega (arith, mul-le-mul g h))

-- one term more of a sum
pub sum_more : (f : ℕ → ℤ) (a n : ℕ) → fold ◌+ℤ◌ (pos 0) (map f (range_with_len a (n + 1))) ≡ fold ◌+ℤ◌ (pos 0) (map f (range_with_len a n)) +ℤ f (a + n)
sum_more f a n = ap (fold ◌+ℤ◌ (pos 0)) (map-range_with_len_more f a n (a + n) refl) ∙ fold-append ◌+ℤ◌ (pos 0) (map f (range_with_len a n)) (f (a + n) ∷ [])

-- the square of a sample, and the sum of several
square : ℤ → ℕ
square x = unsigned_abs x * unsigned_abs x

-- the sum of the first n squares
energy : List ℤ → ℕ → ℕ
energy s zero = 0
energy s (suc n) = energy s n + square (entry s n)

energy_more : (s : List ℤ) (n : ℕ) → energy s (n + 1) ≡ energy s n + square (entry s n)
unfolding energy
energy_more s n = let e : n + 1 ≡ suc n = omega arith in ap (energy s) e

energy_le : (s : List ℤ) (m n : ℕ) → energy s m ≤ energy s (m + n)
energy_le s m zero = let e : m + 0 ≡ m = omega arith in rw e (omega arith)
energy_le s m (suc n) =
    let e : m + suc n ≡ m + n + 1 = omega arith in
    rw e (omega (arith, energy_le s m n, energy_more s (m + n)))

-- twice a product is at most the sum of the squares
ordered : (a d : ℕ) → 2 * (a * (a + d)) ≤ a * a + (a + d) * (a + d)
ordered a d = omega arith

-- twice the product of two numbers is not above the sum of their squares
means : (a b : ℕ) → 2 * (a * b) ≤ a * a + b * b
means a b =
    elim (cases_lt a b) [
      | inl l ↦ let e : b ≡ a + (b - a) = omega arith in rw e (ordered a (b - a))
      | inr g ↦ let e : a ≡ b + (a - b) = omega arith in rw e (omega (arith, ordered b (a - b)))
    ]

-- one product of an autocorrelation
abbrev pub term : List ℤ → ℕ → ℕ → ℤ
term s k i = l_mult_of (entry s i) (entry s (i - k))

-- the first n products at lag k
abbrev pub partial : List ℤ → ℕ → ℕ → ℤ
partial s k n = fold ◌+ℤ◌ (pos 0) (map (term s k) (range_with_len k n))

-- a product is not above the sum of two squares
term_bound : (a b : ℤ) → unsigned_abs a ≤ 2048 → unsigned_abs b ≤ 2048 → unsigned_abs (l_mult_of a b) ≤ square a + square b
unfolding square
term_bound a b g h =
    let e : l_mult_of a b ≡ (a *ℤ b) *ℤ pos 2 = unclamped a b (a *ℤ b) refl (small_product a b g h) in
    let size : unsigned_abs (l_mult_of a b) ≡ unsigned_abs a * unsigned_abs b * 2 =
    ap unsigned_abs e ∙ unsigned_abs-mul (a *ℤ b) (pos 2) ∙ ap (λ m. m * 2) (unsigned_abs-mul a b) in
    omega (arith, size, means (unsigned_abs a) (unsigned_abs b))

-- a product with itself
own_square : (a : ℤ) → a *ℤ a ≡ pos (square a)
unfolding square
own_square a = grind (arith, ints)

own_term : (a : ℤ) → unsigned_abs a ≤ 2048 → l_mult_of a a ≡ pos (square a * 2)
own_term a h =
    unclamped a a (a *ℤ a) refl (small_product a a h h) ∙ ap (λ z. z *ℤ pos 2) (own_square a)

-- beyond a list's end there are zeros
within_all : (s : List ℤ) → AreWithin 2048 s → (i : ℕ) → unsigned_abs (entry s i) ≤ 2048
within_all s h i =
    elim (cases_lt i (length s)) [
      | inl l ↦ h i l
      | inr g ↦ subst (λ x. unsigned_abs x ≤ 2048) (sym (get_or_past s i (pos 0) g)) (omega arith)
    ]

-- the sum at lag 0 is twice the energy
own_sum : (s : List ℤ) → AreWithin 2048 s → (n : ℕ) → partial s 0 n ≡ pos (energy s n * 2)
unfolding energy
own_sum s h zero = refl
own_sum s h (suc n) =
    let e : suc n ≡ n + 1 = omega arith in
    let place : 0 + n ≡ n = omega arith in
    let same : n - 0 ≡ n = omega arith in
    let more : partial s 0 (n + 1) ≡ partial s 0 n +ℤ term s 0 n =
    sum_more (term s 0) 0 n ∙ ap (λ m. partial s 0 n +ℤ term s 0 m) place in
    let last : term s 0 n ≡ pos (square (entry s n) * 2) =
    ap (λ i. l_mult_of (entry s n) (entry s i)) same ∙ own_term (entry s n) (within_all s h n) in
    ap (partial s 0) e ∙ (omega (arith, ints, more, last, own_sum s h n))

-- the sum at lag k is not above the energies of the two stretches that it joins
joined_sum : (s : List ℤ) → AreWithin 2048 s → (k n : ℕ) → unsigned_abs (partial s k n) + energy s k ≤ energy s (k + n) + energy s n
unfolding energy
joined_sum s h k zero = let e : k + 0 ≡ k = omega arith in rw e (omega arith)
joined_sum s h k (suc n) =
    let e : suc n ≡ n + 1 = omega arith in
    let place : k + n - k ≡ n = omega arith in
    let more : partial s k (n + 1) ≡ partial s k n +ℤ term s k (k + n) = sum_more (term s k) k n in
    let last = term_bound (entry s (k + n)) (entry s (k + n - k)) (within_all s h (k + n)) (within_all s h (k + n - k)) in
    let last' : unsigned_abs (term s k (k + n)) ≤ square (entry s (k + n)) + square (entry s n) =
    subst (λ i. unsigned_abs (term s k (k + n)) ≤ square (entry s (k + n)) + square (entry s i)) place last in
    let end : energy s (k + (n + 1)) ≡ energy s (k + n) + square (entry s (k + n)) =
    (let f : k + (n + 1) ≡ k + n + 1 = omega arith in ap (energy s) f ∙ energy_more s (k + n)) in
    rw e (omega (arith, ints, ap (partial s k) e, more, last', end, ap (energy s) e, energy_more s n, joined_sum s h k n))

-- no autocorrelation is above the first
pub greatest_first : (s : List ℤ) → AreWithin 2048 s → (k : ℕ) → k ≤ 160 → pos (unsigned_abs (autocorrelation_of s k)) ≤ℤ autocorrelation_of s 0
unfolding autocorrelation_of
greatest_first s h k l =
    let own : autocorrelation_of s 0 ≡ pos (energy s 160 * 2) = own_sum s h 160 in
    let whole : k + (160 - k) ≡ 160 = omega arith in
    let front : 160 - k + k ≡ 160 = omega arith in
    let joined : unsigned_abs (autocorrelation_of s k) + energy s k ≤ energy s (k + (160 - k)) + energy s (160 - k) = joined_sum s h k (160 - k) in
    let whole' : energy s (k + (160 - k)) ≡ energy s 160 = ap (energy s) whole in
    let part : energy s (160 - k) ≤ energy s (160 - k + k) = energy_le s (160 - k) k in
    let front' : energy s (160 - k + k) ≡ energy s 160 = ap (energy s) front in
    omega (arith, ints)

-- half of it, as eight lanes sum it
abbrev pub plain_sum : List ℤ → ℕ → ℤ
plain_sum s k = fold ◌+ℤ◌ (pos 0) (map (λ i. entry s i *ℤ entry s (i - k)) (range_with_len k (160 - k)))

-- an autocorrelation is twice the plain sum
pub plain_doubled : (s : List ℤ) → AreWithin 2048 s → (k : ℕ) → autocorrelation_of s k ≡ plain_sum s k *ℤ pos 2
unfolding autocorrelation_of
plain_doubled s h k =
    sym (doubled_sum (λ i. entry s i *ℤ entry s (i - k)) (λ i. l_mult_of (entry s i) (entry s (i - k)))
    (λ i. sym (unclamped (entry s i) (entry s (i - k)) (entry s i *ℤ entry s (i - k)) refl
    (small_product (entry s i) (entry s (i - k)) (within_all s h i) (within_all s h (i - k)))))
    (range_with_len k (160 - k)) (pos 0) (pos 0) refl)

-- which is the sum of the doubled products
pub plainly : (s : List ℤ) → AreWithin 2048 s → (k : ℕ) → autocorrelation_of s k ≡ plain_autocorrelation s k
unfolding autocorrelation_of
plainly s h k = λ j.
    fold ◌+ℤ◌ (pos 0)
    (map (λ i. unclamped (entry s i) (entry s (i - k)) (entry s i *ℤ entry s (i - k)) refl
    (small_product (entry s i) (entry s (i - k)) (within_all s h i) (within_all s h (i - k))) j) (range_with_len k (160 - k)))

-- For crates above: a word that is shifted right is a word (`shifted_fits`), and is unchanged by saturation
-- (`word_stays`).
-- What fits a word: products of two words of 32 bits that keep bounds, with their value and a bound of their own, and
-- shifts.
use Rattle.std.proofs.Common.{mul-le-mul, ◌≡◌, ◌*◌, ◌≤◌, ◌<◌, ◌^◌, ◌*ℤ◌, ℕ, ℤ, unsigned_abs, ◌+ℤ◌, ◌-ℤ◌, ◌≤ℤ◌, pos, negsuc, neg_ℤ, ◌∙◌, FitsSigned, w16, w32}
use Rattle.std.proofs.Common.{arith}
use Rattle.std.proofs.lemmas.Int.{to_z-of_z, fits_signed_mul, ints, unsigned_abs-mul}
use Rattle.std.specs.Int.{Width, int_shr}
use Rattle.std.specs.Int.Signed.{mag, mag_shr}
use Rattle.trau_num.specs.Num.{clamp16, add_of, sub_of}
use mir.Val.{to_z, of_z}

-- a product of two longs whose magnitudes have these bounds is a long, also of the numbers as they are passed
pub product_fits : (a b : ℤ) (m n : ℕ) → FitsSigned w32 a → FitsSigned w32 b → unsigned_abs a ≤ m → unsigned_abs b ≤ n → m * n < 2 ^ 31 →
    FitsSigned w32 (to_z w32 (of_z w32 a) *ℤ to_z w32 (of_z w32 b))
product_fits a b m n fa fb la lb room = simp to_z-of_z (fits_signed_mul w32 a b m n la lb room)

-- and it is passed as it is
pub product_is : (a b : ℤ) (m n : ℕ) → FitsSigned w32 a → FitsSigned w32 b → unsigned_abs a ≤ m → unsigned_abs b ≤ n → m * n < 2 ^ 31 →
    to_z w32 (of_z w32 (to_z w32 (of_z w32 a) *ℤ to_z w32 (of_z w32 b))) ≡ a *ℤ b
product_is a b m n fa fb la lb room =
    let fits = fits_signed_mul w32 a b m n la lb room in
    simp to_z-of_z (λ i. a *ℤ b)

pub product_bound : (a b : ℤ) (m n : ℕ) → unsigned_abs a ≤ m → unsigned_abs b ≤ n → unsigned_abs (a *ℤ b) ≤ m * n
product_bound a b m n la lb = simp unsigned_abs-mul (mul-le-mul la lb)

-- a shift to the right fits where its word does
pub shifted_fits : (w : Width) (z : ℤ) (n : ℕ) → FitsSigned w z → FitsSigned w (int_shr z n)
shifted_fits w z n f = let less : mag (int_shr z n) ≤ mag z = mag_shr z (2 ^ n) in record { sfits = omega (arith, less, f.sfits) }

-- the upper part of a sum of this size is a word
word_of : (z : ℤ) → neg_ℤ (pos 1073692672) ≤ℤ z → z ≤ℤ pos 1073725440 → FitsSigned w16 (int_shr z 15)
word_of (pos n) l h = omega (arith, ints)
word_of (negsuc n) l h = omega (arith, ints)

-- half a place more and a shift by 15 places leave a word of a product of two words, of which one is above the least
pub rounded_fits : (p : ℤ) → unsigned_abs p ≤ 1073709056 → FitsSigned w16 (int_shr (p +ℤ pos 16384) 15)
rounded_fits p b =
    let low : neg_ℤ (pos 1073692672) ≤ℤ (p +ℤ pos 16384) = omega (arith, ints) in
    let high : (p +ℤ pos 16384) ≤ℤ pos 1073725440 = omega (arith, ints) in
    word_of (p +ℤ pos 16384) low high

-- a word isn't clamped
pub word_stays : (z : ℤ) → FitsSigned w16 z → clamp16 z ≡ z
word_stays z f = let low = f.sfits in grind (arith, ints)

-- the sum of a word and a number that is no larger, made in 32 bits and clamped to a word
pub clamped_sum : (a x y z : ℤ) → FitsSigned w16 a → x ≡ to_z w16 (of_z w16 a) → unsigned_abs y ≤ 32768 → FitsSigned w16 z →
    z ≡ clamp16 (to_z w32 (of_z w32 (to_z w32 (of_z w32 x) +ℤ to_z w32 (of_z w32 y)))) → to_z w16 (of_z w16 z) ≡ add_of a y
unfolding add_of
clamped_sum a x y z f from bound g e =
    let same : x ≡ a = from ∙ to_z-of_z w16 a f in
    let exact : to_z w32 (of_z w32 (to_z w32 (of_z w32 a) +ℤ to_z w32 (of_z w32 y))) ≡ a +ℤ y = omega (arith, ints) in
    let clamped = rw (same, exact) at e in
    to_z-of_z w16 z g ∙ clamped

-- and their difference, made in 32 bits and clamped to a word
pub clamped_difference : (a x y z : ℤ) → FitsSigned w16 a → x ≡ to_z w16 (of_z w16 a) → unsigned_abs y ≤ 32768 → FitsSigned w16 z →
    z ≡ clamp16 (to_z w32 (of_z w32 (to_z w32 (of_z w32 x) -ℤ to_z w32 (of_z w32 y)))) → to_z w16 (of_z w16 z) ≡ sub_of a y
unfolding sub_of
clamped_difference a x y z f from bound g e =
    let same : x ≡ a = from ∙ to_z-of_z w16 a f in
    let exact : to_z w32 (of_z w32 (to_z w32 (of_z w32 a) -ℤ to_z w32 (of_z w32 y))) ≡ a -ℤ y = omega (arith, ints) in
    let clamped = rw (same, exact) at e in
    to_z-of_z w16 z g ∙ clamped

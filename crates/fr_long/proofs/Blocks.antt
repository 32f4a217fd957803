-- Folds over the places of a block, and the room that scaling leaves.
use Rattle.std.proofs.Common.{◌≡◌, ℕ, ◌+◌, ◌-◌, ◌*◌, ◌/◌, ◌^◌, ◌<◌, ◌≤◌, ℤ, pos, negsuc, ◌≤ℤ◌, ◌*ℤ◌, unsigned_abs, FitsSigned, w16, w32, fold, map, ⊎_elim}
use Rattle.std.proofs.Common.{to_z, of_z, ◌+ℤ◌, ap, ◌∙◌, arith}
use Rattle.std.specs.List.{range_with_len}
use Rattle.std.proofs.lemmas.Int.{ints, to_z-of_z, unsigned_abs-mul}
use Rattle.std.proofs.lemmas.Nat.{pow-add, pow_pos}
use Rattle.std.proofs.Math.Nat.{pow-le-pow_right, mul-le-mul_right, mul-le-mul_left, div-lt_iff_lt-mul}
use Rattle.std.proofs.lemmas.Bool.{cases_lt}
use Rattle.trau_num.specs.Num.{clamp32, abs_of, floor_shr, l_mult_of}
use Rattle.trau_lanes.proofs.LaneDots.{fold_more}

-- a quotient stays below what its number stays below
quotient : (a b n : ℕ) → a < b * 2 ^ n → a / 2 ^ n < b
quotient a b n h = (div-lt_iff_lt-mul {k = 2 ^ n} {x = a} {y = b} (pow_pos n)).1 h

-- a word whose magnitude stays below 512 * 2^n is shifted to 512 at most
pub shifted_within : (x : ℤ) (p : ℤ) (n : ℕ) → FitsSigned w16 x → abs_of x ≤ℤ p → unsigned_abs p < 512 * 2 ^ n → unsigned_abs (floor_shr x n) ≤ 512
unfolding abs_of
shifted_within (pos a) p n f h r =
    let below : a < 512 * 2 ^ n = omega (arith, ints) in
    let q = quotient a 512 n below in
    omega arith
shifted_within (negsuc a) p n f h r =
    let below : a < 512 * 2 ^ n = omega (arith, ints) in
    let q = quotient a 512 n below in
    omega arith

-- 64 shared out between a factor and what is left for the bound
room : (v p q : ℕ) → 64 ≡ p * q → v * 2 ^ 16 * q < 2 ^ 31 → v < 512 * p
room v p q e h = ⊎_elim (λ l. l) (λ l. let m : 512 * p * q ≤ v * q = mul-le-mul_right q l in absurd (grind arith)) (cases_lt v (512 * p))

-- the shifts that a norm leaves over
pub leaves_room : (v n : ℕ) → v * 2 ^ 16 * 2 ^ n < 2 ^ 31 → v < 512 * 2 ^ (6 - n)
leaves_room v n h = ⊎_elim few many (cases_lt n 6)
  where
    few : n < 6 → v < 512 * 2 ^ (6 - n)
    few l =
        let e : 6 ≡ 6 - n + n = omega arith in
        let split : 2 ^ 6 ≡ 2 ^ (6 - n) * 2 ^ n = ap (λ m. 2 ^ m) e ∙ pow-add 2 (6 - n) n in
        room v (2 ^ (6 - n)) (2 ^ n) split h

    many : 6 ≤ n → v < 512 * 2 ^ (6 - n)
    many l =
        let two : 1 ≤ 2 = omega arith in
        let more : 2 ^ 6 ≤ 2 ^ n = pow-le-pow_right two l in
        let none : 6 - n ≡ 0 = omega arith in
        let grown : v * 2 ^ 16 * 2 ^ 6 ≤ v * 2 ^ 16 * 2 ^ n = mul-le-mul_left (v * 2 ^ 16) more in
        rw none (omega arith)

-- a long word is kept
kept : (z : ℤ) → unsigned_abs z < 2 ^ 31 → z ≡ clamp32 z
kept (pos n) h = ap pos (omega arith)
kept (negsuc n) h = ap negsuc (omega arith)

-- no clamp acts on twice a small product
pub doubled_small : (a b : ℤ) → unsigned_abs a * unsigned_abs b ≤ 16777216 → a *ℤ b *ℤ pos 2 ≡ l_mult_of a b
unfolding l_mult_of
doubled_small a b h =
    let small : unsigned_abs (a *ℤ b) ≤ 16777216 = simp unsigned_abs-mul h in
    kept (a *ℤ b *ℤ pos 2) (omega (arith, ints))

-- what the code computes for a product
pub is_product : (x y a b : ℤ) → FitsSigned w16 a → FitsSigned w16 b → FitsSigned w32 (a *ℤ b) → x ≡ a → y ≡ b →
    to_z w32 (of_z w32 (to_z w32 (of_z w32 x) *ℤ to_z w32 (of_z w32 y))) ≡ a *ℤ b
is_product x y a b fa fb f ea eb =
    let u : to_z w32 (of_z w32 x) ≡ a = omega (arith, ints) in
    let v : to_z w32 (of_z w32 y) ≡ b = omega (arith, ints) in
    rw (u, v) (to_z-of_z w32 _ f)

-- one term more in a sum of halves
pub sum_more : (f : ℕ → ℤ) (k : ℕ) (x s p : ℤ) → x ≡ s +ℤ p → s *ℤ pos 2 ≡ fold ◌+ℤ◌ (pos 0) (map f (range_with_len 0 k)) → p *ℤ pos 2 ≡ f k →
    x *ℤ pos 2 ≡ fold ◌+ℤ◌ (pos 0) (map f (range_with_len 0 (k + 1)))
sum_more f k x s p e es ep = let more = fold_more ◌+ℤ◌ f k in omega (arith, ints)

-- 40 halves, doubled
pub doubled_fits : (half : ℤ) (k : ℕ) → unsigned_abs half ≤ 16777216 * k → k ≤ 40 → FitsSigned w32 (half *ℤ pos 2)
doubled_fits half k h l = omega (arith, ints)

-- a sample shifted down is a word
pub small_word : (z : ℤ) → unsigned_abs z ≤ 4096 → FitsSigned w16 z
small_word z h = omega (arith, ints)

-- the square of a word shifted down by three
pub small_square : (x : ℤ) → FitsSigned w16 x → unsigned_abs (floor_shr x 3) ≤ 4096
small_square (pos a) f = omega (arith, ints)
small_square (negsuc a) f = omega (arith, ints)

-- The high half and the low half of a product in lanes, and the highest bit of the low half.
use Rattle.std.proofs.Common.{◌≡◌, ℕ, ◌-◌, ◌*◌, ◌/◌, ◌%◌, ◌^◌, ◌<◌, ◌≤◌, ℤ, pos, negsuc, neg_ℤ, ◌*ℤ◌, ◌≤ℤ◌, unsigned_abs, FitsSigned, w16, w32, to_z, of_z, ap}
use Rattle.std.proofs.Common.{sym, ◌∙◌, arith, lit<, inl, inr, mul-le-mul, bit_and, suc}
use Rattle.std.proofs.lemmas.Int.{ints, to_z-of_z, of_z-to_z, to_z_pos, wrapping_mul_is, int_wrap_fits, unsigned_abs-mul}
use Rattle.std.proofs.lemmas.Nat.{mod_below, and_mask}
use Rattle.std.proofs.lemmas.Bool.{cases_lt}
use lib.Signed.{shr_z}
use Rattle.trau_lanes.proofs.LaneSums.{widened}
use Rattle.trau_lanes.proofs.Remainders.{remainder_of, low_wrapped, low_below}

-- a product's high half in 32 bits, its low half in 16 and the highest bit of that
abbrev pub high_bits : ℕ → ℕ → ℕ
high_bits a b = of_z w32 (shr_z (to_z w32 ((widened a * widened b) % 2 ^ 32)) (2 ^ 16))

-- the low half
abbrev pub low_half : ℕ → ℕ → ℕ
low_half a b = (a * b) % 2 ^ 16

-- the highest bit of a low half
abbrev pub carry_bits : ℕ → ℕ
carry_bits n = bit_and (of_z w16 (shr_z (to_z w16 n) (2 ^ 15))) 1

-- a bound of a factor's product with a word
pub small_product : (r v : ℤ) (m : ℕ) → unsigned_abs r ≤ m → FitsSigned w16 v → unsigned_abs (r *ℤ v) ≤ m * 32768
small_product r v m b f = let word : unsigned_abs v ≤ 32768 = omega (arith, ints) in simp unsigned_abs-mul (mul-le-mul b word)

-- a bound of its high half
pub high_small : (p : ℤ) → unsigned_abs p ≤ 1073741824 → (neg_ℤ (pos 16384) ≤ℤ shr_z p 65536) × (shr_z p 65536 ≤ℤ pos 16384)
high_small (pos n) b = (omega (arith, ints), omega (arith, ints))
high_small (negsuc n) b = (omega (arith, ints), omega (arith, ints))

-- in lanes the high half is that of the product of numbers
pub high_is : (r v : ℤ) → FitsSigned w16 r → FitsSigned w16 v → to_z w32 (high_bits (of_z w16 r) (of_z w16 v)) ≡ shr_z (r *ℤ v) 65536
high_is r v fr f =
    let wr : FitsSigned w32 r = omega (arith, ints) in
    let wv : FitsSigned w32 v = omega (arith, ints) in
    let b : unsigned_abs r ≤ 32768 = omega (arith, ints) in
    let small = small_product r v 32768 b f in
    let fits : FitsSigned w32 (r *ℤ v) = omega (arith, ints) in
    let l = (high_small (r *ℤ v) small).0 in
    let u = (high_small (r *ℤ v) small).1 in
    let whole : to_z w32 ((widened (of_z w16 r) * widened (of_z w16 v)) % 2 ^ 32) ≡ r *ℤ v =
    ap (λ a. to_z w32 ((of_z w32 a * widened (of_z w16 v)) % 2 ^ 32)) (to_z-of_z w16 r fr) ∙
    ap (λ a. to_z w32 ((of_z w32 r * of_z w32 a) % 2 ^ 32)) (to_z-of_z w16 v f) ∙
    wrapping_mul_is w32 r v wr wv ∙ int_wrap_fits w32 (r *ℤ v) fits in
    let high : FitsSigned w32 (shr_z (r *ℤ v) 65536) = omega (arith, ints) in
    ap (λ p. to_z w32 (of_z w32 (shr_z p 65536))) whole ∙ to_z-of_z w32 (shr_z (r *ℤ v) 65536) high

-- and so is the low half
pub low_is : (r v : ℤ) → FitsSigned w16 r → FitsSigned w16 v → low_half (of_z w16 r) (of_z w16 v) ≡ remainder_of (r *ℤ v)
low_is r v f g =
    sym (of_z-to_z w16 (low_half (of_z w16 r) (of_z w16 v)) (mod_below (of_z w16 r * of_z w16 v) (2 ^ 16) (lit< tt))) ∙
    ap (of_z w16) (wrapping_mul_is w16 r v f g ∙ low_wrapped (r *ℤ v)) ∙ of_z-to_z w16 (remainder_of (r *ℤ v)) (low_below (r *ℤ v))

-- the highest bit of a low half is its half's quotient
pub carry_is : (n : ℕ) → n < 65536 → carry_bits n ≡ n / 32768
carry_is n u =
    and_mask (of_z w16 (shr_z (to_z w16 n) (2 ^ 15))) 1 ∙
    elim (cases_lt n 32768) [
      | inl l ↦ ap (λ z. of_z w16 (shr_z z 32768) % 2) (to_z_pos w16 n l) ∙ omega arith
      | inr l ↦
          let turned : n ≡ 65536 - suc (65535 - n) = omega arith in
          let fits : FitsSigned w16 (negsuc (65535 - n)) = omega (arith, ints) in
          let e : to_z w16 n ≡ negsuc (65535 - n) = ap (to_z w16) turned ∙ to_z-of_z w16 (negsuc (65535 - n)) fits in
          ap (λ z. of_z w16 (shr_z z 32768) % 2) e ∙ omega arith
    ]

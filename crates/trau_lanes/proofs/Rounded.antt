-- Twice the high half, what was wrapped off and the highest bit of the low half are the rounded product.
use Rattle.std.proofs.Common.{◌≡◌, ℕ, zero, ◌-ℤ◌, ◌-◌, ◌/◌, ◌%◌, ◌<◌, ◌≤◌, ℤ, pos, negsuc, neg_ℤ, ◌+ℤ◌, ◌*ℤ◌, ◌≤ℤ◌, unsigned_abs, FitsSigned, w16, ap, ◌∙◌}
use Rattle.std.proofs.Common.{arith, suc}
use Rattle.std.proofs.lemmas.Int.{ints}
use Rattle.std.specs.Int.{int_shr}
use lib.Signed.{shr_z}
use lib.IntN.{suc_ℤ-*ℤ, *ℤ_comm, *ℤ-negsuc, *ℤ-zero}
use Rattle.trau_num.specs.Num.{clamp16, mult_r_of}
use Rattle.trau_num.proofs.Clamped.{clamp_word}
use Rattle.trau_lanes.proofs.Remainders.{remainder_of, low_below}

-- twice the high half, what was wrapped off and the highest bit of the low half are the rounded product
twice_rounded : (p q h s : ℤ) (low l : ℕ) → p *ℤ pos 2 -ℤ q *ℤ pos 65536 ≡ h *ℤ pos 65536 +ℤ pos low → p +ℤ pos 16384 ≡ s *ℤ pos 32768 +ℤ pos l →
    low < 65536 → l < 32768 → h +ℤ q +ℤ pos (low / 32768) ≡ s
twice_rounded p q h s low l e f a b = omega (arith, ints)

-- a product with one more
mul_more : (m : ℤ) (n : ℕ) → m *ℤ pos (suc n) ≡ m *ℤ pos n +ℤ m
mul_more m n = *ℤ_comm m (pos (suc n)) ∙ suc_ℤ-*ℤ (pos n) m ∙ ap (λ z. z +ℤ m) (*ℤ_comm (pos n) m)

-- a product of a sum
sum_by : (a b : ℤ) (n : ℕ) → (a +ℤ b) *ℤ pos n ≡ a *ℤ pos n +ℤ b *ℤ pos n
sum_by a b zero = let x = *ℤ-zero (a +ℤ b) in let y = *ℤ-zero a in let z = *ℤ-zero b in omega (arith, ints, x, y, z)
sum_by a b (suc n) =
    let x = mul_more (a +ℤ b) n in
    let y = mul_more a n in
    let z = mul_more b n in
    let before = sum_by a b n in
    omega (arith, ints, x, y, z, before)

-- the same by any number
sum_times : (a b v : ℤ) → (a +ℤ b) *ℤ v ≡ a *ℤ v +ℤ b *ℤ v
sum_times a b (pos n) = sum_by a b n
sum_times a b (negsuc n) =
    let x = *ℤ-negsuc (a +ℤ b) n in
    let y = *ℤ-negsuc a n in
    let z = *ℤ-negsuc b n in
    let before = sum_by a b (suc n) in
    omega (arith, ints, x, y, z, before)

-- a number is its high half and its remainder
halves : (z : ℤ) → z ≡ shr_z z 65536 *ℤ pos 65536 +ℤ pos (remainder_of z)
halves (pos n) = omega (arith, ints)
halves (negsuc n) = omega (arith, ints)

-- a number by its shift down by 15, and what that loses
shifted : (z : ℤ) → (l : ℕ) × (l < 32768) × (z ≡ int_shr z 15 *ℤ pos 32768 +ℤ pos l)
shifted (pos n) = (n % 32768, omega arith, omega (arith, ints))
shifted (negsuc n) = (32767 - n % 32768, omega arith, omega (arith, ints))

-- the three parts of the doubled factor's product make the rounded product
pub rounded : (r v o : ℤ) → neg_ℤ (pos 1) ≤ℤ o → o ≤ℤ pos 1 →
    shr_z ((r *ℤ pos 2 -ℤ o *ℤ pos 65536) *ℤ v) 65536 +ℤ o *ℤ v +ℤ pos (remainder_of ((r *ℤ pos 2 -ℤ o *ℤ pos 65536) *ℤ v) / 32768) ≡
    int_shr (r *ℤ v +ℤ pos 16384) 15
rounded r v o a b =
    let t : ℤ = r *ℤ pos 2 -ℤ o *ℤ pos 65536 in
    let whole : r +ℤ r ≡ t +ℤ o *ℤ pos 65536 = omega (arith, ints) in
    let one = sum_times r r v in
    let two = sum_times t (o *ℤ pos 65536) v in
    let three : o *ℤ pos 65536 *ℤ v ≡ o *ℤ v *ℤ pos 65536 = overs o a b in
    let both : (r +ℤ r) *ℤ v ≡ (t +ℤ o *ℤ pos 65536) *ℤ v = ap (λ z. z *ℤ v) whole in
    let s = shifted (r *ℤ v +ℤ pos 16384) in
    let eq : r *ℤ v *ℤ pos 2 -ℤ o *ℤ v *ℤ pos 65536 ≡ shr_z (t *ℤ v) 65536 *ℤ pos 65536 +ℤ pos (remainder_of (t *ℤ v)) =
    (let h = halves (t *ℤ v) in omega (arith, ints, one, two, three, both, h)) in
    twice_rounded (r *ℤ v) (o *ℤ v) (shr_z (t *ℤ v) 65536) (int_shr (r *ℤ v +ℤ pos 16384) 15) (remainder_of (t *ℤ v)) s.0 eq s.2 (low_below (t *ℤ v)) s.1
  where
    overs : (o : ℤ) → neg_ℤ (pos 1) ≤ℤ o → o ≤ℤ pos 1 → o *ℤ pos 65536 *ℤ v ≡ o *ℤ v *ℤ pos 65536
    overs (pos zero) a b = let x = *ℤ_comm (pos 0) v in omega (arith, ints, x)
    overs (pos (suc zero)) a b = let x = *ℤ_comm (pos 1) v in let y = *ℤ_comm (pos 65536) v in omega (arith, ints, x, y)
    overs (pos (suc (suc n))) a b = absurd (omega (arith, ints))
    overs (negsuc zero) a b = let x = *ℤ_comm (negsuc 0) v in let y = *ℤ_comm (negsuc 65535) v in omega (arith, ints, x, y)
    overs (negsuc (suc n)) a b = absurd (omega (arith, ints))

-- a word is not clamped
pub clamp_none : (z : ℤ) → FitsSigned w16 z → clamp16 z ≡ z
clamp_none (pos n) f = grind (arith, ints)
clamp_none (negsuc n) f = grind (arith, ints)

-- a rounded product of this size is a word
pub word_shifted : (p : ℤ) → unsigned_abs p ≤ 1073709056 → FitsSigned w16 (int_shr (p +ℤ pos 16384) 15)
word_shifted p b = let s = shifted (p +ℤ pos 16384) in let l = s.1 in let e = s.2 in omega (arith, ints, l, e)

pub mult_r_word : (r v : ℤ) → FitsSigned w16 (mult_r_of r v)
unfolding mult_r_of
mult_r_word r v = clamp_word (int_shr (r *ℤ v +ℤ pos 16384) 15)

-- A factor doubled in 16 bits, and what the doubling wraps off.
use Rattle.std.proofs.Common.{◌≡◌, ℕ, ◌-ℤ◌, ◌+◌, ◌-◌, ◌/◌, ◌%◌, ◌^◌, ◌<◌, ◌≤◌, ℤ, pos, negsuc, neg_ℤ, ◌+ℤ◌, ◌*ℤ◌, ◌≤ℤ◌, unsigned_abs, FitsSigned, w16, to_z}
use Rattle.std.proofs.Common.{of_z, ap, sym, subst, ◌∙◌, arith, lit<, inl, inr, suc}
use Rattle.std.proofs.lemmas.Int.{ints, to_z-of_z, of_z-to_z, to_z_pos, wrapping_add_is, int_wrap_fits}
use Rattle.std.proofs.lemmas.Nat.{mod_below}
use Rattle.std.proofs.lemmas.Bool.{cases_lt}
use Rattle.std.specs.Int.{int_wrap}
use lib.Signed.{shr_z}
use Rattle.trau_lanes.proofs.Remainders.{low_wrapped}

-- in lanes: the doubled factor, and what that wraps off
abbrev pub twice_bits : ℕ → ℕ
twice_bits a = (a + a) % 2 ^ 16

-- what it wraps off
abbrev pub over_bits : ℕ → ℕ
over_bits a = of_z w16 (shr_z (to_z w16 ((of_z w16 (shr_z (to_z w16 a) (2 ^ 14)) + 1) % 2 ^ 16)) (2 ^ 1))

-- the same of numbers
abbrev pub over_of : ℤ → ℤ
over_of r = shr_z (shr_z r 16384 +ℤ pos 1) 2

abbrev pub twice_of : ℤ → ℤ
twice_of r = r *ℤ pos 2 -ℤ over_of r *ℤ pos 65536

-- o is what doubling r wraps off
pub record IsTwice (r o : ℤ) : Type 0 where
  pub low : neg_ℤ (pos 1) ≤ℤ o
  pub high : o ≤ℤ pos 1
  pub fits : FitsSigned w16 (r *ℤ pos 2 -ℤ o *ℤ pos 65536)
  pub wraps : int_wrap w16 (r +ℤ r) ≡ r *ℤ pos 2 -ℤ o *ℤ pos 65536

-- of a factor
pub is_twice : (r : ℤ) → unsigned_abs r ≤ 32767 → IsTwice r (over_of r)
is_twice (pos n) b = elim (cases_lt n 16384) [
  | inl l ↦
      let e : n / 16384 ≡ 0 = omega arith in
      let w : FitsSigned w16 (pos n +ℤ pos n) = omega (arith, ints) in
      let f : FitsSigned w16 (pos n *ℤ pos 2 -ℤ pos 0 *ℤ pos 65536) = omega (arith, ints) in
      let same : pos n +ℤ pos n ≡ pos n *ℤ pos 2 -ℤ pos 0 *ℤ pos 65536 = omega (arith, ints) in
      subst (IsTwice (pos n)) (sym (ap (λ q. shr_z (pos q +ℤ pos 1) 2) e))
      (record { low = omega (arith, ints); high = omega (arith, ints); fits = f; wraps = int_wrap_fits w16 (pos n +ℤ pos n) w ∙ same })
  | inr l ↦
      let e : n / 16384 ≡ 1 = omega arith in
      let f : FitsSigned w16 (pos n *ℤ pos 2 -ℤ pos 1 *ℤ pos 65536) = omega (arith, ints) in
      let turned : (n + n) % 65536 ≡ 65536 - suc (65535 - (n + n)) = omega arith in
      let fits : FitsSigned w16 (negsuc (65535 - (n + n))) = omega (arith, ints) in
      let same : negsuc (65535 - (n + n)) ≡ pos n *ℤ pos 2 -ℤ pos 1 *ℤ pos 65536 = omega (arith, ints) in
      let double : pos n +ℤ pos n ≡ pos (n + n) = omega (arith, ints) in
      subst (IsTwice (pos n)) (sym (ap (λ q. shr_z (pos q +ℤ pos 1) 2) e))
      (record {
        low = omega (arith, ints);
        high = omega (arith, ints);
        fits = f;
        wraps = ap (int_wrap w16) double ∙ low_wrapped (pos (n + n)) ∙ ap (to_z w16) turned ∙ to_z-of_z w16 (negsuc (65535 - (n + n))) fits ∙ same;
      })
]
is_twice (negsuc n) b = elim (cases_lt n 16384) [
  | inl l ↦
      let e : n / 16384 ≡ 0 = omega arith in
      let w : FitsSigned w16 (negsuc n +ℤ negsuc n) = omega (arith, ints) in
      let f : FitsSigned w16 (negsuc n *ℤ pos 2 -ℤ pos 0 *ℤ pos 65536) = omega (arith, ints) in
      let same : negsuc n +ℤ negsuc n ≡ negsuc n *ℤ pos 2 -ℤ pos 0 *ℤ pos 65536 = omega (arith, ints) in
      subst (IsTwice (negsuc n)) (sym (ap (λ q. shr_z (negsuc q +ℤ pos 1) 2) e))
      (record { low = omega (arith, ints); high = omega (arith, ints); fits = f; wraps = int_wrap_fits w16 (negsuc n +ℤ negsuc n) w ∙ same })
  | inr l ↦
      let e : n / 16384 ≡ 1 = omega arith in
      let f : FitsSigned w16 (negsuc n *ℤ pos 2 -ℤ negsuc 0 *ℤ pos 65536) = omega (arith, ints) in
      let turned : 65535 - (n + n + 1) % 65536 ≡ 65534 - (n + n) = omega arith in
      let below : 65534 - (n + n) < 32768 = omega arith in
      let same : pos (65534 - (n + n)) ≡ negsuc n *ℤ pos 2 -ℤ negsuc 0 *ℤ pos 65536 = omega (arith, ints) in
      let double : negsuc n +ℤ negsuc n ≡ negsuc (n + n + 1) = omega (arith, ints) in
      subst (IsTwice (negsuc n)) (sym (ap (λ q. shr_z (negsuc q +ℤ pos 1) 2) e))
      (record {
        low = omega (arith, ints);
        high = omega (arith, ints);
        fits = f;
        wraps = ap (int_wrap w16) double ∙ low_wrapped (negsuc (n + n + 1)) ∙ ap (to_z w16) turned ∙ to_z_pos w16 (65534 - (n + n)) below ∙ same;
      })
]

-- the lanes' doubled factor is that of numbers
pub twice_is : (r : ℤ) → unsigned_abs r ≤ 32767 → FitsSigned w16 r → twice_bits (of_z w16 r) ≡ of_z w16 (twice_of r)
twice_is r b f =
    sym (of_z-to_z w16 (twice_bits (of_z w16 r)) (mod_below (of_z w16 r + of_z w16 r) (2 ^ 16) (lit< tt))) ∙
    ap (of_z w16) (wrapping_add_is w16 r r f f ∙ (is_twice r b).wraps)

-- a factor's highest bits, from -2 to 1
quarter_small : (r : ℤ) → unsigned_abs r ≤ 32767 → (neg_ℤ (pos 2) ≤ℤ shr_z r 16384) × (shr_z r 16384 ≤ℤ pos 1)
quarter_small (pos n) b = (omega (arith, ints), omega (arith, ints))
quarter_small (negsuc n) b = (omega (arith, ints), omega (arith, ints))

-- and so is what the doubling wraps off
pub over_is : (r : ℤ) → unsigned_abs r ≤ 32767 → FitsSigned w16 r → over_bits (of_z w16 r) ≡ of_z w16 (over_of r)
over_is r b f =
    let q : ℤ = shr_z r 16384 in
    let l = (quarter_small r b).0 in
    let u = (quarter_small r b).1 in
    let fq : FitsSigned w16 q = omega (arith, ints, l, u) in
    let one : FitsSigned w16 (pos 1) = omega (arith, ints) in
    let more : FitsSigned w16 (q +ℤ pos 1) = omega (arith, ints, l, u) in
    ap (λ z. of_z w16 (shr_z (to_z w16 ((of_z w16 (shr_z z 16384) + 1) % 2 ^ 16)) 2)) (to_z-of_z w16 r f) ∙
    ap (λ z. of_z w16 (shr_z z 2)) (wrapping_add_is w16 q (pos 1) fq one ∙ int_wrap_fits w16 (q +ℤ pos 1) more)

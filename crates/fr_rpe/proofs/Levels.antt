-- A pulse that its scale has room for has a level within 16 bits, and a code of 3 bits.
use Rattle.std.proofs.Common.{◌≡◌, ℕ, ℤ, suc, ◌+◌, ◌-◌, ◌*◌, ◌<◌, ◌≤◌, min, pos, negsuc, neg_ℤ, ◌*ℤ◌, ◌<ℤ◌, ◌≤ℤ◌, unsigned_abs, arith, refl, FitsSigned}
use Rattle.std.proofs.Common.{w16, inl, inr}
use Rattle.std.proofs.lemmas.Int.{ints, unsigned_abs-mul}
use Rattle.std.proofs.lemmas.Bool.{cases_lt}
use Rattle.std.proofs.Math.Nat.{mul-le-mul_right}
use Rattle.trau_num.specs.Num.{abs_of, mult_of, clamp16, floor_shr}
use Rattle.trau_num.proofs.Eight.{by_place}
use Rattle.fr_rpe.specs.Quantisation.{inverse_of}

-- a level below the next step of its mantissa; only the greatest mantissa has -32768
pub record IsLevel (mantissa : ℕ) (level : ℤ) : Type 0 where
  pub least : neg_ℤ (pos 32768) ≤ℤ level
  pub low : mantissa < 7 → neg_ℤ (pos ((mantissa + 9) * 2048)) <ℤ level
  pub high : level <ℤ pos ((mantissa + 9) * 2048)

-- a negative pulse at its level
negative : (n s mantissa : ℕ) → mantissa < 8 → suc n * s < (mantissa + 9) * 2048 → IsLevel mantissa (negsuc n *ℤ pos s)
negative n s mantissa m b = record { least = omega (arith, ints); low = λ k. omega (arith, ints); high = omega (arith, ints) }

-- the magnitude of -32768 is 32767, for which only the greatest scale has room
least_word : (n s mantissa : ℕ) → n ≡ 32767 → 0 < s → mantissa < 8 → 32767 * s < (mantissa + 9) * 2048 → IsLevel mantissa (negsuc n *ℤ pos s)
least_word n s mantissa e p m h =
    let one : s ≡ 1 = omega arith in
    rw (e, one) (record { least = omega (arith, ints); low = λ k. absurd (omega arith); high = omega (arith, ints) })

-- a pulse at its level is below the mantissa's next step
pub at_level : (pulse : ℤ) (s mantissa : ℕ) → FitsSigned w16 pulse → 0 < s → mantissa < 8 →
    unsigned_abs (abs_of pulse) * s < (mantissa + 9) * 2048 → IsLevel mantissa (pulse *ℤ pos s)
unfolding abs_of
at_level (pos n) s mantissa f p m h =
    let e : min n 32767 ≡ n = omega (arith, ints) in
    let b : n * s < (mantissa + 9) * 2048 = rw e at h in
    record { least = omega (arith, ints); low = λ k. omega (arith, ints); high = omega (arith, ints) }
at_level (negsuc n) s mantissa f p m h =
    elim (cases_lt n 32767) [
      | inl l ↦
          let e : min (suc n) 32767 ≡ suc n = omega arith in
          let b : suc n * s < (mantissa + 9) * 2048 = rw e at h in
          negative n s mantissa m b
      | inr g ↦ let e : n ≡ 32767 = omega (arith, ints) in least_word n s mantissa e p m (rw e at h)
    ]

-- what is coded from 0 to 7
pub record IsShare (z : ℤ) : Type 0 where
  pub low : neg_ℤ (pos 4) ≤ℤ z
  pub high : z ≤ℤ pos 3

-- the code's sum of a product within these bounds has three bits
share : (z : ℤ) → neg_ℤ (pos 536870912) ≤ℤ z → z <ℤ pos 536870912 → IsShare (floor_shr (clamp16 (floor_shr z 15)) 12)
share (pos n) l h = record { low = omega (arith, ints); high = omega (arith, ints) }
share (negsuc n) l h = record { low = omega (arith, ints); high = omega (arith, ints) }

-- the inverse of a mantissa keeps the product within them
record InTable (mantissa : ℕ) : Type 0 where
  low : (level : ℤ) → IsLevel mantissa level → neg_ℤ (pos 536870912) ≤ℤ (level *ℤ inverse_of mantissa)
  high : (level : ℤ) → IsLevel mantissa level → (level *ℤ inverse_of mantissa) <ℤ pos 536870912

-- a magnitude as two bounds
within : (z : ℤ) → unsigned_abs z < 536870912 → (neg_ℤ (pos 536870912) ≤ℤ z) × (z <ℤ pos 536870912)
within z b = (omega (arith, ints), omega (arith, ints))

product_below : (level : ℤ) (top n : ℕ) → unsigned_abs level ≤ top → top * n < 536870912 → unsigned_abs (level *ℤ pos n) < 536870912
product_below level top n l b =
    let g : unsigned_abs level * n ≤ top * n = mul-le-mul_right n l in
    rw (unsigned_abs-mul level (pos n)) (omega arith)

magnitude : (mantissa : ℕ) (level : ℤ) → mantissa < 7 → IsLevel mantissa level → unsigned_abs level ≤ (mantissa + 9) * 2048 - 1
magnitude mantissa level l h =
    let low = h.low l in
    let high = h.high in
    omega (arith, ints)

-- mantissas 0 to 6
below_7 : (mantissa n : ℕ) → mantissa < 7 → inverse_of mantissa ≡ pos n → ((mantissa + 9) * 2048 - 1) * n < 536870912 → InTable mantissa
below_7 mantissa n l e b = record {
  low = λ level h. rw e (within _ (product_below level _ n (magnitude mantissa level l h) b)).0;
  high = λ level h. rw e (within _ (product_below level _ n (magnitude mantissa level l h) b)).1;
}

-- mantissa 7
at_7 : InTable 7
at_7 = record {
  low = λ level h. let least = h.least in omega (arith, ints);
  high = λ level h. let high = h.high in omega (arith, ints);
}

-- the levels of each mantissa
levels : (mantissa : ℕ) → mantissa < 8 → InTable mantissa
levels =
    by_place InTable (below_7 0 29128 (omega arith) refl (omega arith)) (below_7 1 26215 (omega arith) refl (omega arith))
    (below_7 2 23832 (omega arith) refl (omega arith)) (below_7 3 21846 (omega arith) refl (omega arith))
    (below_7 4 20165 (omega arith) refl (omega arith)) (below_7 5 18725 (omega arith) refl (omega arith))
    (below_7 6 17476 (omega arith) refl (omega arith)) at_7

-- so a level's code has three bits
pub coded_share : (mantissa : ℕ) (level : ℤ) → mantissa < 8 → IsLevel mantissa level → IsShare (floor_shr (mult_of level (inverse_of mantissa)) 12)
unfolding mult_of
coded_share mantissa level m h = let t = levels mantissa m in share (level *ℤ inverse_of mantissa) (t.low level h) (t.high level h)

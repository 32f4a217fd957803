-- Reflection coefficients (GSM 06.10, section 4.2.5), by a recursion on two lists P and K.
use Rattle.std.specs.Prelude.{ℕ, zero, suc, ◌+◌, ◌^◌, ◌==◌, ℤ, pos, neg_ℤ, ◌*ℤ◌, if◌then◌else◌, nat_le, int_lt, List, [], ◌∷◌, map, replicate, unsigned_abs}
use Rattle.std.specs.List.{range_with_len}
use Rattle.std.specs.Int.{is_positive}
use Rattle.trau_num.specs.Num.{add_of, mult_r_of, abs_of, div_of, norm_of, floor_shr, entry}

-- ACF[i]: the high words of the autocorrelations, after the left shifts that normalise the first
unfoldable pub normalised : List ℤ → List ℤ
normalised acf =
    let shift = norm_of (unsigned_abs (entry acf 0)) in
    map (λ i. floor_shr (entry acf i *ℤ pos (2 ^ shift)) 16) (range_with_len 0 9)

-- r[n]: the magnitude of P[1] divided by P[0], with the opposite sign of P[1]
unfoldable pub coefficient_of : ℤ → ℤ → ℤ
coefficient_of p0 p1 = let size = div_of (abs_of p1) p0 in if is_positive p1 then neg_ℤ size else size

-- P[m] after the step with coefficient r, from the old P and the old K, when `left` coefficients remain to be found
abbrev pub next_p : ℕ → ℤ → List ℤ → List ℤ → ℕ → ℤ
next_p left r p k m =
    if m == 0 then add_of (entry p 0) (mult_r_of r (entry p 1))
    else if nat_le m left then add_of (entry p (m + 1)) (mult_r_of r (entry k m))
    else entry p m

-- K[m] after the same step
abbrev pub next_k : ℕ → ℤ → List ℤ → List ℤ → ℕ → ℤ
next_k left r p k m =
    if m == 0 then entry k 0
    else if nat_le m left then add_of (entry k m) (mult_r_of r (entry p (m + 1)))
    else entry k m

-- P and K after the step
unfoldable pub p_after : ℕ → ℤ → List ℤ → List ℤ → List ℤ
p_after left r p k = map (next_p left r p k) (range_with_len 0 9)

unfoldable pub k_after : ℕ → ℤ → List ℤ → List ℤ → List ℤ
k_after left r p k = map (next_k left r p k) (range_with_len 0 9)

-- the remaining coefficients, from P and K: all 0 as soon as P[0] is below the magnitude of P[1]
unfoldable pub coefficients_from : ℕ → List ℤ → List ℤ → List ℤ
coefficients_from zero p k = []
coefficients_from (suc left) p k =
    if int_lt (entry p 0) (abs_of (entry p 1)) then replicate (suc left) (pos 0)
    else let r = coefficient_of (entry p 0) (entry p 1) in r ∷ coefficients_from left (p_after left r p k) (k_after left r p k)

-- r[1] to r[8] of the autocorrelations
unfoldable pub reflection_coefficients : List ℤ → List ℤ
reflection_coefficients acf =
    if unsigned_abs (entry acf 0) == 0 then replicate 8 (pos 0)
    else let p = normalised acf in coefficients_from 8 p p

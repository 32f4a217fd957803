-- The number of left shifts that bring a number into 2^30 to 2^31 - 1.
use Rattle.std.proofs.Common.{◌≡◌, ℕ, ◌+◌, ◌-◌, ◌*◌, ◌^◌, ◌≤◌, ◌<◌, Bool, true, false, cond, suc, zero, arith, ap, sym, mul_assoc, ◌∙◌}
use Rattle.std.specs.List.{range_with_len, count_by}
use Rattle.std.proofs.lemmas.Bool.{lt-ltb, le-ltb}
use Rattle.std.proofs.lemmas.List.Sums.{sum_by-cons}
use Rattle.std.proofs.lemmas.Nat.{pow-add, pow_pos}
use Rattle.std.proofs.Math.Nat.{mul-le-mul_right, mul-le-mul_left, mul-lt-mul_of_pos_right, pow-le-pow_right}
use Rattle.trau_num.specs.Num.{norm_of}

-- 2^30 is 2^k times what is left of it
split : (k : ℕ) → k ≤ 30 → 2 ^ 30 ≡ 2 ^ k * 2 ^ (30 - k)
split k h = let e : 30 ≡ k + (30 - k) = omega arith in ap (λ n. 2 ^ n) e ∙ pow-add 2 k (30 - k)

-- a number from 2^k on goes to 2^30 or above
pub reaches : (v k : ℕ) → k ≤ 30 → 2 ^ k ≤ v → 2 ^ 30 ≤ v * 2 ^ (30 - k)
reaches v k h l = omega (arith, split k h, mul-le-mul_right (2 ^ (30 - k)) l)

-- and one below 2 * 2^k stays below 2^31
pub stays : (v k : ℕ) → k ≤ 30 → v < 2 * 2 ^ k → v * 2 ^ (30 - k) < 2 ^ 31
stays v k h l = omega (arith, split k h, mul-lt-mul_of_pos_right l (pow_pos (30 - k)))

-- a number that is 2^k at least and fits 31 bits bounds k
pub within : (k v : ℕ) → 2 ^ k ≤ v → v < 2 ^ 31 → k ≤ 30
within k v l m = let p : 31 ≤ k → 2 ^ 31 ≤ 2 ^ k = λ h. pow-le-pow_right (omega arith) h in grind (arith, p)

-- a test that holds at the first r numbers and at none later counts r
counted : (p : ℕ → Bool) (a n r : ℕ) → r ≤ n →
    ((k : ℕ) → a ≤ k → k < a + r → p k ≡ true) → ((k : ℕ) → a + r ≤ k → p k ≡ false) →
    count_by p (range_with_len a n) ≡ r
counted p a zero r h holds fails = omega arith
counted p a (suc n) zero h holds fails =
    let rest = counted p (a + 1) n 0 (omega arith) (λ k l m. absurd (omega arith)) (λ k l. fails k (omega arith)) in
    let here : p a ≡ false = fails a (omega arith) in
    let tail : ℕ = count_by p (range_with_len (a + 1) n) in
    sum_by-cons (λ k. cond (p k) 1 0) a (range_with_len (a + 1) n) ∙ (ap (λ b. cond b 1 0 + tail) here ∙ (omega (arith, rest)))
counted p a (suc n) (suc r) h holds fails =
    let rest = counted p (a + 1) n r (omega arith) (λ k l m. holds k (omega arith) (omega arith)) (λ k l. fails k (omega arith)) in
    let here : p a ≡ true = holds a (omega arith) (omega arith) in
    let tail : ℕ = count_by p (range_with_len (a + 1) n) in
    sum_by-cons (λ k. cond (p k) 1 0) a (range_with_len (a + 1) n) ∙ (ap (λ b. cond b 1 0 + tail) here ∙ (omega (arith, rest)))

-- one shift less leaves less than half
halves : (v k n : ℕ) → k < n → v * 2 ^ n < 2 ^ 31 → v * 2 ^ k < 2 ^ 30
halves v k n h u =
    let le : k + 1 ≤ n = omega arith in
    let grows : v * 2 ^ (k + 1) ≤ v * 2 ^ n = mul-le-mul_left v (pow-le-pow_right (omega arith) le) in
    let twice : v * 2 ^ (k + 1) ≡ v * 2 ^ k * 2 = ap (λ m. v * m) (pow-add 2 k 1) ∙ sym (mul_assoc v (2 ^ k) 2) in
    omega arith

-- the shifts that leave a number below 2^30 are those before the one that leads into the range
pub is_norm : (v n : ℕ) → n ≤ 30 → 2 ^ 30 ≤ v * 2 ^ n → v * 2 ^ n < 2 ^ 31 → norm_of v ≡ n
unfolding norm_of
is_norm v n h l u =
    counted _ 0 30 n h
    (λ k a b. lt-ltb _ _ (halves v k n (omega arith) u))
    (λ k a.
    let le : n ≤ k = omega arith in
    let grows : v * 2 ^ n ≤ v * 2 ^ k = mul-le-mul_left v (pow-le-pow_right (omega arith) le) in
    le-ltb _ _ (omega arith))

-- The peak of a frame, and what shifting down by its scaling leaves.
use Rattle.std.proofs.Common.{◌≡◌, ℕ, zero, suc, ℤ, ◌+◌, ◌-◌, ◌*◌, ◌^◌, ◌<◌, ◌≤◌, pos, ◌+ℤ◌, ◌*ℤ◌, ◌≤ℤ◌, unsigned_abs, length, List, [], ◌∷◌, ◌++◌, take}
use Rattle.std.proofs.Common.{map, fold, refl, sym, ap, subst, ◌∙◌, arith}
use Rattle.std.specs.Int.{int_max}
use Rattle.std.proofs.lemmas.Int.{ints, fold-int_max_bounds, unsigned_abs-mul}
use Rattle.std.proofs.lemmas.List.{map_more, get_or-map, length-map}
use Rattle.std.proofs.lemmas.List.Elements.{All-get_or}
use Rattle.std.proofs.lemmas.List.Sums.{fold-append}
use Rattle.std.proofs.Math.Nat.{pow-le-pow_right, mul-le-mul_left, mul-le-mul_right}
use Rattle.trau_num.specs.Num.{clamp16, abs_of, mult_r_of, floor_shr, entry}
use Rattle.fr_lpc.specs.Scaling.{AreWithin, scaled_sample}

-- one sample more
pub peak_more : (s : List ℤ) (k : ℕ) (most a : ℤ) → k < length s → most ≡ fold int_max (pos 0) (map abs_of (take k s)) → a ≡ abs_of (entry s k) →
    int_max most a ≡ fold int_max (pos 0) (map abs_of (take (k + 1) s))
peak_more s k most a l m e =
    let more : map abs_of (take (k + 1) s) ≡ map abs_of (take k s) ++ abs_of (entry s k) ∷ [] = map_more abs_of s k (pos 0) l in
    ap (λ x. int_max x a) m ∙ ap (λ x. int_max (fold int_max (pos 0) (map abs_of (take k s))) x) e ∙
    sym (ap (fold int_max (pos 0)) more ∙ fold-append int_max (pos 0) (map abs_of (take k s)) (abs_of (entry s k) ∷ []))

-- the peak is 0 or above, and no magnitude is above it
pub peak_bounds : (s : List ℤ) (most : ℤ) → most ≡ fold int_max (pos 0) (map abs_of s) →
    (pos 0 ≤ℤ most) × ((i : ℕ) → i < length s → abs_of (entry s i) ≤ℤ most)
peak_bounds s most e =
    let bounds = fold-int_max_bounds (pos 0) (map abs_of s) most e in (
      bounds.0,
      λ i h.
          let within : i < length (map abs_of s) = omega (arith, length-map s abs_of) in
          subst (λ x. x ≤ℤ most) (get_or-map abs_of s i (pos 0) (pos 0) h) (All-get_or (λ x. x ≤ℤ most) (map abs_of s) i (pos 0) within bounds.1),
    )

-- the scaling leaves the peak its room
pub peak_room : (smax n : ℕ) → smax * 65536 * 2 ^ n < 2 ^ 31 → smax < 2 ^ (11 + (4 - n))
peak_room smax zero h = omega arith
peak_room smax (suc zero) h = omega arith
peak_room smax (suc (suc zero)) h = omega arith
peak_room smax (suc (suc (suc zero))) h = omega arith
peak_room smax (suc (suc (suc (suc n)))) h =
    let m = suc (suc (suc (suc n))) in
    let none : 11 + (4 - m) ≡ 11 = omega arith in
    let le : 4 ≤ m = omega arith in
    let power : 2 ^ 4 ≤ 2 ^ m = pow-le-pow_right (omega arith) le in
    let grows : smax * 65536 * 2 ^ 4 ≤ smax * 65536 * 2 ^ m = mul-le-mul_left (smax * 65536) power in
    rw none (omega arith)

-- and so each sample
pub sample_room : (x peak : ℤ) (most : ℕ) → unsigned_abs x ≤ 32768 → abs_of x ≤ℤ peak → pos 0 ≤ℤ peak → unsigned_abs peak < most → unsigned_abs x ≤ most
unfolding abs_of
sample_room x peak most f h p l = omega (arith, ints)

-- a product of at most 2^26, rounded to whole steps of 2^15
rounded : (z : ℤ) → unsigned_abs z ≤ 67108864 → unsigned_abs (clamp16 (floor_shr (z +ℤ pos 16384) 15)) ≤ 2048
rounded z h = grind (arith, ints)

-- a scaled sample is at most 2048
product : (x : ℤ) (c m : ℕ) → unsigned_abs x ≤ m → m * c ≡ 67108864 → unsigned_abs (mult_r_of x (pos c)) ≤ 2048
unfolding mult_r_of
product x c m h e =
    let small : unsigned_abs (x *ℤ pos c) ≤ 67108864 = rw unsigned_abs-mul (omega (arith, mul-le-mul_right c h)) in
    rounded (x *ℤ pos c) small

-- a sample that has room is brought to 2^11 at most
pub scaled_bound : (x : ℤ) (scaling : ℕ) → 1 ≤ scaling → scaling ≤ 4 → unsigned_abs x ≤ 2 ^ (11 + scaling) → unsigned_abs (scaled_sample scaling x) ≤ 2048
unfolding scaled_sample
scaled_bound x zero a b h = absurd (omega arith)
scaled_bound x (suc zero) a b h = product x 16384 4096 h refl
scaled_bound x (suc (suc zero)) a b h = product x 8192 8192 h refl
scaled_bound x (suc (suc (suc zero))) a b h = product x 4096 16384 h refl
scaled_bound x (suc (suc (suc (suc zero)))) a b h = product x 2048 32768 h refl
scaled_bound x (suc (suc (suc (suc (suc n))))) a b h = absurd (omega arith)

-- a bound of each item of a mapped list
pub within_map : (f : ℤ → ℤ) (xs ys : List ℤ) (bound : ℕ) → ys ≡ map f xs → ((i : ℕ) → i < length xs → unsigned_abs (f (entry xs i)) ≤ bound) →
    AreWithin bound ys
within_map f xs ys bound e h =
    let p : AreWithin bound (map f xs) =
    λ i b.
    let within : i < length xs = omega (arith, length-map xs f) in
    subst (λ x. unsigned_abs x ≤ bound) (sym (get_or-map f xs i (pos 0) (pos 0) within)) (h i within)
    in subst (AreWithin bound) (sym e) p

-- The scale of a coded maximum has room for the maximum.
use Rattle.std.proofs.Common.{◌≡◌, ℕ, ◌+◌, ◌-◌, ◌*◌, ◌/◌, ◌%◌, ◌^◌, ◌<◌, ◌≤◌, Bool, true, arith, refl}
use Rattle.std.specs.Prelude.{if◌then◌else◌, nat_lt}
use Rattle.std.proofs.lemmas.Bool.{ltb-true, cond_below, cond_above, agree_below, agree_below_at}
use Rattle.std.proofs.Math.Nat.{mul-le-mul_right}
use Rattle.fr_rpe.specs.Scale.{scale_of, scale_shift}
use Rattle.fr_rpe.specs.Quantisation.{IsBelowScale}

-- the greatest maximum with a code
abbrev top : ℕ → ℕ
top c = if nat_lt c 16 then 32 * c + 31 else (c % 8 + 9) * 2 ^ (c / 8 + 4) - 1

-- a table over the 64 coded maxima
abbrev has_room : ℕ → Bool
has_room c = nat_lt (top c * 2 ^ scale_shift (scale_of c)) (((scale_of c).mantissa + 9) * 2 ^ 11)

table : agree_below has_room (λ c. true) 64 ≡ true
unfolding scale_of
table = refl

-- a maximum has room at the scale of its code
room : (c m : ℕ) → c < 64 → m ≤ top c → IsBelowScale (scale_of c) m
room c m l h =
    let t : top c * 2 ^ scale_shift (scale_of c) < ((scale_of c).mantissa + 9) * 2 ^ 11 = ltb-true _ _ (agree_below_at has_room (λ c. true) 64 c table l) in
    let g : m * 2 ^ scale_shift (scale_of c) ≤ top c * 2 ^ scale_shift (scale_of c) = mul-le-mul_right (2 ^ scale_shift (scale_of c)) h in
    omega arith

-- a maximum below 512
pub quiet : (m : ℕ) → m < 512 → IsBelowScale (scale_of (m / 32)) m
quiet m l =
    let e : 32 * (m / 32) + 31 ≡ top (m / 32) = cond_below (m / 32) 16 _ _ (omega arith) in
    room (m / 32) m (omega arith) (rw (← e) (omega arith))

-- a maximum of 512 or more
pub loud : (m c q t : ℕ) → c < 64 → c / 8 ≡ q → 2 ≤ q → 2 ^ (q + 4) ≡ t → m + 1 ≤ (c % 8 + 9) * t → IsBelowScale (scale_of c) m
loud m c q t l e g p b =
    let u : (c % 8 + 9) * 2 ^ (c / 8 + 4) ≡ (c % 8 + 9) * t = rw (e, p) refl in
    let h : (c % 8 + 9) * 2 ^ (c / 8 + 4) - 1 ≡ top c = cond_above c 16 _ _ _ (omega arith) refl in
    room c m l (rw (← h) (omega arith))

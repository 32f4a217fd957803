-- The remainder of a number by 2^16, from 0 on: the low half of a wrapped product.
use Rattle.std.proofs.Common.{◌≡◌, ℕ, ◌-◌, ◌%◌, ◌<◌, ℤ, pos, negsuc, w16, to_z, refl, arith}
use Rattle.std.specs.Int.{int_wrap}

abbrev pub remainder_of : ℤ → ℕ
remainder_of (pos n) = n % 65536
remainder_of (negsuc n) = 65535 - n % 65536

-- it is what wrapping leaves
pub low_wrapped : (p : ℤ) → int_wrap w16 p ≡ to_z w16 (remainder_of p)
unfolding int_wrap
low_wrapped (pos n) = refl
low_wrapped (negsuc n) = refl

pub low_below : (p : ℤ) → remainder_of p < 65536
low_below (pos n) = omega arith
low_below (negsuc n) = omega arith

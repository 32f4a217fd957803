-- Saturating arithmetic: each operation of GSM 06.10, section 4, is the exact whole number, clamped to its type.
use Rattle.std.specs.Prelude.{ℕ, ◌*◌, ◌/◌, ◌^◌, ℤ, pos, ◌+ℤ◌, ◌-ℤ◌, ◌*ℤ◌, unsigned_abs, nat_eq, nat_lt, count_by, if◌then◌else◌, List, slice_index_or}
use Rattle.std.specs.Int.{w16, w32, saturate_signed, int_shr}
use Rattle.std.specs.List.{range_with_len}

-- the nearest value from -2^15 to 2^15 - 1
abbrev pub clamp16 : ℤ → ℤ
clamp16 z = saturate_signed w16 z

-- the nearest value from -2^31 to 2^31 - 1
abbrev pub clamp32 : ℤ → ℤ
clamp32 z = saturate_signed w32 z

-- `z >> k`: the floor of z / 2^k, also of a negative z
abbrev pub floor_shr : ℤ → ℕ → ℤ
floor_shr z k = int_shr z k

-- add: the sum
unfoldable pub add_of : ℤ → ℤ → ℤ
add_of a b = clamp16 (a +ℤ b)

-- sub: the difference
unfoldable pub sub_of : ℤ → ℤ → ℤ
sub_of a b = clamp16 (a -ℤ b)

-- mult: the product of two fractions of 15 bits
unfoldable pub mult_of : ℤ → ℤ → ℤ
mult_of a b = clamp16 (floor_shr (a *ℤ b) 15)

-- mult_r: the same, rounded to the nearest
unfoldable pub mult_r_of : ℤ → ℤ → ℤ
mult_r_of a b = clamp16 (floor_shr (a *ℤ b +ℤ pos 16384) 15)

-- abs: the magnitude
unfoldable pub abs_of : ℤ → ℤ
abs_of a = clamp16 (pos (unsigned_abs a))

-- div: the quotient of two fractions of 15 bits, and 0 for a numerator of 0
unfoldable pub div_of : ℤ → ℤ → ℤ
div_of num den =
    if nat_eq (unsigned_abs num) 0 then pos 0
    else clamp16 (pos (unsigned_abs num * 2 ^ 15 / unsigned_abs den))

-- `a << n` of a word
unfoldable pub shl_of : ℤ → ℕ → ℤ
shl_of a n = clamp16 (a *ℤ pos (2 ^ n))

-- L_add: the sum of two long words
unfoldable pub l_add_of : ℤ → ℤ → ℤ
l_add_of a b = clamp32 (a +ℤ b)

-- L_sub: their difference
unfoldable pub l_sub_of : ℤ → ℤ → ℤ
l_sub_of a b = clamp32 (a -ℤ b)

-- L_mult: twice the product of two words
unfoldable pub l_mult_of : ℤ → ℤ → ℤ
l_mult_of a b = clamp32 (a *ℤ b *ℤ pos 2)

-- norm: the number of left shifts that bring v to 2^30 or above, which is the number of shifts by 0 to 29 that leave v
-- below 2^30
unfoldable pub norm_of : ℕ → ℕ
norm_of v = count_by (λ k. nat_lt (v * 2 ^ k) (2 ^ 30)) (range_with_len 0 30)

-- the number at place i of a list, or 0 after its end
abbrev pub entry : List ℤ → ℕ → ℤ
entry xs i = slice_index_or xs i (pos 0)

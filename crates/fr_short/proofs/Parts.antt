-- The four parts of a frame.
use Rattle.std.proofs.Common.{◌≡◌, ℕ, ℤ, ◌+◌, ◌<◌, ◌≤◌, nat_lt, if◌then◌else◌, arith}
use Rattle.fr_short.specs.Reflection.{part_of, part_start}

-- a sample from the start of a part to that of the next lies in that part
pub in_part : (p k : ℕ) → p < 4 → part_start p ≤ k → k < part_start (p + 1) → part_of k ≡ p
unfolding part_of part_start
in_part p k l low high = grind arith

-- the parts follow one another
pub parts_follow : (p : ℕ) → p < 4 → part_start p ≤ part_start (p + 1)
unfolding part_start
parts_follow p l = grind arith

-- the last part ends with the frame
pub frame_ends : (p : ℕ) → 4 ≤ p → part_start p ≡ 160
unfolding part_start
frame_ends p l = grind arith

-- there are four parts
pub part_within : (k : ℕ) → part_of k < 4
unfolding part_of
part_within k = grind arith

-- the first three parts are the first 40 samples
pub front_ends : (p : ℕ) → p < 3 → part_start (p + 1) ≤ 40
unfolding part_start
front_ends p l = grind arith

-- from sample 40 on it is the last part
pub rest_is_last : (k : ℕ) → 40 ≤ k → part_of k ≡ 3
unfolding part_of
rest_is_last k l = grind arith

-- a number for each of the first three parts, written part by part
pub by_parts : (g : ℕ → ℤ) (k : ℕ) (x0 x1 x2 x3 : ℤ) → k < 40 →
    (k < part_start 1 → x1 ≡ (if nat_lt k (part_start 0) then x0 else g 0)) →
    (k < part_start 2 → x2 ≡ (if nat_lt k (part_start 1) then x1 else g 1)) →
    (k < part_start 3 → x3 ≡ (if nat_lt k (part_start 2) then x2 else g 2)) →
    x3 ≡ g (part_of k)
unfolding part_of part_start
by_parts g k x0 x1 x2 x3 l a b c = grind arith

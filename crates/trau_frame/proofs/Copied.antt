-- A part of a list that is copied as a whole.
use Rattle.std.proofs.Common.{◌≡◌, ℕ, ◌+◌, ◌<◌, ◌≤◌, List, length, get_or, arith, rules, slice_range}
use Rattle.std.proofs.lemmas.List.{places}
use Rattle.std.proofs.lemmas.Grind.{elements}
use borrow.Rule.Slice.PartMut.{put_mid}

pub get_or-part : (xs : List ℕ) (b n j : ℕ) → b + n ≤ length xs → j < n → get_or (slice_range xs b (b + n)) j 0 ≡ get_or xs (b + j) 0
get_or-part xs b n j h l = grind (arith, elements)

-- after `ys` was put into the place of the k elements from a on
pub get_or-put_mid_below : (a k : ℕ) (xs ys : List ℕ) (i : ℕ) → i < a → a ≤ length xs → get_or (put_mid a k xs ys) i 0 ≡ get_or xs i 0
get_or-put_mid_below a k xs ys i h l = search (rules, places)

pub get_or-put_mid : (a k : ℕ) (xs ys : List ℕ) (j : ℕ) → a ≤ length xs → j < length ys → get_or (put_mid a k xs ys) (a + j) 0 ≡ get_or ys j 0
get_or-put_mid a k xs ys j h l = search (rules, places)

pub length-put_mid : (a k : ℕ) (xs ys : List ℕ) → a + k ≤ length xs → length ys ≡ k → length (put_mid a k xs ys) ≡ length xs
length-put_mid a k xs ys h l = search (rules, places)

-- For crates above: a saturated number, sum or difference is a word (`clamp_word`, `add_word`, `sub_word`).
use Rattle.std.proofs.Common.{ℤ, ◌+ℤ◌, ◌-ℤ◌, FitsSigned, w16, arith}
use Rattle.std.proofs.lemmas.Int.{ints}
use Rattle.trau_num.specs.Num.{clamp16, add_of, sub_of}

pub clamp_word : (z : ℤ) → FitsSigned w16 (clamp16 z)
clamp_word z = grind (arith, ints)

pub add_word : (x y : ℤ) → FitsSigned w16 (add_of x y)
unfolding add_of
add_word x y = clamp_word (x +ℤ y)

pub sub_word : (x y : ℤ) → FitsSigned w16 (sub_of x y)
unfolding sub_of
sub_word x y = clamp_word (x -ℤ y)

use Rattle.std.proofs.Common.{ℕ, zero, suc, ◌<◌, ◌≤◌, ℤ, pos, unsigned_abs, get_or, replicate, ◌∷◌, arith, sym, subst}
use Rattle.std.proofs.lemmas.Int.{ints}
use Rattle.std.proofs.lemmas.Simd.{get_or-replicate}
use Rattle.codec_tests.proofs.fr_long_tests.unit.Goals as goal

small : (k : ℕ) → k < 40 → unsigned_abs (get_or (pos 1 ∷ replicate 39 (pos 0)) k (pos 0)) ≤ 512
small zero b = omega (arith, ints)
small (suc k) b = subst (λ x. unsigned_abs x ≤ 512) (sym (get_or-replicate 39 k (pos 0) (pos 0) (omega arith))) (omega (arith, ints))

pub returns : goal.returns
returns c = small

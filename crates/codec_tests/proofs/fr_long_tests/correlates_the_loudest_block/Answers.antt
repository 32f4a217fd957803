use Rattle.std.proofs.Common.{◌≤◌, ℤ, pos, negsuc, unsigned_abs, arith, sym, subst}
use Rattle.std.proofs.lemmas.Int.{ints}
use Rattle.std.proofs.lemmas.Simd.{get_or-replicate}
use Rattle.codec_tests.proofs.fr_long_tests.correlates_the_loudest_block.Goals as goal

pub correlate-requires : goal.correlate-requires
correlate-requires g c = λ k b. subst (λ x. unsigned_abs x ≤ 512) (sym (get_or-replicate 40 k (negsuc 511) (pos 0) b)) (omega (arith, ints))

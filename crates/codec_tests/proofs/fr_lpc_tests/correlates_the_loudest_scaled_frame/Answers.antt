use Rattle.std.proofs.Common.{◌≤◌, ℤ, pos, unsigned_abs, arith, sym, subst}
use Rattle.std.proofs.lemmas.Int.{ints}
use Rattle.std.proofs.lemmas.Simd.{get_or-replicate}
use Rattle.codec_tests.proofs.fr_lpc_tests.correlates_the_loudest_scaled_frame.Goals as goal

pub autocorrelate-acf-requires : goal.autocorrelate-acf-requires
autocorrelate-acf-requires g c = λ i b. subst (λ x. unsigned_abs x ≤ 2048) (sym (get_or-replicate 160 i (pos 2048) (pos 0) b)) (omega (arith, ints))

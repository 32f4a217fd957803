-- Which silence descriptors of a pause are sent.
use Rattle.std.proofs.Common.{◌≡◌, ℕ, zero, suc, ◌+◌, refl, ap, ◌∙◌, arith}
use Rattle.std.specs.Prelude.{◌%◌, ◌==◌, Some}
use Rattle.call_coders.specs.declared.coders.DownKind.TheVariants.{Descriptor}
use Rattle.rtp_call.specs.Sending.{descriptor_periods, is_descriptor_sent, is_sent, pause_after, pause_of}

next : (n : ℕ) → ((n % 24) % 24 + 1) % 24 ≡ suc n % 24
next n = omega (arith)

counted : (n : ℕ) → pause_of (suc n) ≡ Some (n % 24)
counted zero = refl
counted (suc n) = ap (pause_after Descriptor) (counted n) ∙ ap (λ (k : ℕ). Some k) (next n)

pub one_in_24 : (n : ℕ) → is_sent Descriptor (pause_of n) ≡ (n % descriptor_periods == 0)
one_in_24 n = ap is_descriptor_sent (counted n)

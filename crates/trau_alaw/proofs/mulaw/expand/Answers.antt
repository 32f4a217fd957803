use Rattle.std.proofs.Common.{◌≡◌, ℕ, ◌/◌, ◌%◌, ◌<◌, ◌≤◌, bit_xor, pos, neg_ℤ, ap, ◌∙◌, arith}
use Rattle.std.proofs.lemmas.Int.{ints}
use Rattle.std.proofs.lemmas.Bool.{lt-ltb, le-ltb}
use Rattle.trau_alaw.specs.Companding.{middle}
use Rattle.trau_alaw.specs.Mulaw.{mulaw, mulaw_centre}
use Rattle.trau_alaw.proofs.mulaw.expand.Goals as goal

middle-positive : (octet k : ℕ) → bit_xor octet 255 < 128 →
    k ≡ mulaw_centre (bit_xor octet 255 / 16 % 8) (bit_xor octet 255 % 16) → pos k ≡ middle (mulaw octet)
unfolding mulaw
middle-positive octet k l e = rw (lt-ltb _ _ l) (ap pos e)

middle-negative : (octet k : ℕ) → 128 ≤ bit_xor octet 255 →
    k ≡ mulaw_centre (bit_xor octet 255 / 16 % 8) (bit_xor octet 255 % 16) → neg_ℤ (pos k) ≡ middle (mulaw octet)
unfolding mulaw
middle-negative octet k l e = rw (le-ltb _ _ l) (ap (λ n. neg_ℤ (pos n)) e)

pub returns-then-code-lt128 : goal.returns-then-code-lt128
returns-then-code-lt128 c =
    (omega (arith, ints, c.cast_signed-magnitude.ensures, c.centre_of.ensures.below)) ∙
    middle-positive c.args.octet c.centre_of.result c.if-code-lt128.true c.centre_of.ensures.value

pub returns-else-code-lt128 : goal.returns-else-code-lt128
returns-else-code-lt128 c =
    (omega (arith, ints, c.cast_signed-magnitude.ensures, c.centre_of.ensures.below)) ∙
    middle-negative c.args.octet c.centre_of.result c.if-code-lt128.false c.centre_of.ensures.value

use Rattle.std.proofs.Common.{◌≡◌, ℕ, ◌+◌, ◌/◌, ◌%◌, ◌<◌, ◌≤◌, bit_xor, pos, neg_ℤ, ap, ◌∙◌, arith}
use Rattle.std.proofs.lemmas.Int.{ints}
use Rattle.std.proofs.lemmas.Bool.{le-leb, lt-leb}
use Rattle.trau_alaw.specs.Companding.{middle}
use Rattle.trau_alaw.specs.Alaw.{alaw, alaw_least, alaw_width}
use Rattle.trau_alaw.proofs.expand.Goals as goal

middle-negative : (octet k : ℕ) → bit_xor octet 85 < 128 →
    k ≡ alaw_least (bit_xor octet 85 / 16 % 8) (bit_xor octet 85 % 16) + alaw_width (bit_xor octet 85 / 16 % 8) / 2 →
    neg_ℤ (pos k) ≡ middle (alaw octet)
unfolding alaw
middle-negative octet k l e = rw (lt-leb 128 (bit_xor octet 85) l) (ap (λ n. neg_ℤ (pos n)) e)

middle-positive : (octet k : ℕ) → 128 ≤ bit_xor octet 85 →
    k ≡ alaw_least (bit_xor octet 85 / 16 % 8) (bit_xor octet 85 % 16) + alaw_width (bit_xor octet 85 / 16 % 8) / 2 →
    pos k ≡ middle (alaw octet)
unfolding alaw
middle-positive octet k l e = rw (le-leb 128 (bit_xor octet 85) l) (ap pos e)

pub returns-then-code-lt128 : goal.returns-then-code-lt128
returns-then-code-lt128 c =
    (omega (arith, ints, c.cast_signed-magnitude.ensures, c.middle_of.ensures.below)) ∙
    middle-negative c.args.octet c.middle_of.result c.if-code-lt128.true c.middle_of.ensures.value

pub returns-else-code-lt128 : goal.returns-else-code-lt128
returns-else-code-lt128 c =
    (omega (arith, ints, c.cast_signed-magnitude.ensures, c.middle_of.ensures.below)) ∙
    middle-positive c.args.octet c.middle_of.result c.if-code-lt128.false c.middle_of.ensures.value

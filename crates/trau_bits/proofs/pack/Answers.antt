use Rattle.std.proofs.Common.{◌≡◌, length, ap, ◌∙◌, arith}
use Rattle.trau_bits.specs.Bits.{bits_of}
use Rattle.trau_bits.proofs.Octets.{filled_octets, bits_of-octets_of}
use Rattle.trau_bits.proofs.pack.Goals as goal

pub returns-clause-bits : goal.returns-clause-bits
returns-clause-bits c =
    let count : length c.loop-k.bytes ≡ length c.args.bytes.now = omega arith in
    ap bits_of (filled_octets c.args.bits.now c.loop-k.bytes (omega arith) (λ k h. c.loop-k.invariant k (omega arith))) ∙
    bits_of-octets_of c.args.bits.now (length c.args.bytes.now) c.requires.count c.requires.bits

pub returns-clause-octets : goal.returns-clause-octets
returns-clause-octets c =
    filled_octets c.args.bits.now c.loop-k.bytes (omega arith) (λ k h. c.loop-k.invariant k (omega arith))

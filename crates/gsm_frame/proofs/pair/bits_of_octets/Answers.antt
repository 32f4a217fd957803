use Rattle.std.proofs.Common.{◌≡◌, ◌*◌, length, sym, ap, subst, ◌∙◌, arith, rules, refl}
use Rattle.std.proofs.lemmas.List.{take_all}
use Rattle.trau_bits.specs.Bits.{AreBits}
use Rattle.gsm_frame.specs.Pair.{bits_of_pair}
use Rattle.gsm_frame.proofs.PairBits.{written, AreBits-bits_of_pair}
use Rattle.gsm_frame.proofs.pair.bits_of_octets.Goals as goal

pub loop-k-init : goal.loop-k-init
loop-k-init c = record { long = search rules; bits = refl }

pub loop-k-preserved : goal.loop-k-preserved
loop-k-preserved c =
    let long : length c.args.octets.now ≡ 65 = search rules in
    record {
      long = search rules;
      bits = written _ _ c.args.octets.now c.loop-k.k (omega arith) c.loop-k.invariant.bits c.put_octet.ensures;
    }

pub returns-clause-value : goal.returns-clause-value
returns-clause-value c =
    let n : length c.args.octets.now ≡ 65 = search rules in
    let long = c.loop-k.invariant.long in
    sym (take_all (8 * c.loop-k.k) c.loop-k.bits (omega arith)) ∙ c.loop-k.invariant.bits ∙
    ap bits_of_pair (take_all c.loop-k.k c.args.octets.now (omega arith))

pub returns-clause-bits : goal.returns-clause-bits
returns-clause-bits c = subst AreBits (sym (returns-clause-value c)) (AreBits-bits_of_pair c.args.octets.now)

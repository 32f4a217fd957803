use Rattle.std.proofs.Common.{◌≡◌, ◌*◌, length, sym, ap, ◌∙◌, arith, rules, refl}
use Rattle.std.proofs.lemmas.List.{take_all}
use Rattle.gsm_frame.specs.Pair.{bits_of_pair}
use Rattle.gsm_frame.proofs.PairBits.{read}
use Rattle.gsm_frame.proofs.pair.octets_of_bits.Goals as goal

pub loop-k-init : goal.loop-k-init
loop-k-init c = record { long = search rules; bits = refl }

pub loop-k-preserved : goal.loop-k-preserved
loop-k-preserved c =
    let long = c.loop-k.invariant.long in
    record {
      long = search rules;
      bits = read c.args.bits.now c.loop-k.octets c.loop-k.k _ (omega arith) c.loop-k.invariant.bits c.octet_at.ensures;
    }

pub returns : goal.returns
returns c =
    let n : length c.args.bits.now ≡ 520 = search rules in
    let long = c.loop-k.invariant.long in
    ap bits_of_pair (sym (take_all c.loop-k.k c.loop-k.octets (omega arith))) ∙ sym c.loop-k.invariant.bits ∙
    take_all (8 * c.loop-k.k) c.args.bits.now (omega arith)

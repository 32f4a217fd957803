use Rattle.std.proofs.Common.{◌<◌, sym, subst, ◌∙◌}
use Rattle.std.proofs.lemmas.List.Elements.{All-append}
use Rattle.trau_bits.specs.Bits.{AreBits}
use Rattle.gsm_frame.proofs.PairBits.{append_both}
use Rattle.gsm_frame.proofs.pair.pack_pair.Goals as goal

pub octets_of_bits-requires : goal.octets_of_bits-requires
octets_of_bits-requires c =
    subst AreBits (sym c.joined.ensures) (All-append (λ bit. bit < 2) _ _ c.to_bits.ensures.bits c.to_bits-2.ensures.bits)

pub returns : goal.returns
returns c = c.octets_of_bits.ensures ∙ c.joined.ensures ∙ append_both _ _ _ _ c.to_bits.ensures.value c.to_bits-2.ensures.value

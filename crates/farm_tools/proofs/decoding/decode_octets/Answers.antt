use Rattle.std.proofs.Common.{◌∷◌, ◌∙◌, ap, map, subst}
use Rattle.trau_alaw.specs.Alaw.{alaw}
use Rattle.trau_alaw.specs.Companding.{octet_of}
use Rattle.fr_decoder.specs.Decoded.{samples_of}
use Rattle.fr_decoder.specs.Stands.{Stands}
use Rattle.farm_tools.proofs.Making.{compressed-alaw}
use Rattle.farm_tools.proofs.decoding.decode_octets.Goals as goal

pub returns-clause-history : goal.returns-clause-history
returns-clause-history c = λ past stands.
    let fields = c.from_bits.ensures.fields in
    let one = c.decode.ensures.history past stands in (
      subst (λ f. Stands (f ∷ past) c.decode.new.self) fields one.0,
      c.compress_all.ensures ∙ compressed-alaw c.decode.new.x ∙ ap (map (octet_of alaw)) (one.1 ∙ ap (λ f. samples_of f past) fields),
    )

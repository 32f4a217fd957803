use Rattle.std.proofs.Common.{◌≡◌, ◌≢◌, ◌∷◌, ◌∙◌, length, ap, subst}
use Rattle.std.specs.Array.{IsWholeChunk}
use Rattle.std.proofs.lemmas.Option.{MatchOption-at_some}
use Rattle.fr_encoder.specs.Encoded.{encoded_of, encoding_of}
use Rattle.fr_encoder.specs.Stands.{Stands}
use Rattle.farm_tools.specs.Made.{frame_of_encoded}
use Rattle.farm_tools.proofs.Making.{coded_frame-bits, expanded-block}
use Rattle.farm_tools.proofs.encoding.encode_frame.Goals as goal

pub returns-clause-history : goal.returns-clause-history
returns-clause-history c = λ past stands.
    let period = (MatchOption-at_some (length c.args.block.now ≢ 160) (λ y. IsWholeChunk c.args.block.now y.now 160) c.unwrap-period.result
    c.unwrap-period.ensures c.as_array.ensures.cases).same in
    let samples = c.expand_all.ensures ∙ expanded-block c.unwrap-period.result.now c.args.block.now period in
    let one = c.encode.ensures.history past stands in (
      subst (λ x. Stands (x ∷ past) c.encode.new.self) samples one.0,
      c.pack_frame.ensures.octets
          ∙ coded_frame-bits c.encode.result.0 c.encode.result.1 c.encode.result.2 c.to_bits.new.bits c.to_bits.ensures.value
          ∙ ap frame_of_encoded (subst (λ x. encoded_of c.encode.result.0 c.encode.result.1 c.encode.result.2 ≡ encoding_of x past) samples one.1),
    )

use Rattle.std.proofs.Common.{sym, ◌∙◌, ap}
use Rattle.fr_encoder.specs.Encoded.{Encoded}
use Rattle.fr_encoder.specs.Memory.{EncoderMemory}
use Rattle.trau_c.proofs.encoder.trau_fr_encode.Goals as goal

pub returns-clause-fields : goal.returns-clause-fields
returns-clause-fields c = ap (λ (r : Encoded × EncoderMemory). r.0.fields) c.encode-peak.ensures.step ∙ sym c.of.ensures.fields

pub returns-clause-memory : goal.returns-clause-memory
returns-clause-memory c = ap (λ (r : Encoded × EncoderMemory). r.1) c.encode-peak.ensures.step

pub returns-clause-history : goal.returns-clause-history
returns-clause-history c = λ past h.
    let next = c.encode-peak.ensures.history past h in
    (next.0, c.of.ensures.fields ∙ ap (λ (e : Encoded). e.fields) next.1)

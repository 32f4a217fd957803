-- A frame that is decoded from its 33 octets.
use Rattle.std.specs.Prelude.{◌≡◌, ℕ, ℤ, List, ◌∷◌}
use Rattle.trau_params.specs.declared.params.Params.{Params}
use Rattle.trau_params.specs.Fields.{Fields, fields_of}
use Rattle.gsm_frame.specs.Packed.{Carries}
use Rattle.fr_decoder.specs.Decoded.{samples_of}
use Rattle.fr_decoder.specs.Memory.{DecoderMemory}
use Rattle.fr_decoder.specs.Stands.{Stands}
use Rattle.fr_decoder.specs.Step.{decoded_frame}

-- The octets carry a frame, and the samples x and the memory `after` are those of the decoder with the memory `before`
-- and this frame. After the frames of any past, its samples are those of the decoded list.
pub record DecodedOctets (octets : List ℕ) (before : DecoderMemory) (x : List ℤ) (after : DecoderMemory) : Type 0 where
  pub frame : Params
  pub carried : Carries octets (fields_of frame)
  pub step : decoded_frame before (fields_of frame) ≡ (x, after)
  pub history : (past : List Fields) → Stands past before → Stands (fields_of frame ∷ past) after × (x ≡ samples_of (fields_of frame) past)

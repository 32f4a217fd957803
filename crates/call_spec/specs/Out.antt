-- The Out line of a whole call: its uplink, decoded (GSM 06.10; when nothing is decoded is this project's profile). All
-- lists have the oldest first.
use Rattle.std.specs.Prelude.{ℕ, Bool, not, ◌&&◌, if◌then◌else◌, Option, Some, None, is_some, option_to_list, List, [], ◌∷◌, map}
use Rattle.std.specs.List.{flat_map}
use Rattle.trau_alaw.specs.declared.Law.{Law}
use Rattle.trau_alaw.specs.Period.{compressed}
use Rattle.trau_params.specs.Fields.{Fields}
use Rattle.fr_decoder.specs.Decoded.{decoded}
use Rattle.rx_handler.specs.Origin.{EffectiveFields, Quiet, Speech, Made}
use Rattle.call_leg.specs.Out.{idle_octets}
use Rattle.call_spec.specs.Stretches.{stretches}
use Rattle.call_spec.specs.Call.{Call, each_period, effective_frame, item_at, starts_at}

-- the parameters of an effective frame, unless it is quiet
abbrev pub parameters_of : EffectiveFields → Option Fields
parameters_of Quiet = None
parameters_of (Speech p) = Some p
parameters_of (Made p) = Some p

-- What is decoded in a period: the parameters of its effective frame, if it is plain (not quiet, and in no span); and
-- whether a span starts at it.
pub record Decoding : Type 0 where
  pub parameters : Option Fields
  pub starts : Bool

abbrev pub decoding_at : Call → ℕ → Decoding
decoding_at call k = record {
  parameters = if is_some (item_at call.spans k) then None else parameters_of (effective_frame call k);
  starts = starts_at call.spans k;
}

-- a plain stretch continues from a plain period to a plain one at which no span starts
abbrev pub plain_goes_on : Decoding → Decoding → Bool
plain_goes_on a b = is_some a.parameters && is_some b.parameters && not b.starts

-- the octets, by this law, of a plain stretch, decoded from the reset state over all its parameters; idle octets for a
-- period that isn't plain
abbrev pub plain_octets : Law → List Fields → List ℕ
plain_octets law [] = idle_octets law
plain_octets law (p ∷ ps) = compressed law (decoded (p ∷ ps))

-- the parameters of a stretch; a period that isn't plain has none
abbrev pub parameters_in : List Decoding → List Fields
parameters_in stretch = flat_map (λ a. option_to_list a.parameters) stretch

abbrev pub stretch_octets : Law → List Decoding → List ℕ
stretch_octets law stretch = plain_octets law (parameters_in stretch)

-- the whole Out line
abbrev pub out : Call → List ℕ
out call = flat_map (stretch_octets call.who.law) (stretches plain_goes_on (map (decoding_at call) (each_period call)))

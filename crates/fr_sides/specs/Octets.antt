-- What a period brings and gives by frames of 33 octets (RFC 3551, section 4.5.8.1).
use Rattle.std.specs.Prelude.{◌≡◌, ℕ, ℤ, ◌/◌, Bool, not, if◌then◌else◌, ◌==◌, Option, Some, None, option_map, List, ◌∷◌, slice_index}
use Rattle.trau_params.specs.declared.params.Params.{Params}
use Rattle.trau_params.specs.Fields.{Fields, fields_of}
use Rattle.trau_params.specs.Shape.{HasShape}
use Rattle.gsm_frame.specs.Packed.{magic, Carries}
use Rattle.rx_handler.specs.Heard.{Heard, Good, Sid, Idle, Lost}
use Rattle.rx_handler.specs.Origin.{EffectiveFields, is_quiet, handed_fields}
use Rattle.rx_handler.specs.Step.{received}
use Rattle.fr_sides.specs.Memory.{ReceiverMemory}
use Rattle.fr_sides.specs.Receiving.{ReceiverPeriod, turned, turned_in_bridge, decoded_period, handed_period, effective_now, samples_now, ReceiverStands}

-- what is heard in a period whose octets carry this frame, or none; `taf`: a silence descriptor was due
abbrev pub heard_if : (Fields → Heard) → Bool → Option Fields → Heard
heard_if f taf None = Lost taf
heard_if f taf (Some p) = f p

-- the same by the period's kind: 0 speech, 1 a silence descriptor, 3 an idle frame; any other is lost
abbrev pub heard_by : ℕ → Bool → Option Fields → Heard
heard_by kind taf frame =
    if kind == 0 then heard_if Good taf frame
    else if kind == 1 then heard_if Sid taf frame
    else if kind == 3 then Idle
    else Lost taf

-- the octets carry this frame, or none, if they don't begin with the four bits 1101
abbrev pub CarriesIf : List ℕ → Option Params → Type 0
CarriesIf octets None = slice_index octets 0 / 16 ≡ magic → ⊥
CarriesIf octets (Some p) = Carries octets (fields_of p) × HasShape p

-- the octets carry the frame with these fields
pub record CarriesFrame (octets : List ℕ) (f : Fields) : Type 0 where
  pub frame : Params
  pub carried : CarriesIf octets (Some frame)
  pub same : fields_of frame ≡ f

-- what is heard in a period of this kind with these octets
pub record HeardIn (kind : ℕ) (taf : Bool) (octets : List ℕ) (y : Heard) : Type 0 where
  pub frame : Option Params
  pub carried : CarriesIf octets frame
  pub heard : y ≡ heard_by kind taf (option_map fields_of frame)

-- The samples x and the memory `after` are those of a period of this kind with these octets and the memory `before`,
-- and `sounds` says whether the call isn't quiet. After any past they are those of the past with this period.
pub record ReceivedOctets (kind : ℕ) (taf : Bool) (octets : List ℕ) (before : ReceiverMemory) (x : List ℤ) (after : ReceiverMemory) (sounds : Bool) : Type 0 where
  pub heard : Heard
  pub brought : HeardIn kind taf octets heard
  pub step : turned before heard ≡ (x, after)
  pub answer : sounds ≡ not (is_quiet (received before.rx heard).0)
  pub history : (seed : ℕ) (past : List ReceiverPeriod) → ReceiverStands seed past before →
      ReceiverStands seed (decoded_period heard ∷ past) after × (x ≡ samples_now seed (decoded_period heard ∷ past))
      × (sounds ≡ not (is_quiet (effective_now seed (decoded_period heard ∷ past))))

-- the same in a bridge: the octets `out` carry the effective frame that is handed over, silence if the call is quiet
pub record HandedOctets (kind : ℕ) (taf : Bool) (octets : List ℕ) (before : ReceiverMemory) (out : List ℕ) (after : ReceiverMemory) (sounds : Bool) : Type 0 where
  pub heard : Heard
  pub brought : HeardIn kind taf octets heard
  pub effective : EffectiveFields
  pub step : turned_in_bridge before heard ≡ (effective, after)
  pub carried : CarriesFrame out (handed_fields effective)
  pub answer : sounds ≡ not (is_quiet effective)
  pub history : (seed : ℕ) (past : List ReceiverPeriod) → ReceiverStands seed past before →
      ReceiverStands seed (handed_period heard ∷ past) after × (effective ≡ effective_now seed (handed_period heard ∷ past))

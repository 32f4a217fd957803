-- For crates above: an uplink frame that is written is heard as it was given (`heard-written`).
-- What is heard in an uplink frame.
use Rattle.std.proofs.Common.{◌≡◌, ℕ, ◌<◌, ◌==◌, zero, suc, Bool, false, ◌/◌, ◌↔◌, Option, Some, None, option_map, IfSome, IsSome, List, refl, ap, arith, rules}
use Rattle.std.specs.Prelude.{slice_index}
use Rattle.std.proofs.lemmas.Bool.{ne_eqb}
use Rattle.trau_params.specs.declared.params.Params.{Params}
use Rattle.trau_params.specs.Fields.{Fields, fields_of, fields_in}
use Rattle.trau_params.specs.Bits260.{bits260, bits260_of}
use Rattle.trau_params.specs.Shape.{HasShape}
use Rattle.trau_params.proofs.FieldsRead.{fields_in-bits260_of}
use Rattle.trau_frame.specs.declared.frames.Kind.{Kind}
use Rattle.trau_frame.specs.declared.frames.Kind.TheVariants.{Speech, Idle, Other}
use Rattle.trau_frame.specs.declared.frames.Class.{Class}
use Rattle.trau_frame.specs.declared.frames.Class.TheVariants.{Good, Sid, InvalidSid, Unusable}
use Rattle.trau_frame.specs.UpBits.{FitsKind}
use Rattle.rx_handler.specs.Heard as heard
use Rattle.rx_handler.specs.Heard.{heard_frame}
use Rattle.gsm_frame.specs.Packed.{magic, Carries}
use Rattle.fr_sides.specs.Octets.{heard_by, CarriesIf}
use Rattle.fr_sides.specs.Uplink.{up_kind, up_class, up_data, kind_heard, taf_heard}

-- what is read of it is heard as the frame is
pub heard-read : (kind : Kind) (class : Class) (taf : Bool) (d : List ℕ) →
    heard_frame kind class taf d ≡ heard_by (kind_heard kind class) (taf_heard kind class taf) (Some (fields_in d))
heard-read Speech Good taf d = refl
heard-read Speech Sid taf d = refl
heard-read Speech InvalidSid taf d = refl
heard-read Speech Unusable taf d = refl
heard-read Idle class taf d = refl
heard-read Other class taf d = refl

-- D1 to D260 carry the frame
pub data-carried : (p : Params) → HasShape p → fields_in (bits260 (fields_of p)) ≡ fields_of p
unfolding bits260_of
data-carried p shape = fields_in-bits260_of p shape

pub is-other : (k j : ℕ) → j < 4 → (suc (suc (suc (suc k))) == j) ≡ false
is-other k j below = ne_eqb _ j (omega arith)

-- the class of a frame fits its kind
pub fits-kind : (kind : ℕ) (given : Option Fields) → FitsKind (up_kind kind) (up_class kind given)
fits-kind zero given = tt {0}
fits-kind (suc zero) given = tt {0}
fits-kind (suc (suc zero)) given = tt {0}
fits-kind (suc (suc (suc zero))) None = refl
fits-kind (suc (suc (suc zero))) (Some p) = refl
fits-kind (suc (suc (suc (suc k)))) given = rw (is-other k 3 (omega arith)) (tt {0})

-- what is written is heard as the frame is
pub heard-written : (kind : ℕ) (taf : Bool) (given : Option Params) → IfSome given (λ p. HasShape p) →
    heard_frame (up_kind kind) (up_class kind (option_map fields_of given)) taf (up_data kind (option_map fields_of given))
    ≡ heard_by kind taf (option_map fields_of given)
heard-written zero taf None shape = refl
heard-written zero taf (Some p) shape = ap heard.Good (data-carried p shape)
heard-written (suc zero) taf None shape = refl
heard-written (suc zero) taf (Some p) shape = ap heard.Sid (data-carried p shape)
heard-written (suc (suc zero)) taf None shape = refl
heard-written (suc (suc zero)) taf (Some p) shape = refl
heard-written (suc (suc (suc zero))) taf None shape = refl
heard-written (suc (suc (suc zero))) taf (Some p) shape = refl
heard-written (suc (suc (suc (suc k)))) taf None shape = rw (is-other k 0 (omega arith), is-other k 1 (omega arith), is-other k 3 (omega arith)) refl
heard-written (suc (suc (suc (suc k)))) taf (Some p) shape = rw (is-other k 0 (omega arith), is-other k 1 (omega arith), is-other k 3 (omega arith)) refl

-- what unpacking gives is what the octets carry
pub carried-if : (octets : List ℕ) (given : Option Params) → IfSome given (λ p. Carries octets (fields_of p)) → IfSome given (λ p. HasShape p) →
    (IsSome given ↔ (slice_index octets 0 / 16 ≡ magic)) → CarriesIf octets given
carried-if octets None carried shape variant = λ begins. search (rules, variant.1 begins)
carried-if octets (Some p) carried shape variant = (carried, shape)

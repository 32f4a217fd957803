-- What was written in a TRAU frame is read again.
use Rattle.std.proofs.Common.{◌≡◌, ◌≢◌, ℕ, ◌<◌, ◌≤◌, ◌/◌, zero, suc, Bool, Option, Some, None, option_map, List, All, length, refl, ap, subst, ◌∙◌, arith}
use Rattle.std.specs.Prelude.{slice_index}
use Rattle.std.proofs.lemmas.Bool.{ne_eqb}
use Rattle.std.proofs.lemmas.List.{get_or_default}
use Rattle.trau_params.specs.declared.params.Params.{Params}
use Rattle.trau_params.specs.Fields.{Fields, fields_of, fields_in}
use Rattle.trau_params.specs.Bits260.{bits260}
use Rattle.trau_params.specs.Shape.{HasShape}
use Rattle.trau_frame.specs.Role.{Control, bit_with}
use Rattle.trau_frame.specs.Frame.{number_in}
use Rattle.trau_frame.specs.UpFrame.{UpWords}
use Rattle.trau_frame.specs.DownFrame.{down_data, down_bits}
use Rattle.gsm_frame.specs.Packed.{magic, Carries}
use Rattle.gsm_frame.proofs.OneFrame.{one_packing}
use Rattle.fr_sides.specs.Octets.{CarriesIf}
use Rattle.fr_sides.specs.Uplink.{up_kind, up_class, up_data, kind_heard, taf_heard, WrittenUplink, ReadUplink}
use Rattle.fr_sides.specs.Downlink.{down_frame, kind_sent, WrittenDownlink, ReadDownlink}
use Rattle.fr_sides.proofs.Down as down
use Rattle.fr_sides.proofs.Heard.{data-carried, is-other}

-- a frame of 33 octets
pub record AreOctets (octets : List ℕ) : Type 0 where
  pub long : length octets ≡ 33
  pub each : All (λ x. x < 256) octets

abbrev pub Begins : List ℕ → Type 0
Begins octets = slice_index octets 0 / 16 ≡ magic

-- octets that carry the data bits of the frame that others carry are the same octets
same-octets : (frame again : List ℕ) (p : Params) (d : List ℕ) → AreOctets frame → AreOctets again → Carries frame (fields_of p) → HasShape p →
    d ≡ bits260 (fields_of p) → Carries again (fields_in d) → again ≡ frame
same-octets frame again p d f a carried shape is read =
    one_packing (fields_of p) again frame a.long f.long a.each f.each
    (subst (Carries again) (ap fields_in is ∙ data-carried p shape) read) carried

-- ---- uplink

kind-again : (kind : ℕ) (f : Fields) → kind ≤ 3 → kind_heard (up_kind kind) (up_class kind (Some f)) ≡ kind
kind-again zero f below = refl
kind-again (suc zero) f below = refl
kind-again (suc (suc zero)) f below = refl
kind-again (suc (suc (suc zero))) f below = refl
kind-again (suc (suc (suc (suc k)))) f below = absurd (omega arith)

taf-again : (kind : ℕ) (given : Option Fields) (taf : Bool) → taf_heard (up_kind kind) (up_class kind given) taf ≡ taf
taf-again zero None taf = refl
taf-again zero (Some f) taf = refl
taf-again (suc zero) None taf = refl
taf-again (suc zero) (Some f) taf = refl
taf-again (suc (suc zero)) None taf = refl
taf-again (suc (suc zero)) (Some f) taf = refl
taf-again (suc (suc (suc zero))) given taf = refl
taf-again (suc (suc (suc (suc k)))) None taf = rw (is-other k 3 (omega arith)) refl
taf-again (suc (suc (suc (suc k)))) (Some f) taf =
    rw (is-other k 0 (omega arith), is-other k 1 (omega arith), is-other k 3 (omega arith)) refl

pub uplink-kind : (frame octets again : List ℕ) (kind k : ℕ) (taf t : Bool) → WrittenUplink frame kind taf octets → ReadUplink octets k t again →
    Begins frame → kind ≤ 3 → k ≡ kind
uplink-kind frame octets again kind k taf t w r begins below =
    r.kind_is ∙ ap (λ (x : UpWords). kind_heard x.kind x.class) w.says ∙ given-kind w.given w.carried
  where
    given-kind : (o : Option Params) → CarriesIf frame o → kind_heard (up_kind kind) (up_class kind (option_map fields_of o)) ≡ kind
    given-kind None none = absurd (none begins)
    given-kind (Some p) carried = kind-again kind (fields_of p) below

pub uplink-taf : (frame octets again : List ℕ) (kind k : ℕ) (taf t : Bool) → WrittenUplink frame kind taf octets → ReadUplink octets k t again → t ≡ taf
uplink-taf frame octets again kind k taf t w r =
    r.taf_is ∙ ap (λ (x : UpWords). taf_heard x.kind x.class x.taf) w.says ∙ taf-again kind (option_map fields_of w.given) taf

pub uplink-frame : (frame octets again : List ℕ) (kind k : ℕ) (taf t : Bool) → WrittenUplink frame kind taf octets → ReadUplink octets k t again →
    AreOctets frame → AreOctets again → Begins frame → kind ≢ 3 → again ≡ frame
uplink-frame frame octets again kind k taf t w r f a begins other =
    same w.given w.carried (subst (Carries again) (ap (λ (x : UpWords). fields_in x.d) w.says) r.carried)
  where
    same : (o : Option Params) → CarriesIf frame o → Carries again (fields_in (up_data kind (option_map fields_of o))) → again ≡ frame
    same None none read = absurd (none begins)
    same (Some p) carried read =
        same-octets frame again p (up_data kind (Some (fields_of p))) f a carried.0 carried.1 (rw (ne_eqb kind 3 other) refl) read

-- ---- downlink

pub downlink-kind : (frame octets again : List ℕ) (kind k : ℕ) → WrittenDownlink frame kind octets → ReadDownlink octets k again → Begins frame →
    kind ≤ 3 → kind ≢ 2 → k ≡ kind
downlink-kind frame octets again kind k w r begins below other =
    r.kind_is ∙ ap (λ bits. kind_sent (number_in bits 1 5) (bit_with bits (Control 16))) w.bits ∙ given-kind w.given w.carried
  where
    given-kind : (o : Option Params) → CarriesIf frame o →
        kind_sent (number_in (down_bits (down_frame kind (option_map fields_of o))) 1 5) (bit_with (down_bits (down_frame kind (option_map fields_of o))) (Control 16)) ≡ kind
    given-kind None none = absurd (none begins)
    given-kind (Some p) carried = down.kind-again kind (fields_of p) below other

data-below : (kind : ℕ) (f : Fields) → kind ≤ 1 → down_data (down_frame kind (Some f)) ≡ bits260 f
data-below zero f below = refl
data-below (suc zero) f below = refl
data-below (suc (suc k)) f below = absurd (omega arith)

pub downlink-frame : (frame octets again : List ℕ) (kind k : ℕ) → WrittenDownlink frame kind octets → ReadDownlink octets k again → AreOctets frame →
    AreOctets again → Begins frame → kind ≤ 1 → again ≡ frame
downlink-frame frame octets again kind k w r f a begins below =
    same w.given w.carried (subst (Carries again) (ap fields_in w.data_bits) r.carried)
  where
    same : (o : Option Params) → CarriesIf frame o → Carries again (fields_in (down_data (down_frame kind (option_map fields_of o)))) → again ≡ frame
    same None none read = absurd (none begins)
    same (Some p) carried read =
        same-octets frame again p (down_data (down_frame kind (Some (fields_of p)))) f a carried.0 carried.1 (data-below kind (fields_of p) below) read

-- octets by their places
pub are-octets : (octets : List ℕ) → length octets ≡ 33 → ((k : ℕ) → slice_index octets k < 256) → AreOctets octets
are-octets octets long each = record { long = long; each = λ k d below. omega (arith, get_or_default octets k d 0 below, each k) }

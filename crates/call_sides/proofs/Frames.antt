-- The 40 octets of the Down line that a host writes for its frames.
use Rattle.std.proofs.Common.{◌≡◌, refl, ap, ◌∙◌, ℕ, Bool, true, false, Option, Some, None, option_map, List}
use Rattle.trau_bits.specs.Bits.{bits_of}
use Rattle.trau_params.specs.Fields.{Fields, fields_of}
use Rattle.trau_params.specs.Bits260.{bits260}
use Rattle.trau_frame.specs.declared.frames.DownFrame.TheVariants as down
use Rattle.trau_frame.specs.DownFrame.{down_bits}
use Rattle.tx_dtx.specs.Stretch.{Sent}
use Rattle.fr_sides.specs.Octets.{CarriesFrame}
use Rattle.fr_sides.specs.Downlink.{down_frame, WrittenDownlink}
use Rattle.fr_sides.proofs.OneHeard.{same-frame}
use Rattle.call_leg.specs.Down.{speech}
use Rattle.call_sides.specs.Written.{AreOctets33, kind_of_sp}

-- what is written is the frame that the octets carry
given-same : (frame octets : List ℕ) (kind : ℕ) (f : Fields) → AreOctets33 frame → CarriesFrame frame f → WrittenDownlink frame kind octets →
    bits_of octets ≡ down_bits (down_frame kind (Some f))
given-same frame octets kind f o c w =
    w.bits
    ∙ ap (λ (given : Option Fields). down_bits (down_frame kind given)) (same-frame frame w.given (Some c.frame) o.0 o.1 w.carried c.carried)
    ∙ ap (λ f. down_bits (down_frame kind (Some f))) c.same

pub handed-same : (f : Fields) (frame octets : List ℕ) → AreOctets33 frame → CarriesFrame frame f → WrittenDownlink frame 0 octets →
    bits_of octets ≡ down_bits (down.Speech (bits260 f) true)
handed-same f frame octets o c w = given-same frame octets 0 f o c w

pub sent-frame : (s : Sent) (frame octets : List ℕ) → AreOctets33 frame → CarriesFrame frame s.fields → WrittenDownlink frame (kind_of_sp s.sp) octets →
    bits_of octets ≡ down_bits (speech s)
sent-frame s frame octets o c w = given-same frame octets (kind_of_sp s.sp) s.fields o c w ∙ ap down_bits (by_sp s.sp)
  where
    by_sp : (sp : Bool) → down_frame (kind_of_sp sp) (Some s.fields) ≡ down.Speech (bits260 s.fields) sp
    by_sp true = refl
    by_sp false = refl

pub idle-same : (frame octets : List ℕ) → WrittenDownlink frame 3 octets → bits_of octets ≡ down_bits down.Idle
idle-same frame octets w = w.bits ∙ ap down_bits (none (option_map fields_of w.given))
  where
    none : (given : Option Fields) → down_frame 3 given ≡ down.Idle
    none None = refl
    none (Some f) = refl

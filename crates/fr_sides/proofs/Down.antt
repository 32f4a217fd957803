-- The bits of a downlink frame say the frame.
use Rattle.std.proofs.Common.{◌≡◌, ℕ, ◌≤◌, ◌≢◌, zero, suc, Bool, true, false, if◌then◌else◌, Some, List, length, refl, ap, ◌∙◌, arith}
use Rattle.trau_params.specs.Fields.{Fields}
use Rattle.trau_frame.specs.declared.frames.DownFrame.{DownFrame}
use Rattle.trau_frame.specs.declared.frames.DownFrame.TheVariants.{Idle, Speech}
use Rattle.trau_frame.specs.Role.{Control, role_of, place_of_role, bit_with}
use Rattle.trau_frame.specs.Frame.{number_in, data_of, frame_bits}
use Rattle.trau_frame.specs.DownFrame.{down_control, down_data, down_bits}
use Rattle.trau_frame.proofs.Again.{data_of-frame_bits}
use Rattle.fr_sides.specs.Downlink.{down_frame, kind_sent}

pub data-down_bits : (f : DownFrame) → length (down_data f) ≡ 260 → data_of (down_bits f) ≡ down_data f
unfolding down_bits
data-down_bits f long = data_of-frame_bits (down_control f) (down_data f) long

pattern-idle : number_in (down_bits Idle) 1 5 ≡ 14
unfolding number_in place_of_role down_bits frame_bits down_control role_of
pattern-idle = refl

pattern-speech : (d : List ℕ) (sp : Bool) → number_in (down_bits (Speech d sp)) 1 5 ≡ 28
unfolding number_in place_of_role down_bits frame_bits down_control role_of
pattern-speech d sp = refl

sp-speech : (d : List ℕ) (sp : Bool) → bit_with (down_bits (Speech d sp)) (Control 16) ≡ (if sp then 1 else 0)
unfolding place_of_role down_bits frame_bits down_control role_of
sp-speech d true = refl
sp-speech d false = refl

-- the kind that is read
kind_in : List ℕ → ℕ
kind_in bits = kind_sent (number_in bits 1 5) (bit_with bits (Control 16))

kind-speech : (d : List ℕ) (sp : Bool) → kind_in (down_bits (Speech d sp)) ≡ (if sp then 0 else 1)
unfolding kind_in
kind-speech d true = ap (λ n. kind_sent n (bit_with (down_bits (Speech d true)) (Control 16))) (pattern-speech d true) ∙ ap (kind_sent 28) (sp-speech d true)
kind-speech d false = ap (λ n. kind_sent n (bit_with (down_bits (Speech d false)) (Control 16))) (pattern-speech d false) ∙ ap (kind_sent 28) (sp-speech d false)

kind-idle : kind_in (down_bits Idle) ≡ 3
unfolding kind_in
kind-idle = ap (λ n. kind_sent n (bit_with (down_bits Idle) (Control 16))) pattern-idle

pub kind-again : (kind : ℕ) (f : Fields) → kind ≤ 3 → kind ≢ 2 →
    kind_sent (number_in (down_bits (down_frame kind (Some f))) 1 5) (bit_with (down_bits (down_frame kind (Some f))) (Control 16)) ≡ kind
unfolding kind_in
kind-again zero f below other = kind-speech _ true
kind-again (suc zero) f below other = kind-speech _ false
kind-again (suc (suc zero)) f below other = absurd (other refl)
kind-again (suc (suc (suc zero))) f below other = kind-idle
kind-again (suc (suc (suc (suc k)))) f below other = absurd (omega arith)

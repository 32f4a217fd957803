-- What is relayed is told by the frame that was read.
use Rattle.std.proofs.Common.{◌≡◌, ℕ, List, true, length, ap, sym, ◌∙◌}
use Rattle.trau_frame.specs.declared.frames.UpFrame.{UpFrame}
use Rattle.trau_frame.specs.declared.frames.Kind.TheVariants as kinds
use Rattle.trau_frame.specs.declared.frames.Class.TheVariants as classes
use Rattle.trau_frame.specs.declared.frames.DownFrame.TheVariants as frames
use Rattle.trau_frame.specs.Frame.{Synced}
use Rattle.trau_frame.specs.UpFrame.{Says}
use Rattle.trau_frame.specs.DownFrame.{down_bits}
use Rattle.trau_frame.specs.Relay.{IsGoodSpeech, relayed_bits}
use Rattle.trau_frame.proofs.Words.{kind-says, class-says, data-says}

pub is_good_speech : (bits : List ℕ) (f : UpFrame) → length bits ≡ 320 → Synced bits → Says bits f →
    f.kind ≡ kinds.Speech → f.class ≡ classes.Good → IsGoodSpeech bits
is_good_speech bits f count s says kind class = record {
  count = count;
  synced = s;
  kind = sym (kind-says bits f says) ∙ kind;
  class = sym (class-says bits f says) ∙ class;
}

-- and the other way round
pub told_good_speech : (bits : List ℕ) (f : UpFrame) → Says bits f → IsGoodSpeech bits →
    (f.kind ≡ kinds.Speech) × (f.class ≡ classes.Good)
told_good_speech bits f says good = (kind-says bits f says ∙ good.kind, class-says bits f says ∙ good.class)

pub down_bits-relayed : (bits : List ℕ) (f : UpFrame) → Says bits f → down_bits (frames.Speech f.d true) ≡ relayed_bits bits
down_bits-relayed bits f says = ap (λ d. down_bits (frames.Speech d true)) (data-says bits f says)

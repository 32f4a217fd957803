-- The downlink frame that relays an uplink frame without transcoding.
use Rattle.std.specs.Prelude.{◌≡◌, ℕ, true, List, length}
use Rattle.trau_frame.specs.declared.frames.Kind.TheVariants as kinds
use Rattle.trau_frame.specs.declared.frames.Class.TheVariants as classes
use Rattle.trau_frame.specs.declared.frames.DownFrame.TheVariants as frames
use Rattle.trau_frame.specs.Frame.{Synced, data_of}
use Rattle.trau_frame.specs.UpFrame.{kind_of, class_of}
use Rattle.trau_frame.specs.DownFrame.{down_bits}

-- the bits are those of an uplink frame of good speech
pub record IsGoodSpeech (bits : List ℕ) : Type 0 where
  pub count : length bits ≡ 320
  pub synced : Synced bits
  pub kind : kind_of bits ≡ kinds.Speech
  pub class : class_of bits ≡ classes.Good

-- the bits of the downlink speech frame with SP 1 and the same data bits
abbrev pub relayed_bits : List ℕ → List ℕ
relayed_bits bits = down_bits (frames.Speech (data_of bits) true)

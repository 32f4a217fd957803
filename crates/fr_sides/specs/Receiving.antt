-- The receive side of a call (GSM 06.11, GSM 06.12 and GSM 06.31; the numbers are this project's profile): one period,
-- and what it gives after a history. Histories have the newest period first.
use Rattle.std.specs.Prelude.{ℕ, ℤ, pos, Bool, true, false, if◌then◌else◌, List, [], ◌∷◌, map, replicate}
use Rattle.trau_params.specs.Fields.{Fields}
use Rattle.fr_decoder.specs.Memory as decoder
use Rattle.fr_decoder.specs.Step.{decoded_frame}
use Rattle.fr_decoder.specs.Decoded.{samples_of}
use Rattle.fr_decoder.specs.Stands as decoders
use Rattle.rx_handler.specs.Heard.{Heard}
use Rattle.rx_handler.specs.Origin.{EffectiveFields, Quiet, Speech, Made}
use Rattle.rx_handler.specs.Step.{received}
use Rattle.rx_handler.specs.Past.{effective_of}
use Rattle.rx_handler.specs.Stands as rx
use Rattle.fr_sides.specs.Memory.{ReceiverMemory}

-- ---- one period

-- the samples of a quiet period
abbrev pub no_samples : List ℤ
no_samples = replicate 160 (pos 0)

-- by its effective frame: if it is quiet, zeros, and the decoder is reset
abbrev pub played : decoder.DecoderMemory → EffectiveFields → List ℤ × decoder.DecoderMemory
played m Quiet = (no_samples, decoder.home_memory)
played m (Speech p) = decoded_frame m p
played m (Made p) = decoded_frame m p

-- by what is heard in it: its samples, and the memory after it
unfoldable pub turned : ReceiverMemory → Heard → List ℤ × ReceiverMemory
turned m y =
    let heard = received m.rx y in
    let out = played m.decoder heard.0 in
    (out.0, record { rx = heard.1; decoder = out.1 })

-- in a bridge: its effective frame, which is handed over, and the memory after it; the decoder is reset
abbrev pub turned_in_bridge : ReceiverMemory → Heard → EffectiveFields × ReceiverMemory
turned_in_bridge m y = let heard = received m.rx y in (heard.0, record { rx = heard.1; decoder = decoder.home_memory })

-- ---- after a history

-- a period: what is heard in it, and whether its frame is handed over, in a bridge, and not decoded
pub record ReceiverPeriod : Type 0 where
  pub heard : Heard
  pub handed : Bool

abbrev pub decoded_period : Heard → ReceiverPeriod
decoded_period y = record { heard = y; handed = false }

abbrev pub handed_period : Heard → ReceiverPeriod
handed_period y = record { heard = y; handed = true }

-- what is heard in each period
abbrev pub heard_in : List ReceiverPeriod → List Heard
heard_in past = map (λ t. t.heard) past

-- the effective frame of the newest period, from a random source that starts at `seed`
abbrev pub effective_now : ℕ → List ReceiverPeriod → EffectiveFields
effective_now seed past = effective_of seed (heard_in past)

-- the frames that are decoded without a reset: a further one, unless its period is quiet
abbrev pub stretch_with : EffectiveFields → List Fields → List Fields
stretch_with Quiet before = []
stretch_with (Speech p) before = p ∷ before
stretch_with (Made p) before = p ∷ before

-- the same up to the newest period: those since the last period that was quiet or handed over
abbrev pub decoded_stretch : ℕ → List ReceiverPeriod → List Fields
decoded_stretch seed [] = []
decoded_stretch seed (t ∷ past) = if t.handed then [] else stretch_with (effective_now seed (t ∷ past)) (decoded_stretch seed past)

-- the samples of the newest frame of a stretch, decoded from the reset state over the whole stretch; zeros if there is
-- none
abbrev pub stretch_samples : List Fields → List ℤ
stretch_samples [] = no_samples
stretch_samples (p ∷ before) = samples_of p before

-- the 160 samples of the newest period
abbrev pub samples_now : ℕ → List ReceiverPeriod → List ℤ
samples_now seed past = stretch_samples (decoded_stretch seed past)

-- the memory is the one that this history leads to
pub record ReceiverStands (seed : ℕ) (past : List ReceiverPeriod) (m : ReceiverMemory) : Type 0 where
  pub rx : rx.Stands seed (heard_in past) m.rx
  pub decoder : decoders.Stands (decoded_stretch seed past) m.decoder

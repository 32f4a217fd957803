-- The transmit side of a call (GSM 06.10 and GSM 06.31; the numbers are this project's profile): one period, and what
-- is sent after a history. Histories have the newest period first.
use Rattle.std.specs.Prelude.{ℤ, Bool, List, [], ◌∷◌, map}
use Rattle.fr_encoder.specs.Encoded.{encoding_of}
use Rattle.fr_encoder.specs.Step.{encoded_frame}
use Rattle.fr_encoder.specs.Stands as encoder
use Rattle.tx_dtx.specs.Stretch.{Coded, Sent, coded_as}
use Rattle.tx_dtx.specs.Sent.{sent_of}
use Rattle.tx_dtx.specs.Step.{next_sent}
use Rattle.tx_dtx.specs.Stands as tx
use Rattle.fr_sides.specs.Memory.{SenderMemory}

-- a period: its 160 samples, the level that the peak of an active frame reaches, and whether DTX is on
pub record SenderPeriod : Type 0 where
  pub samples : List ℤ
  pub level : ℤ
  pub dtx : Bool

abbrev pub sender_period : List ℤ → ℤ → Bool → SenderPeriod
sender_period x level dtx = record { samples = x; level = level; dtx = dtx }

-- ---- one period: what is sent, and the memory after it

unfoldable pub sent_next : SenderMemory → SenderPeriod → Sent × SenderMemory
sent_next m t =
    let encoded = encoded_frame m.encoder t.samples in
    let sent = next_sent m.tx (coded_as encoded.0 t.level t.dtx) in
    (sent.0, record { encoder = encoded.1; tx = sent.1 })

-- ---- after a history

-- the samples of each period
abbrev pub samples_in : List SenderPeriod → List (List ℤ)
samples_in past = map (λ t. t.samples) past

-- a period, encoded from the reset state after the periods before it
abbrev pub coded_after : SenderPeriod → List SenderPeriod → Coded
coded_after t before = coded_as (encoding_of t.samples (samples_in before)) t.level t.dtx

-- all periods
abbrev pub coded_periods : List SenderPeriod → List Coded
coded_periods [] = []
coded_periods (t ∷ before) = coded_after t before ∷ coded_periods before

-- what is sent in a period after those before it
abbrev pub sent_now : SenderPeriod → List SenderPeriod → Sent
sent_now t before = sent_of (coded_after t before) (coded_periods before)

-- the memory is the one that this history leads to
pub record SenderStands (past : List SenderPeriod) (m : SenderMemory) : Type 0 where
  pub encoder : encoder.Stands (samples_in past) m.encoder
  pub tx : tx.Stands (coded_periods past) m.tx

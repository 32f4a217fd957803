-- A period of the transmit side.
use Rattle.std.proofs.Common.{◌≡◌, ap, ◌∙◌, subst, ℤ, Bool, List, ◌∷◌}
use Rattle.trau_params.specs.declared.params.Params.{Params}
use Rattle.trau_params.specs.declared.trace.Trace.{Trace}
use Rattle.fr_encoder.specs.Encoded.{Encoded, encoded_of}
use Rattle.fr_encoder.specs.Memory.{EncoderMemory}
use Rattle.fr_encoder.specs.Step.{encoded_frame}
use Rattle.fr_encoder.proofs.Frames as encoding
use Rattle.tx_dtx.specs.Stretch.{Coded, Sent, coded_as, coded_frame, sent_frame}
use Rattle.tx_dtx.specs.Memory.{TxMemory}
use Rattle.tx_dtx.specs.Sent.{sent_of}
use Rattle.tx_dtx.specs.Stands as tx
use Rattle.tx_dtx.specs.Step.{next_sent}
use Rattle.tx_dtx.proofs.Sending as sending
use Rattle.fr_sides.specs.Memory.{SenderMemory}
use Rattle.fr_sides.specs.Sending.{SenderPeriod, sender_period, sent_next, samples_in, coded_after, coded_periods, sent_now, SenderStands}

-- one period
pub sent-step : (m : SenderMemory) (x : List ℤ) (level : ℤ) (dtx : Bool) (p q : Params) (t : Trace) (peak : ℤ) (sp : Bool) (e1 : EncoderMemory)
    (t1 : TxMemory) →
    encoded_frame m.encoder x ≡ (encoded_of p t peak, e1) → next_sent m.tx (coded_frame p t peak level dtx) ≡ (sent_frame q sp, t1) →
    sent_next m (sender_period x level dtx) ≡ (sent_frame q sp, record { encoder = e1; tx = t1 })
unfolding sent_next
sent-step m x level dtx p q t peak sp e1 t1 ee es =
    let after : Encoded × EncoderMemory → Sent × SenderMemory = λ e.
    ((next_sent m.tx (coded_as e.0 level dtx)).0, record { encoder = e.1; tx = (next_sent m.tx (coded_as e.0 level dtx)).1 }) in
    let over : Sent × TxMemory → Sent × SenderMemory = λ s. (s.0, record { encoder = e1; tx = s.1 }) in
    ap after ee ∙ ap over es

-- one period, after any past
pub sent-stands : (past : List SenderPeriod) (m : SenderMemory) (t : SenderPeriod) → SenderStands past m →
    SenderStands (t ∷ past) (sent_next m t).1 × ((sent_next m t).0 ≡ sent_now t past)
unfolding sent_next
sent-stands past m t h =
    let coded = encoded_frame m.encoder t.samples in
    let enc = encoding.frame-stands t.samples (samples_in past) m.encoder h.encoder in
    let c : Coded = coded_as coded.0 t.level t.dtx in
    let one : c ≡ coded_after t past = ap (λ z. coded_as z t.level t.dtx) enc.1 in
    let sent = sending.step-stands c (coded_periods past) m.tx h.tx in (
      record { encoder = enc.0; tx = subst (λ z. tx.Stands (z ∷ coded_periods past) (next_sent m.tx c).1) one sent.0 },
      sent.1 ∙ ap (λ z. sent_of z (coded_periods past)) one,
    )

-- the same of what a step gives
pub step-stands : (m after : SenderMemory) (t : SenderPeriod) (s : Sent) → sent_next m t ≡ (s, after) → (past : List SenderPeriod) →
    SenderStands past m → SenderStands (t ∷ past) after × (s ≡ sent_now t past)
step-stands m after t s e past h =
    let P : Sent × SenderMemory → Type 0 = λ r. SenderStands (t ∷ past) r.1 × (r.0 ≡ sent_now t past) in
    subst P e (sent-stands past m t h)

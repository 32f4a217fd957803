-- A period of the receive side.
use Rattle.std.proofs.Common.{◌≡◌, refl, ap, sym, ◌∙◌, subst, not, ℕ, ℤ, List, ◌∷◌}
use Rattle.trau_params.specs.Fields.{Fields}
use Rattle.fr_decoder.specs.Memory.{DecoderMemory, home_memory}
use Rattle.fr_decoder.specs.Stands as decoders
use Rattle.fr_decoder.proofs.Frames as decoding
use Rattle.rx_handler.specs.Heard.{Heard}
use Rattle.rx_handler.specs.Origin.{EffectiveFields, Quiet, Speech, Made, is_quiet}
use Rattle.rx_handler.specs.Memory.{RxMemory}
use Rattle.rx_handler.specs.Step.{received}
use Rattle.rx_handler.proofs.Steps.{received_more}
use Rattle.fr_sides.specs.Memory.{ReceiverMemory}
use Rattle.fr_sides.specs.Receiving.{ReceiverPeriod, decoded_period, handed_period, heard_in, played, turned, turned_in_bridge, stretch_with, decoded_stretch}
use Rattle.fr_sides.specs.Receiving.{stretch_samples, samples_now, effective_now, ReceiverStands}

-- ---- a period that is decoded

pub turned-step : (m : ReceiverMemory) (y : Heard) (e : EffectiveFields) (r1 : RxMemory) (x : List ℤ) (d1 : DecoderMemory) →
    received m.rx y ≡ (e, r1) → played m.decoder e ≡ (x, d1) → turned m y ≡ (x, record { rx = r1; decoder = d1 })
unfolding turned
turned-step m y e r1 x d1 er ep =
    let after : EffectiveFields × RxMemory → List ℤ × ReceiverMemory = λ h.
    ((played m.decoder h.0).0, record { rx = h.1; decoder = (played m.decoder h.0).1 }) in
    let over : List ℤ × DecoderMemory → List ℤ × ReceiverMemory = λ o. (o.0, record { rx = r1; decoder = o.1 }) in
    ap after er ∙ ap over ep

-- what is played, after any stretch
played-stands : (e : EffectiveFields) (past : List Fields) (m : DecoderMemory) → decoders.Stands past m →
    decoders.Stands (stretch_with e past) (played m e).1 × ((played m e).0 ≡ stretch_samples (stretch_with e past))
played-stands Quiet past m h = (decoding.home-stands, refl)
played-stands (Speech p) past m h = decoding.frame-stands p past m h
played-stands (Made p) past m h = decoding.frame-stands p past m h

-- after any past
turned-stands : (seed : ℕ) (past : List ReceiverPeriod) (m : ReceiverMemory) (y : Heard) → ReceiverStands seed past m →
    ReceiverStands seed (decoded_period y ∷ past) (turned m y).1 × ((turned m y).0 ≡ samples_now seed (decoded_period y ∷ past))
unfolding turned
turned-stands seed past m y h =
    let heard = received m.rx y in
    let r = received_more seed (heard_in past) m.rx y heard.0 heard.1 refl h.rx in
    let before = decoded_stretch seed past in
    let p = played-stands heard.0 before m.decoder h.decoder in (
      record { rx = r.0; decoder = subst (λ e. decoders.Stands (stretch_with e before) (played m.decoder heard.0).1) r.1 p.0 },
      p.1 ∙ ap (λ e. stretch_samples (stretch_with e before)) r.1,
    )

-- the same of what a step gives
pub step-stands : (m after : ReceiverMemory) (y : Heard) (x : List ℤ) → turned m y ≡ (x, after) → (seed : ℕ) (past : List ReceiverPeriod) →
    ReceiverStands seed past m → ReceiverStands seed (decoded_period y ∷ past) after × (x ≡ samples_now seed (decoded_period y ∷ past))
step-stands m after y x e seed past h =
    let P : List ℤ × ReceiverMemory → Type 0 = λ t.
    ReceiverStands seed (decoded_period y ∷ past) t.1 × (t.0 ≡ samples_now seed (decoded_period y ∷ past)) in
    subst P e (turned-stands seed past m y h)

-- whether the call isn't quiet
pub sounds-now : (m : ReceiverMemory) (y : Heard) (seed : ℕ) (past : List ReceiverPeriod) → ReceiverStands seed past m →
    not (is_quiet (received m.rx y).0) ≡ not (is_quiet (effective_now seed (decoded_period y ∷ past)))
sounds-now m y seed past h =
    let heard = received m.rx y in
    ap (λ e. not (is_quiet e)) (received_more seed (heard_in past) m.rx y heard.0 heard.1 refl h.rx).1

-- ---- a period in a bridge

pub bridged-step : (m after : ReceiverMemory) (y : Heard) (e : EffectiveFields) → received m.rx y ≡ (e, after.rx) → after.decoder ≡ home_memory →
    turned_in_bridge m y ≡ (e, after)
bridged-step m after y e heard home =
    ap (λ h. (h.0, record { rx = h.1; decoder = home_memory })) heard ∙ ap (λ d. (e, record { rx = after.rx; decoder = d })) (sym home)

bridged-stands : (seed : ℕ) (past : List ReceiverPeriod) (m : ReceiverMemory) (y : Heard) → ReceiverStands seed past m →
    ReceiverStands seed (handed_period y ∷ past) (turned_in_bridge m y).1 × ((turned_in_bridge m y).0 ≡ effective_now seed (handed_period y ∷ past))
bridged-stands seed past m y h =
    let heard = received m.rx y in
    let r = received_more seed (heard_in past) m.rx y heard.0 heard.1 refl h.rx in
    (record { rx = r.0; decoder = decoding.home-stands }, r.1)

pub bridged-step-stands : (m after : ReceiverMemory) (y : Heard) (e : EffectiveFields) → turned_in_bridge m y ≡ (e, after) → (seed : ℕ)
    (past : List ReceiverPeriod) → ReceiverStands seed past m →
    ReceiverStands seed (handed_period y ∷ past) after × (e ≡ effective_now seed (handed_period y ∷ past))
bridged-step-stands m after y e is seed past h =
    let P : EffectiveFields × ReceiverMemory → Type 0 = λ t.
    ReceiverStands seed (handed_period y ∷ past) t.1 × (t.0 ≡ effective_now seed (handed_period y ∷ past)) in
    subst P is (bridged-stands seed past m y h)

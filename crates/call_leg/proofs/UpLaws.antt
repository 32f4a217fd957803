-- What the uplink hears and plays in a period, on any memory that stands.
use Rattle.std.proofs.Common.{◌≡◌, refl, sym, ap, ◌∙◌, ℕ, Bool, true, false, not, ◌&&◌, if◌then◌else◌, Option, is_some, List, [], ◌∷◌, length}
use Rattle.std.specs.Prelude.{◌==◌}
use Rattle.std.proofs.Math.Bool.{and-true}
use Rattle.std.proofs.lemmas.Bool.{eq-eqb}
use Rattle.trau_params.specs.Fields.{Fields}
use Rattle.frame_sync.specs.declared.yields.Yield.{Yield}
use Rattle.frame_sync.specs.Periods.{yield_of}
use Rattle.frame_sync.specs.Stands as search
use Rattle.frame_sync.specs.Memory.{SyncMemory}
use Rattle.frame_sync.specs.Step.{next_period}
use Rattle.frame_sync.proofs.Steps.{stands-next}
use Rattle.rx_handler.specs.Origin.{EffectiveFields, Quiet, Speech, Made}
use Rattle.rx_handler.specs.Past.{effective_of}
use Rattle.rx_handler.specs.Stands as rx
use Rattle.rx_handler.specs.Memory.{RxMemory}
use Rattle.rx_handler.specs.Step.{received}
use Rattle.rx_handler.proofs.Steps.{received_more}
use Rattle.fr_decoder.specs.Stands as decoder
use Rattle.fr_decoder.specs.Memory.{DecoderMemory}
use Rattle.fr_decoder.proofs.Frames as decoding
use Rattle.trau_alaw.specs.declared.Law.{Law}
use Rattle.trau_alaw.specs.Period.{compressed}
use Rattle.call_leg.specs.Uplink.{Sighting, sighting_in, heard_as}
use Rattle.call_leg.specs.Periods.{CallPeriod, ups_of, sighting_after, heard_of, bridges_begun}
use Rattle.call_leg.specs.Settings.{Settings, epoch_now, period_with}
use Rattle.call_leg.specs.Out.{plain_with, plain_stretch, decoded_octets}
use Rattle.call_leg.specs.Step.{played_frame, played_none, played}
use Rattle.call_leg.proofs.Downlink.Period.{begun-more}

-- ---- what is played out

-- a frame of a plain stretch is decoded, and any other ends it
played-plain : (law : Law) (p : Fields) (past : List Fields) (m : DecoderMemory) (alone : Bool) → decoder.Stands past m →
    decoder.Stands (if alone then p ∷ past else []) (if alone then played_frame law m p else played_none law).1
    × ((if alone then played_frame law m p else played_none law).0 ≡ decoded_octets law (if alone then p ∷ past else []))
played-plain law p past m true h = let d = decoding.frame-stands p past m h in (d.0, ap (compressed law) d.1)
played-plain law p past m false h = (decoding.home-stands, refl)

pub played-stands : (law : Law) (e : EffectiveFields) (alone : Bool) (past : List Fields) (m : DecoderMemory) → decoder.Stands past m →
    decoder.Stands (plain_with e alone past) (played law m e alone).1 × ((played law m e alone).0 ≡ decoded_octets law (plain_with e alone past))
played-stands law Quiet alone past m h = (decoding.home-stands, refl)
played-stands law (Speech p) alone past m h = played-plain law p past m alone h
played-stands law (Made p) alone past m h = played-plain law p past m alone h

-- the stretch of plain periods, once the period is over
pub plain-more : (call : ℕ) (ts : List CallPeriod) (now : Settings) (up pcm : List ℕ) (handed : Option (List ℕ)) (e : EffectiveFields) (bridged : Bool) →
    e ≡ effective_of call (heard_as (sighting_after ts up) ∷ heard_of ts) → bridged ≡ now.bridged → is_some handed ≡ now.bridged →
    plain_with e (not bridged) (plain_stretch call (epoch_now ts now) ts)
    ≡ plain_stretch call (bridges_begun (period_with now up pcm handed ∷ ts)) (period_with now up pcm handed ∷ ts)
plain-more call ts now up pcm handed e bridged ee eb b =
    let q : EffectiveFields = effective_of call (heard_as (sighting_after ts up) ∷ heard_of ts) in
    let n : ℕ = bridges_begun (period_with now up pcm handed ∷ ts) in
    let same : not bridged ≡ (not (is_some handed) && (n == n)) =
    ap not (eb ∙ sym b) ∙ sym (and-true (not (is_some handed))) ∙ ap (λ z. not (is_some handed) && z) (sym (eq-eqb n n refl)) in
    ap (λ z. plain_with z (not bridged) (plain_stretch call (epoch_now ts now) ts)) ee
    ∙ ap (λ k. plain_with q (not bridged) (plain_stretch call k ts)) (begun-more now up pcm handed ts)
    ∙ ap (λ z. plain_with q z (plain_stretch call n ts)) same

-- ---- what is heard

-- what the search yields in the period is what the definitions find there
sighted : (ts : List CallPeriod) (up : List ℕ) (y : Option Yield) → y ≡ yield_of up (ups_of ts) → sighting_in y ≡ sighting_after ts up
unfolding sighting_after
sighted ts up y e = ap sighting_in e

abbrev pub found_in : SyncMemory → List ℕ → Sighting
found_in m up = sighting_in (next_period m up).0

-- what the search finds, and the effective frame
pub hears : (call : ℕ) (ts : List CallPeriod) (up : List ℕ) (m : SyncMemory) (r : RxMemory) → length up ≡ 40 → search.Stands (ups_of ts) m →
    rx.Stands call (heard_of ts) r →
    (found_in m up ≡ sighting_after ts up) × ((received r (heard_as (found_in m up))).0 ≡ effective_of call (heard_as (sighting_after ts up) ∷ heard_of ts))
hears call ts up m r l h k =
    let found = next_period m up in
    let s = stands-next m found.1 up found.0 l refl (ups_of ts) h in
    let es = sighted ts up found.0 s.1 in
    let heard = received r (heard_as (found_in m up)) in
    let t = received_more call (heard_of ts) r (heard_as (found_in m up)) heard.0 heard.1 refl k in
    (es, t.1 ∙ ap (λ z. effective_of call (heard_as z ∷ heard_of ts)) es)

-- The Out line of a call by the receive side.
use Rattle.std.proofs.Common.{◌≡◌, refl, sym, ap, ◌∙◌, ℕ, pos, true, false, not, ◌&&◌, if◌then◌else◌, Option, Some, None, is_some, List, [], ◌∷◌, ◌++◌}
use Rattle.std.specs.Prelude.{replicate}
use Rattle.std.proofs.lemmas.Bool.{eq-eqb}
use Rattle.std.proofs.lemmas.List.Elements.{All-tail}
use Rattle.trau_alaw.specs.declared.Law.{Law}
use Rattle.trau_alaw.specs.declared.Law.TheVariants.{A, Mu}
use Rattle.trau_alaw.specs.Companding.{octet_of}
use Rattle.trau_alaw.specs.Alaw.{alaw}
use Rattle.trau_alaw.specs.Mulaw.{mulaw}
use Rattle.trau_alaw.specs.Laws.{companding, idle_of}
use Rattle.trau_alaw.specs.Period.{compressed}
use Rattle.trau_params.specs.Fields.{Fields}
use Rattle.rx_handler.specs.Origin.{EffectiveFields, Quiet, Speech, Made}
use Rattle.rx_handler.specs.Past.{effective_of}
use Rattle.fr_sides.specs.Receiving.{heard_in, stretch_with, decoded_stretch, stretch_samples, samples_now}
use Rattle.fr_sides.specs.Receiving as sides
use Rattle.call_leg.specs.Who.{Who}
use Rattle.call_leg.specs.Uplink.{heard_as}
use Rattle.call_leg.specs.Periods.{CallPeriod, sighting_after, heard_of, effective_now, bridges_begun}
use Rattle.call_leg.specs.Out.{plain_with, plain_stretch, decoded_octets, out_of, out_line}
use Rattle.call_sides.specs.Received.{receiver_periods, BridgesHavePeriods, octets_received, line_received}
use Rattle.call_sides.proofs.Bridges.{begun-past}

-- ---- what is heard

heard-same : (ts : List CallPeriod) → heard_in (receiver_periods ts) ≡ heard_of ts
heard-same [] = refl
heard-same (t ∷ past) = ap (λ ys. heard_as (sighting_after past t.up) ∷ ys) (heard-same past)

pub effective-same : (call : ℕ) (ts : List CallPeriod) → sides.effective_now call (receiver_periods ts) ≡ effective_now call ts
effective-same call ts = ap (effective_of call) (heard-same ts)

-- ---- what is decoded

-- a period outside of bridges continues the stretch, unless it is quiet
outside : (e : EffectiveFields) (before : List Fields) → plain_with e true before ≡ stretch_with e before
outside Quiet before = refl
outside (Speech p) before = refl
outside (Made p) before = refl

-- a period in a bridge ends it
inside : (e : EffectiveFields) (before : List Fields) → plain_with e false before ≡ []
inside Quiet before = refl
inside (Speech p) before = refl
inside (Made p) before = refl

with-same : (o : Option (List ℕ)) (e : EffectiveFields) (xs ys : List Fields) → (o ≡ None → xs ≡ ys) →
    plain_with e (not (is_some o) && true) xs ≡ (if is_some o then [] else stretch_with e ys)
with-same None e xs ys same = outside e xs ∙ ap (stretch_with e) (same refl)
with-same (Some item) e xs ys same = inside e xs

stretch-same : (call : ℕ) (ts : List CallPeriod) → BridgesHavePeriods ts → plain_stretch call (bridges_begun ts) ts ≡ decoded_stretch call (receiver_periods ts)
stretch-same call [] h = refl
stretch-same call (t ∷ past) h =
    let e = effective_now call (t ∷ past) in
    let n = bridges_begun (t ∷ past) in
    let earlier = decoded_stretch call (receiver_periods past) in
    let rest = stretch-same call past (All-tail (λ t. t.starts ≡ true → is_some t.handed ≡ true) t past h) in
    ap (λ b. plain_with e (not (is_some t.handed) && b) (plain_stretch call n past)) (eq-eqb n n refl)
    ∙ with-same t.handed e (plain_stretch call n past) earlier (λ none. ap (λ n. plain_stretch call n past) (begun-past t past h none) ∙ rest)
    ∙ ap (λ e. if is_some t.handed then [] else stretch_with e earlier) (sym (effective-same call (t ∷ past)))

-- ---- octets

-- 0 is sent as the idle octet
zero-is-idle : (law : Law) → octet_of (companding law) (pos 0) ≡ idle_of law
unfolding octet_of alaw mulaw
zero-is-idle A = refl
zero-is-idle Mu = refl

octets-same : (law : Law) (frames : List Fields) → decoded_octets law frames ≡ compressed law (stretch_samples frames)
unfolding compressed
octets-same law [] = ap (λ o. replicate 160 o) (sym (zero-is-idle law))
octets-same law (p ∷ before) = refl

-- **The Out line is what the receive side gives.**
pub out-same : (who : Who) (ts : List CallPeriod) → BridgesHavePeriods ts → out_of who ts ≡ octets_received who ts
out-same who ts h =
    ap (decoded_octets who.law) (stretch-same who.number ts h) ∙ octets-same who.law (decoded_stretch who.number (receiver_periods ts))

pub line-same : (who : Who) (ts : List CallPeriod) → BridgesHavePeriods ts → out_line who ts ≡ line_received who ts
line-same who [] h = refl
line-same who (t ∷ past) h =
    ap (λ z. z ++ out_of who (t ∷ past)) (line-same who past (All-tail (λ t. t.starts ≡ true → is_some t.handed ≡ true) t past h))
    ∙ ap (λ z. line_received who past ++ z) (out-same who (t ∷ past) h)

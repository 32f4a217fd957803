-- The Out line, period by period, is the whole one.
use Rattle.std.proofs.Common.{◌≡◌, refl, sym, ap, ◌∙◌, inl, inr, ◌⊎◌, ℕ, suc, Bool, true, false, ◌&&◌, if◌then◌else◌, Option, Some, None, List, [], ◌∷◌, ◌++◌}
use Rattle.std.proofs.Common.{length, reverse, eq-eqb}
use Rattle.std.specs.Prelude.{not, is_some, option_to_list, filter}
use Rattle.std.specs.List.{flat_map}
use Rattle.std.proofs.lemmas.Bool.{cases_Bool, cond-true, cond-false, true≢false}
use Rattle.std.proofs.lemmas.List.{append-nil, map-append, reverse-append, reverse-reverse}
use Rattle.std.proofs.lemmas.List.Concat.{flat_map-append}
use Rattle.trau_alaw.specs.declared.Law.{Law}
use Rattle.trau_alaw.specs.Period.{compressed}
use Rattle.trau_params.specs.Fields.{Fields}
use Rattle.fr_decoder.specs.Decoded.{samples_of, all_samples, decoded}
use Rattle.rx_handler.specs.Origin.{EffectiveFields, Quiet, Speech, Made}
use Rattle.call_leg.specs.Who.{Who}
use Rattle.call_leg.specs.Periods.{CallPeriod, effective_now, bridges_begun}
use Rattle.call_leg.specs.Out.{plain_with, plain_stretch, decoded_octets, out_of, out_line}
use Rattle.call_leg.proofs.Downlink.Bridges.{plain-new}
use Rattle.call_spec.specs.Stretches.{stretches}
use Rattle.call_spec.specs.Call.{effective_frame, starts_at}
use Rattle.call_spec.specs.Out.{Decoding, parameters_of, decoding_at, plain_goes_on, plain_octets, parameters_in, stretch_octets, out}
use Rattle.call_spec.specs.History.{IsCallHistory, call_of_history}
use Rattle.call_spec.proofs.Stretched.{reverse-more, before, newest, AddsTo, stretched-more}
use Rattle.call_spec.proofs.Ranges.{IsPeriod, each_back, each-reverse}
use Rattle.call_spec.proofs.Reading.{each-of, LooksBack, effective-period}
use Rattle.call_spec.proofs.Bridges.Spans.{item_at-period}
use Rattle.call_spec.proofs.Bridges.Starts.{starts_at-period}

-- ---- what is decoded in a period

-- what is decoded where this is handed over, this is heard and a span may start
abbrev decoding : Option (List ℕ) → EffectiveFields → Bool → Decoding
decoding handed effective_frame starts = record { parameters = if is_some handed then None else parameters_of effective_frame; starts = starts }

-- what is decoded in a period of a history
abbrev decoding_of : ℕ → CallPeriod → List CallPeriod → Decoding
decoding_of number t past = decoding t.handed (effective_now number (t ∷ past)) t.starts

-- a period of the call as a whole is decoded as that of the history
decoding-period : LooksBack → (who : Who) (ts : List CallPeriod) (t : CallPeriod) (past : List CallPeriod) → IsCallHistory ts → IsPeriod ts t past →
    decoding_at (call_of_history who ts) (length past) ≡ decoding_of who.number t past
decoding-period look who ts t past h p =
    let call = call_of_history who ts in
    ap (λ o. decoding o (effective_frame call (length past)) (starts_at call.spans (length past))) (item_at-period ts t past h.bridges p) ∙
    ap (λ e. decoding t.handed e (starts_at call.spans (length past))) (effective-period look who ts t past h p) ∙
    ap (decoding t.handed (effective_now who.number (t ∷ past))) (starts_at-period ts t past p)

-- ---- an item more adds its own octets

single : (o : Option Fields) → reverse (option_to_list o) ≡ option_to_list o
single None = refl
single (Some p) = refl

-- the parameters of a stretch with the newest first
parameters-reverse : (s : List Decoding) → parameters_in (reverse s) ≡ reverse (parameters_in s)
parameters-reverse [] = refl
parameters-reverse (d ∷ s) =
    ap parameters_in (reverse-more d s) ∙ flat_map-append (λ a. option_to_list a.parameters) (reverse s) (d ∷ []) ∙
    ap (λ z. parameters_in (reverse s) ++ z) (append-nil (option_to_list d.parameters) ∙ sym (single d.parameters)) ∙
    ap (λ z. z ++ reverse (option_to_list d.parameters)) (parameters-reverse s) ∙
    sym (reverse-append (option_to_list d.parameters) (parameters_in s))

octets-some : (law : Law) (ps : List Fields) (p : Fields) → plain_octets law (ps ++ p ∷ []) ≡ compressed law (decoded (ps ++ p ∷ []))
octets-some law [] p = refl
octets-some law (q ∷ ps) p = refl

octets-reverse : (law : Law) (p : Fields) (ps : List Fields) → plain_octets law (reverse (p ∷ ps)) ≡ compressed law (all_samples (p ∷ ps))
octets-reverse law p ps =
    ap (plain_octets law) (reverse-more p ps) ∙ octets-some law (reverse ps) p ∙ ap (λ z. compressed law (decoded z)) (sym (reverse-more p ps)) ∙
    ap (λ z. compressed law (all_samples z)) (reverse-reverse (p ∷ ps))

-- of a longer stretch the octets of the newest period come behind the others
octets-more : (law : Law) (p q : Fields) (ps : List Fields) →
    plain_octets law (reverse (p ∷ q ∷ ps)) ≡ plain_octets law (reverse (q ∷ ps)) ++ decoded_octets law (p ∷ q ∷ ps)
unfolding compressed all_samples
octets-more law p q ps = octets-reverse law p (q ∷ ps) ∙ parts ∙ ap (λ z. z ++ decoded_octets law (p ∷ q ∷ ps)) (sym (octets-reverse law q ps))
  where
    parts : compressed law (all_samples (p ∷ q ∷ ps)) ≡ compressed law (all_samples (q ∷ ps)) ++ decoded_octets law (p ∷ q ∷ ps)
    parts = map-append _ (all_samples (q ∷ ps)) (samples_of p (q ∷ ps))

octets-one : (law : Law) (o : Option Fields) → plain_octets law (option_to_list o ++ []) ≡ decoded_octets law (option_to_list o ++ [])
unfolding all_samples
octets-one law None = refl
octets-one law (Some p) = refl

-- a plain stretch goes on between plain periods alone
goes_on-plain : (a b : Option Fields) (starts : Bool) → (is_some a && is_some b && not starts) ≡ true →
    (p : Fields) × (q : Fields) × (a ≡ Some p) × (b ≡ Some q)
goes_on-plain None b starts e = absurd (true≢false (sym e))
goes_on-plain (Some p) None starts e = absurd (true≢false (sym e))
goes_on-plain (Some p) (Some q) starts e = (p, q, refl, refl)

-- so a stretch adds the octets of its newest period
adds : (law : Law) → AddsTo plain_goes_on (stretch_octets law) (λ d s. decoded_octets law (parameters_in (d ∷ s)))
adds law = record { first = λ d. octets-one law d.parameters; more = λ d b past e. by d b past (goes_on-plain b.parameters d.parameters d.starts e) }
  where
    by : (d b : Decoding) (past : List Decoding) → (p : Fields) × (q : Fields) × (b.parameters ≡ Some p) × (d.parameters ≡ Some q) →
        stretch_octets law (reverse (d ∷ newest plain_goes_on b past))
        ≡ stretch_octets law (reverse (newest plain_goes_on b past)) ++ decoded_octets law (parameters_in (d ∷ newest plain_goes_on b past))
    by d b past s =
        let rest = parameters_in (before plain_goes_on b past) in
        let was : parameters_in (newest plain_goes_on b past) ≡ s.0 ∷ rest = ap (λ o. option_to_list o ++ rest) s.2 in
        let now : parameters_in (d ∷ newest plain_goes_on b past) ≡ s.1 ∷ s.0 ∷ rest =
        ap (λ o. option_to_list o ++ parameters_in (newest plain_goes_on b past)) s.3 ∙ ap (λ z. s.1 ∷ z) was in
        ap (plain_octets law) (parameters-reverse (d ∷ newest plain_goes_on b past) ∙ ap reverse now) ∙ octets-more law s.1 s.0 rest ∙
        ap (λ z. z ++ decoded_octets law (s.1 ∷ s.0 ∷ rest)) (sym (ap (plain_octets law) (parameters-reverse (newest plain_goes_on b past) ∙ ap reverse was))) ∙
        ap (λ ps. stretch_octets law (reverse (newest plain_goes_on b past)) ++ decoded_octets law ps) (sym now)

-- ---- the plain stretch is the one that the newest period goes on with

and_none : (a b : Bool) → (a && false && b) ≡ false
and_none true b = refl
and_none false b = refl

-- before a period that is not plain there is no stretch
before-none : (d : Decoding) (past : List Decoding) → d.parameters ≡ None → before plain_goes_on d past ≡ []
before-none d [] e = refl
before-none d (b ∷ past) e =
    cond-false (plain_goes_on b d) (newest plain_goes_on b past) []
    (ap (λ o. is_some b.parameters && is_some o && not d.starts) e ∙ and_none (is_some b.parameters) (not d.starts))

begun-new : (t : CallPeriod) (past : List CallPeriod) → t.starts ≡ true → bridges_begun (t ∷ past) ≡ suc (bridges_begun past)
begun-new t past s = ap length (cond-true t.starts (t ∷ filter (λ t. t.starts) past) (filter (λ t. t.starts) past) s)

begun-old : (t : CallPeriod) (past : List CallPeriod) → t.starts ≡ false → bridges_begun (t ∷ past) ≡ bridges_begun past
begun-old t past s = ap length (cond-false t.starts (t ∷ filter (λ t. t.starts) past) (filter (λ t. t.starts) past) s)

-- the parameters of the stretch that ends with the newest period
abbrev told : ℕ → List CallPeriod → List Fields
told number [] = []
told number (t ∷ past) = parameters_in (newest plain_goes_on (decoding_of number t past) (each_back (decoding_of number) past))

last_false : (a b : Bool) → (a && b && false) ≡ false
last_false true true = refl
last_false true false = refl
last_false false b = refl

-- nor before one at which a span starts
cut_off : (d b : Decoding) (ds : List Decoding) → plain_goes_on b d ≡ false → parameters_in (before plain_goes_on d (b ∷ ds)) ≡ []
cut_off d b ds e = ap parameters_in (cond-false (plain_goes_on b d) (newest plain_goes_on b ds) [] e)

-- a plain period goes on with the plain stretch of the periods before it, unless a bridge starts
goes-on : (number : ℕ) (t : CallPeriod) (past : List CallPeriod) (p : Fields) → (decoding_of number t past).parameters ≡ Some p →
    told number past ≡ plain_stretch number (bridges_begun past) past →
    parameters_in (before plain_goes_on (decoding_of number t past) (each_back (decoding_of number) past))
    ≡ plain_stretch number (bridges_begun (t ∷ past)) past
goes-on number t [] p e so = refl
goes-on number t (u ∷ past) p e so = by (cases_Bool t.starts) (decoding_of number u past).parameters refl
  where
    by : (t.starts ≡ true) ⊎ (t.starts ≡ false) → (o : Option Fields) → (decoding_of number u past).parameters ≡ o →
        parameters_in (before plain_goes_on (decoding_of number t (u ∷ past)) (each_back (decoding_of number) (u ∷ past)))
        ≡ plain_stretch number (bridges_begun (t ∷ u ∷ past)) (u ∷ past)
    by (inl s) o q =
        let d = decoding_of number t (u ∷ past) in
        let b = decoding_of number u past in
        cut_off d b (each_back (decoding_of number) past)
        (ap (λ z. is_some b.parameters && is_some d.parameters && not z) s ∙ last_false (is_some b.parameters) (is_some d.parameters)) ∙
        sym (ap (λ n. plain_stretch number n (u ∷ past)) (begun-new t (u ∷ past) s) ∙ plain-new number (u ∷ past))
    by (inr s) None q =
        let d = decoding_of number t (u ∷ past) in
        let b = decoding_of number u past in
        let ds = each_back (decoding_of number) past in
        cut_off d b ds (ap (λ z. is_some z && is_some d.parameters && not t.starts) q) ∙
        sym (ap (λ n. plain_stretch number n (u ∷ past)) (begun-old t (u ∷ past) s) ∙ sym so
        ∙ ap (λ o. option_to_list o ++ parameters_in (before plain_goes_on b ds)) q ∙ ap parameters_in (before-none b ds q))
    by (inr s) (Some r) q =
        let d = decoding_of number t (u ∷ past) in
        let b = decoding_of number u past in
        let ds = each_back (decoding_of number) past in
        ap parameters_in (cond-true (plain_goes_on b d) (newest plain_goes_on b ds) []
        (ap (λ z. is_some z && is_some d.parameters && not t.starts) q ∙ ap (λ z. is_some z && not t.starts) e ∙ ap not s)) ∙
        so ∙ sym (ap (λ n. plain_stretch number n (u ∷ past)) (begun-old t (u ∷ past) s))

plain-told : (handed : Bool) (e : EffectiveFields) (bs : List Decoding) (more : List Fields) →
    ((if handed then None else parameters_of e) ≡ None → bs ≡ []) →
    ((p : Fields) → (if handed then None else parameters_of e) ≡ Some p → parameters_in bs ≡ more) →
    option_to_list (if handed then None else parameters_of e) ++ parameters_in bs ≡ plain_with e (not handed && true) more
plain-told true Quiet bs more none some = ap parameters_in (none refl)
plain-told true (Speech p) bs more none some = ap parameters_in (none refl)
plain-told true (Made p) bs more none some = ap parameters_in (none refl)
plain-told false Quiet bs more none some = ap parameters_in (none refl)
plain-told false (Speech p) bs more none some = ap (λ ps. p ∷ ps) (some p refl)
plain-told false (Made p) bs more none some = ap (λ ps. p ∷ ps) (some p refl)

-- **The plain stretch of a history is that of the call as a whole.**
told-plain : (number : ℕ) (ts : List CallPeriod) → told number ts ≡ plain_stretch number (bridges_begun ts) ts
told-plain number [] = refl
told-plain number (t ∷ past) =
    let d = decoding_of number t past in
    let ds = each_back (decoding_of number) past in
    let begun = bridges_begun (t ∷ past) in
    let so = told-plain number past in
    plain-told (is_some t.handed) (effective_now number (t ∷ past)) (before plain_goes_on d ds) (plain_stretch number begun past)
    (before-none d ds) (λ p e. goes-on number t past p e so) ∙
    sym (ap (λ same. plain_with (effective_now number (t ∷ past)) (not (is_some t.handed) && same) (plain_stretch number begun past)) (eq-eqb begun begun refl))

-- ---- the whole line

-- the Out line, stretch by stretch
out-each : (who : Who) (ts : List CallPeriod) →
    out_line who ts ≡ flat_map (stretch_octets who.law) (stretches plain_goes_on (reverse (each_back (decoding_of who.number) ts)))
out-each who [] = refl
out-each who (t ∷ past) =
    let d = decoding_of who.number t past in
    let ds = each_back (decoding_of who.number) past in
    ap (λ z. z ++ out_of who (t ∷ past)) (out-each who past) ∙
    ap (λ ps. flat_map (stretch_octets who.law) (stretches plain_goes_on (reverse ds)) ++ decoded_octets who.law ps) (sym (told-plain who.number (t ∷ past))) ∙
    sym (stretched-more plain_goes_on (stretch_octets who.law) (λ d s. decoded_octets who.law (parameters_in (d ∷ s))) (adds who.law) d ds)

-- **The Out line is that of the call as a whole.**
pub out-whole : LooksBack → (who : Who) (ts : List CallPeriod) → IsCallHistory ts → out_line who ts ≡ out (call_of_history who ts)
out-whole look who ts h =
    out-each who ts ∙
    sym (ap (λ ds. flat_map (stretch_octets who.law) (stretches plain_goes_on ds))
    (each-of who ts (decoding_at (call_of_history who ts)) (decoding_of who.number) (λ t past p. decoding-period look who ts t past h p)
    ∙ each-reverse (decoding_of who.number) ts))

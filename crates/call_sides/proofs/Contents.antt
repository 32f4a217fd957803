-- What the frames of a call carry in which no shift is asked for.
use Rattle.std.proofs.Common.{◌≡◌, refl, sym, ap, ◌∙◌, ℕ, ◌*◌, Bool, true, false, not, ◌&&◌, if◌then◌else◌, Option, Some, None, is_none}
use Rattle.std.proofs.Common.{option_map, unwrap_or, All, List, [], ◌∷◌, length, map, take, drop, arith}
use Rattle.std.specs.Prelude.{◌==◌}
use Rattle.std.proofs.lemmas.Bool.{eq-eqb, cond-true}
use Rattle.std.proofs.lemmas.List.{length-append, drop_at, take_all}
use Rattle.std.proofs.lemmas.List.Elements.{All-head, All-tail}
use Rattle.trau_alaw.specs.declared.Law.{Law}
use Rattle.trau_alaw.specs.Period.{expanded}
use Rattle.trau_frame.specs.declared.frames.DownFrame.{DownFrame}
use Rattle.trau_frame.specs.declared.frames.DownFrame.TheVariants as down
use Rattle.rx_handler.specs.Origin.{is_quiet}
use Rattle.fr_sides.specs.Sending.{SenderPeriod, sender_period, sent_now}
use Rattle.call_leg.specs.Who.{Who}
use Rattle.call_leg.specs.Periods.{CallPeriod, pcm_of, quiet_now, handed_in, bridges_begun, dtx_now}
use Rattle.call_leg.specs.Down.{CallFrame, coded_stretch, speech, frames_of, frame_now}
use Rattle.call_sides.specs.Sent.{period_of_frame, AreUnshifted, period_frame, frames_by_period, is_quiet_in, own_period, sender_periods, frame_in}
use Rattle.call_sides.proofs.Bridges.{begun-past}
use Rattle.call_sides.proofs.Received.{effective-same}
use Rattle.call_sides.proofs.Sending.{frame-same}
use Rattle.call_sides.proofs.Unshifted.{unshifted-past, frames-same}

-- ---- a period of the transmit side

length-pcm_of : (ts : List CallPeriod) → All (λ t. length t.pcm ≡ 160) ts → length (pcm_of ts) ≡ 160 * length ts
length-pcm_of [] h = refl
length-pcm_of (t ∷ past) h =
    let rest = length-pcm_of past (All-tail (λ t. length t.pcm ≡ 160) t past h) in
    let here = All-head (λ t. length t.pcm ≡ 160) t past h in
    length-append (pcm_of past) t.pcm ∙ omega arith

octets-own : (t : CallPeriod) (past : List CallPeriod) → All (λ t. length t.pcm ≡ 160) (t ∷ past) →
    take 160 (drop (160 * length past) (pcm_of (t ∷ past))) ≡ t.pcm
octets-own t past h =
    let here = All-head (λ t. length t.pcm ≡ 160) t past h in
    let rest = length-pcm_of past (All-tail (λ t. length t.pcm ≡ 160) t past h) in
    ap (take 160) (drop_at (pcm_of past) t.pcm (160 * length past) rest) ∙ take_all 160 t.pcm (omega arith)

period-own : (law : Law) (t : CallPeriod) (past : List CallPeriod) → AreUnshifted (t ∷ past) → period_of_frame law (period_frame t past) ≡ own_period law t past
period-own law t past h = ap (λ xs. sender_period (expanded law xs) t.level (dtx_now (t ∷ past))) (octets-own t past h.pcms)

-- quiet on the receive side, and in the call
quiet-same : (who : Who) (t : CallPeriod) (past : List CallPeriod) → quiet_now who.number (t ∷ past) ≡ is_quiet_in who t past
quiet-same who t past = ap is_quiet (sym (effective-same who.number (t ∷ past)))

-- ---- stretches

-- the coded frames that the frame of a period follows in its stretch
abbrev before_period : Who → CallPeriod → List CallPeriod → List CallFrame
before_period who t past = coded_stretch who.number (bridges_begun (t ∷ past)) (frames_by_period past)

-- those of all periods so far
abbrev stretch_of : Who → List CallPeriod → List SenderPeriod
stretch_of who ts = map (period_of_frame who.law) (coded_stretch who.number (bridges_begun ts) (frames_by_period ts))

-- at a period outside of bridges the stretch is that of the past
before-same : (who : Who) (t : CallPeriod) (past : List CallPeriod) → AreUnshifted (t ∷ past) → stretch_of who past ≡ sender_periods who past →
    t.handed ≡ None → map (period_of_frame who.law) (before_period who t past) ≡ sender_periods who past
before-same who t past h e none =
    ap (λ n. map (period_of_frame who.law) (coded_stretch who.number n (frames_by_period past))) (begun-past t past h.begun none) ∙ e

-- the frame of a period continues a stretch, or ends it
one_more : (who : Who) (t : CallPeriod) (past : List CallPeriod) → AreUnshifted (t ∷ past) → stretch_of who past ≡ sender_periods who past →
    stretch_of who (t ∷ past) ≡ sender_periods who (t ∷ past)
one_more who t past h e =
    ap (λ b. stretch (is_none (option_map (λ (item : List ℕ). length past) t.handed) && not (quiet_now who.number (t ∷ past)) && b))
    (eq-eqb (bridges_begun (t ∷ past)) (bridges_begun (t ∷ past)) refl)
    ∙ ap (λ q. stretch (is_none (option_map (λ (item : List ℕ). length past) t.handed) && not q && true)) (quiet-same who t past)
    ∙ by_item t.handed refl
  where
    stretch : Bool → List SenderPeriod
    stretch b = map (period_of_frame who.law) (if b then period_frame t past ∷ before_period who t past else [])

    continued : t.handed ≡ None → (q : Bool) → stretch (true && q && true) ≡ (if true && q then own_period who.law t past ∷ sender_periods who past else [])
    continued none true =
        ap (λ x. x ∷ map (period_of_frame who.law) (before_period who t past)) (period-own who.law t past h)
        ∙ ap (λ xs. own_period who.law t past ∷ xs) (before-same who t past h e none)
    continued none false = refl

    by_item : (o : Option (List ℕ)) → t.handed ≡ o → stretch (is_none (option_map (λ (item : List ℕ). length past) o) && not (is_quiet_in who t past) && true)
        ≡ (if is_none o && not (is_quiet_in who t past) then own_period who.law t past ∷ sender_periods who past else [])
    by_item None none = continued none (not (is_quiet_in who t past))
    by_item (Some item) some = refl

stretch-same : (who : Who) (ts : List CallPeriod) → AreUnshifted ts → stretch_of who ts ≡ sender_periods who ts
stretch-same who [] h = refl
stretch-same who (t ∷ past) h = one_more who t past h (stretch-same who past (unshifted-past t past h))

-- ---- contents

-- **The frame of a period carries what is handed over in it, is idle, or is what the transmit side sends.**
pub contents-same : (who : Who) (t : CallPeriod) (past : List CallPeriod) → AreUnshifted (t ∷ past) → frame_now who (frames_of (t ∷ past)) ≡ frame_in who t past
contents-same who t past h = ap (frame_now who) (frames-same (t ∷ past) h) ∙ frame-same who (frames_by_period (t ∷ past)) ∙ by_item t.handed refl
  where
    item-own : (item : List ℕ) → t.handed ≡ Some item → handed_in (length past) (t ∷ past) ≡ item
    item-own item e =
        cond-true (length past == length past) (unwrap_or t.handed []) (handed_in (length past) past) (eq-eqb (length past) (length past) refl)
        ∙ ap (λ o. unwrap_or o []) e

    coded : t.handed ≡ None → sent_now (period_of_frame who.law (period_frame t past)) (map (period_of_frame who.law) (before_period who t past))
        ≡ sent_now (own_period who.law t past) (sender_periods who past)
    coded none =
        ap (λ x. sent_now x (map (period_of_frame who.law) (before_period who t past))) (period-own who.law t past h)
        ∙ ap (sent_now (own_period who.law t past)) (before-same who t past h (stretch-same who past (unshifted-past t past h)) none)

    by_item : (o : Option (List ℕ)) → t.handed ≡ o →
        (elim (option_map (λ (item : List ℕ). length past) o) as (λ x. DownFrame) [
          | Some k ↦ down.Speech (handed_in k (t ∷ past)) true
          | None ↦ if quiet_now who.number (t ∷ past) then down.Idle else speech
              (sent_now (period_of_frame who.law (period_frame t past)) (map (period_of_frame who.law) (before_period who t past)))
        ]) ≡ (elim o as (λ x. DownFrame) [
          | Some item ↦ down.Speech item true
          | None ↦ if is_quiet_in who t past then down.Idle else speech (sent_now (own_period who.law t past) (sender_periods who past))
        ])
    by_item None none =
        ap (λ s. if quiet_now who.number (t ∷ past) then down.Idle else speech s) (coded none)
        ∙ ap (λ q. if q then down.Idle else speech (sent_now (own_period who.law t past) (sender_periods who past))) (quiet-same who t past)
    by_item (Some item) some = ap (λ bits. down.Speech bits true) (item-own item some)

-- The made frames of a leg have their lengths, and so are found.
use Rattle.std.proofs.Common.{◌≡◌, refl, sym, ◌∙◌, ap, subst, ℕ, ◌+◌, ◌*◌, Bool, true, false, if◌then◌else◌, nat_le, Option, Some, None, IfSome, unwrap_or, All}
use Rattle.std.proofs.Common.{List, [], ◌∷◌, length}
use Rattle.std.specs.Prelude.{◌==◌, is_some}
use Rattle.std.proofs.lemmas.Bool.{cond_both}
use Rattle.std.proofs.lemmas.List.Elements.{All-nil, All-cons, All-head, All-tail}
use Rattle.trau_frame.specs.declared.frames.DownFrame.{DownFrame}
use Rattle.trau_frame.specs.declared.frames.DownFrame.TheVariants as frame
use Rattle.tx_dtx.specs.Sent.{sent_of}
use Rattle.down_framer.specs.Made.{Period, MadeFrame, latest_start, hands_at, made_from, handed_due, next_start, next_frame, grown}
use Rattle.ccu_end.specs.Read.{HasLength}
use Rattle.ccu_end.specs.Found.{Found, HaveLength, all_within, as_made}
use Rattle.ccu_end.proofs.Lines.{made-found}
use Rattle.call_leg.specs.Who.{Who}
use Rattle.call_leg.specs.Periods.{CallPeriod, quiet_now, handed_in}
use Rattle.call_leg.specs.Down.{CallFrame, down_line, down_period, down_periods, frames_of, coded_stretch, coded_after, coded_frames, speech, frame_now}
use Rattle.call_leg.proofs.Downlink.Enter.{length-down_periods}
use Rattle.call_leg.proofs.Lines.{line-is_made}
use Rattle.call_heard.proofs.Shapes.{length-bits260, shape-encoding, shape-sent}

-- what is handed over in each period has 260 bits
abbrev pub PeriodsHandFrames : List CallPeriod → Type 0
PeriodsHandFrames ts = All (λ t. IfSome t.handed (λ d. length d ≡ 260)) ts

-- what is handed over in a period of a bridge has 260 bits
long : (o : Option (List ℕ)) → IfSome o (λ d. length d ≡ 260) → is_some o ≡ true → length (unwrap_or o []) ≡ 260
long None h is = absurd (cc)
long (Some d) h is = h

-- what is handed over are 260 bits
long-handed : (h : ℕ) (ts : List CallPeriod) → PeriodsHandFrames ts → hands_at h (down_periods ts) ≡ true → length (handed_in h ts) ≡ 260
long-handed h [] k is = absurd (cc)
long-handed h (t ∷ past) k is = by (h == length past) refl (long-handed h past (All-tail (λ t. IfSome t.handed (λ d. length d ≡ 260)) t past k))
  where
    same : (h == length (down_periods past)) ≡ (h == length past)
    same = ap (λ n. h == n) (length-down_periods past)

    by : (b : Bool) → (h == length past) ≡ b → (hands_at h (down_periods past) ≡ true → length (handed_in h past) ≡ 260) → length (handed_in h (t ∷ past)) ≡ 260
    by true e rest =
        let bridged : is_some t.handed ≡ true = sym (ap (λ b. if b then is_some t.handed else hands_at h (down_periods past)) (same ∙ e)) ∙ is in
        ap (λ b. length (if b then unwrap_or t.handed [] else handed_in h past)) e
        ∙ long t.handed (All-head (λ t. IfSome t.handed (λ d. length d ≡ 260)) t past k) bridged
    by false e rest =
        let bridged : hands_at h (down_periods past) ≡ true = sym (ap (λ b. if b then is_some t.handed else hands_at h (down_periods past)) (same ∙ e)) ∙ is in
        ap (λ b. length (if b then unwrap_or t.handed [] else handed_in h past)) e ∙ rest bridged

-- what is due was handed over
due-bridged : {A : Type 0} (ps : List (Period A)) (fs : List (MadeFrame A)) (h : ℕ) → handed_due ps fs ≡ Some h → hands_at h ps ≡ true
due-bridged ps fs h is = by (latest_start ps) is
  where
    inner : (k : ℕ) (b : Bool) → hands_at k ps ≡ b → (if b then Some k else None) ≡ Some h → hands_at h ps ≡ true
    inner k true e is = let same : k ≡ h = cc in subst (λ n. hands_at n ps ≡ true) same e
    inner k false e is = absurd (cc)

    by : (o : Option ℕ) → (elim o as (λ x. Option ℕ) [ None ↦ None | Some s ↦ let k = s + made_from s fs in if hands_at k ps then Some k else None ]) ≡ Some h →
        hands_at h ps ≡ true
    by None is = absurd (cc)
    by (Some s) is = inner (s + made_from s fs) (hands_at (s + made_from s fs) ps) refl is

-- what a frame carries has 260 bits
abbrev CarriesFrame : CallFrame → Type 0
CarriesFrame f = (h : ℕ) → f.carries ≡ Some h → length (handed_in h f.load) ≡ 260

grown-carry : (t : CallPeriod) (past : List CallPeriod) (fs : List CallFrame) → PeriodsHandFrames (t ∷ past) → All CarriesFrame fs →
    All CarriesFrame (grown (down_period t past) (down_periods past) fs)
grown-carry t past fs h k =
    cond_both (nat_le (next_start fs) (160 * length (down_periods past))) (next_frame (down_period t past) (down_periods past) fs ∷ fs) fs (All CarriesFrame)
    (λ y. All-cons CarriesFrame _ fs (λ i is. long-handed i (t ∷ past) h (due-bridged (down_periods (t ∷ past)) fs i is)) k) (λ n. k)

-- so each made frame that carries something carries 260 bits
carry : (ts : List CallPeriod) → PeriodsHandFrames ts → All CarriesFrame (frames_of ts)
carry [] h = All-nil CarriesFrame
carry (t ∷ past) h =
    grown-carry t past (grown (down_period t past) (down_periods past) (frames_of past)) h
    (grown-carry t past (frames_of past) h (carry past (All-tail (λ t. IfSome t.handed (λ d. length d ≡ 260)) t past h)))

-- and what is sent has its length
frame-long : (who : Who) (f : CallFrame) (fs : List CallFrame) → CarriesFrame f → HasLength (frame_now who (f ∷ fs))
frame-long who f fs k = go f.carries refl
  where
    go : (o : Option ℕ) → f.carries ≡ o → HasLength (elim o as (λ x. DownFrame) [
      | Some h ↦ frame.Speech (handed_in h f.load) true
      | None ↦
          if quiet_now who.number f.load then frame.Idle else speech
          (sent_of (coded_after who.law f (coded_stretch who.number f.epoch fs)) (coded_frames who.law (coded_stretch who.number f.epoch fs)))
    ])
    go (Some h) e = k h e
    go None e =
        let before = coded_stretch who.number f.epoch fs in
        let s = sent_of (coded_after who.law f before) (coded_frames who.law before) in
        cond_both (quiet_now who.number f.load) frame.Idle (speech s) HasLength (λ y. tt)
        (λ n. length-bits260 s.fields (shape-sent (coded_after who.law f before) (coded_frames who.law before) (shape-encoding _ _)))

all-long : (who : Who) (fs : List CallFrame) → All CarriesFrame fs → HaveLength (frame_now who) fs
all-long who [] k = tt
all-long who (f ∷ fs) k = (frame-long who f fs (All-head CarriesFrame f fs k), all-long who fs (All-tail CarriesFrame f fs k))

-- so each frame of a leg has 260 data bits or is idle
pub leg-long : (who : Who) (ts : List CallPeriod) → PeriodsHandFrames ts → HaveLength (frame_now who) (frames_of ts)
leg-long who ts h = all-long who (frames_of ts) (carry ts h)

-- **The frames of a leg's downlink are found at their places.**
pub leg-found : (who : Who) (ts : List CallPeriod) → PeriodsHandFrames ts →
    Found (down_line who ts) (all_within (320 * length ts) (as_made (frame_now who) (frames_of ts)))
leg-found who ts h =
    subst (λ bits. Found bits (all_within (320 * length ts) (as_made (frame_now who) (frames_of ts)))) (sym (line-is_made who ts))
    (made-found (frame_now who) (down_periods ts) (320 * length ts) (leg-long who ts h))

-- What a made frame of a history is, by the call as a whole.
use Rattle.std.proofs.Common.{◌≡◌, refl, sym, ap, ◌∙◌, subst, ℕ, ◌*◌, ◌&&◌, List, [], ◌∷◌, ◌++◌, length, map, take, drop, All, arith, append_assoc}
use Rattle.std.proofs.Common.{length-append, length-drop}
use Rattle.std.specs.Prelude.{not, is_none}
use Rattle.std.proofs.lemmas.List.{append-nil, drop-append-le, take-append-le}
use Rattle.std.proofs.lemmas.List.Elements.{All-head, All-tail}
use Rattle.fr_encoder.specs.Encoded.{encoding_of}
use Rattle.trau_alaw.specs.Period.{expanded}
use Rattle.down_framer.specs.ByNumber.{when, numbered_of}
use Rattle.call_leg.specs.Who.{Who}
use Rattle.call_leg.specs.Uplink.{is_quiet}
use Rattle.call_leg.specs.Periods.{CallPeriod, pcm_of, quiet_now, level_now, dtx_now}
use Rattle.call_leg.specs.Down as leg
use Rattle.call_spec.specs.Call.{setting_at, dtx_at, is_quiet_at}
use Rattle.call_spec.specs.Down.{is_coded, samples}
use Rattle.call_spec.specs.History.{IsCallHistory, call_of_history}
use Rattle.call_spec.proofs.Ranges.{IsPeriod}
use Rattle.call_spec.proofs.Reading.{LooksBack, effective-period, setting-period, dtx-period}
use Rattle.call_spec.proofs.Bridges.Loads.{IsPlaced, ArePlaced}
use Rattle.call_spec.proofs.Sending.{code, codes}

pcms-earlier : (later ts : List CallPeriod) → All (λ t. length t.pcm ≡ 160) (later ++ ts) → All (λ t. length t.pcm ≡ 160) ts
pcms-earlier [] ts h = h
pcms-earlier (t ∷ later) ts h = pcms-earlier later ts (All-tail (λ t. length t.pcm ≡ 160) t (later ++ ts) h)

length-pcm_of : (ts : List CallPeriod) → All (λ t. length t.pcm ≡ 160) ts → length (pcm_of ts) ≡ 160 * length ts
length-pcm_of [] h = refl
length-pcm_of (t ∷ past) h =
    let one = All-head (λ t. length t.pcm ≡ 160) t past h in
    let rest = length-pcm_of past (All-tail (λ t. length t.pcm ≡ 160) t past h) in
    length-append (pcm_of past) t.pcm ∙ omega arith

pcm-later : (later ts : List CallPeriod) → (more : List ℕ) × (pcm_of (later ++ ts) ≡ pcm_of ts ++ more)
pcm-later [] ts = ([], sym (append-nil (pcm_of ts)))
pcm-later (t ∷ later) ts =
    let rest = pcm-later later ts in
    (rest.0 ++ t.pcm, ap (λ z. z ++ t.pcm) rest.1 ∙ append_assoc (pcm_of ts) rest.0 t.pcm)

-- a frame's octets are those of its period's line
octets-period : (ts : List CallPeriod) (t : CallPeriod) (past : List CallPeriod) (start : ℕ) → IsCallHistory ts → IsPeriod ts t past →
    when start ≡ length past →
    take 160 (drop start (pcm_of ts)) ≡ take 160 (drop start (pcm_of (t ∷ past)))
octets-period ts t past start h p e =
    let more = pcm-later p.0 (t ∷ past) in
    let n = length-pcm_of (t ∷ past) (pcms-earlier p.0 (t ∷ past) (subst (λ us. All (λ t. length t.pcm ≡ 160) us) (sym p.1) h.pcms)) in
    let m = length-drop start (pcm_of (t ∷ past)) in
    ap (λ us. take 160 (drop start (pcm_of us))) (sym p.1) ∙ ap (λ z. take 160 (drop start z)) more.1 ∙
    ap (take 160) (drop-append-le start (pcm_of (t ∷ past)) more.0 (omega arith)) ∙ take-append-le 160 (drop start (pcm_of (t ∷ past))) more.0 (omega arith)

-- ---- what is known of a frame by its place

-- a made frame's samples are those of the call as a whole
samples-placed : (who : Who) (ts : List CallPeriod) (f : leg.CallFrame) → IsCallHistory ts → IsPlaced ts f →
    samples (call_of_history who ts) (numbered_of f) ≡ leg.samples_of who.law f
samples-placed who ts f h p =
    ap (expanded who.law) (octets-period ts p.period p.past f.start h p.is_period p.at ∙ ap (λ us. take 160 (drop f.start (pcm_of us))) (sym p.load))

-- its period is quiet in both
quiet-placed : LooksBack → (who : Who) (ts : List CallPeriod) (f : leg.CallFrame) → IsCallHistory ts → IsPlaced ts f →
    is_quiet_at (call_of_history who ts) (when f.start) ≡ quiet_now who.number f.load
quiet-placed look who ts f h p =
    ap (is_quiet_at (call_of_history who ts)) p.at ∙ ap is_quiet (effective-period look who ts p.period p.past h p.is_period)
    ∙ ap (quiet_now who.number) (sym p.load)

-- it is coded in both
pub coded-placed : LooksBack → (who : Who) (ts : List CallPeriod) (f : leg.CallFrame) → IsCallHistory ts → IsPlaced ts f →
    is_coded (call_of_history who ts) (numbered_of f) ≡ leg.is_coded who.number f
coded-placed look who ts f h p = ap (λ b. is_none f.carries && not b) (quiet-placed look who ts f h p)

samples-all : (who : Who) (ts : List CallPeriod) (fs : List leg.CallFrame) → IsCallHistory ts → ArePlaced ts fs →
    map (samples (call_of_history who ts)) (map numbered_of fs) ≡ map (leg.samples_of who.law) fs
samples-all who ts [] h p = refl
samples-all who ts (f ∷ fs) h p =
    ap (λ x. x ∷ map (samples (call_of_history who ts)) (map numbered_of fs)) (samples-placed who ts f h p.0)
    ∙ ap (λ xs. leg.samples_of who.law f ∷ xs) (samples-all who ts fs h p.1)

-- and coded as the same
pub code-placed : (who : Who) (ts : List CallPeriod) (f : leg.CallFrame) (fs : List leg.CallFrame) → IsCallHistory ts → IsPlaced ts f → ArePlaced ts fs →
    code (call_of_history who ts) (numbered_of f) (map numbered_of fs) ≡ leg.coded_after who.law f fs
code-placed who ts f fs h p ps =
    let call = call_of_history who ts in
    let q : IsPlaced ts f = p in
    ap (λ x. leg.coded_as (encoding_of x (map (samples call) (map numbered_of fs))) (setting_at call (when f.start)).level (dtx_at call (when f.start)))
    (samples-placed who ts f h p) ∙
    ap (λ xs. leg.coded_as (encoding_of (leg.samples_of who.law f) xs) (setting_at call (when f.start)).level (dtx_at call (when f.start)))
    (samples-all who ts fs h ps) ∙
    ap (λ k. leg.coded_as (encoding_of (leg.samples_of who.law f) (map (leg.samples_of who.law) fs)) (setting_at call k).level (dtx_at call k)) q.at ∙
    ap (λ s. leg.coded_as (encoding_of (leg.samples_of who.law f) (map (leg.samples_of who.law) fs)) s.level (dtx_at call (length q.past)))
    (setting-period who ts q.period q.past q.is_period) ∙
    ap (λ on. leg.coded_as (encoding_of (leg.samples_of who.law f) (map (leg.samples_of who.law) fs)) q.period.level on)
    (dtx-period who ts q.period q.past h q.is_period) ∙
    ap (λ us. leg.coded_as (encoding_of (leg.samples_of who.law f) (map (leg.samples_of who.law) fs)) (level_now us) (dtx_now us)) (sym q.load)

pub codes-placed : (who : Who) (ts : List CallPeriod) (fs : List leg.CallFrame) → IsCallHistory ts → ArePlaced ts fs →
    codes (call_of_history who ts) (map numbered_of fs) ≡ leg.coded_frames who.law fs
codes-placed who ts [] h p = refl
codes-placed who ts (f ∷ fs) h p =
    ap (λ x. x ∷ codes (call_of_history who ts) (map numbered_of fs)) (code-placed who ts f fs h p.0 p.1)
    ∙ ap (λ xs. leg.coded_after who.law f fs ∷ xs) (codes-placed who ts fs h p.1)

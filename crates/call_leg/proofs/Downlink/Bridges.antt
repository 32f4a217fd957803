-- For crates above: a bridge that is still to begin has an empty stretch (`plain-new`).
-- How many handed frames wait, and the start and the end of a bridge.
use Rattle.std.proofs.Common.{◌≡◌, refl, sym, ap, ◌∙◌, subst, ℕ, ◌+◌, ◌*◌, ◌≤◌, suc, Bool, true, false, not, ◌&&◌, ◌||◌, nat_le, Option, Some, None, is_some}
use Rattle.std.proofs.Common.{filter, List, [], ◌∷◌, length, slice_get, arith, inl, inr}
use Rattle.std.specs.Prelude.{◌==◌}
use Rattle.std.proofs.lemmas.Bool.{cond-false, cond_both, ne_eqb, true≢false, and_right}
use Rattle.std.proofs.lemmas.List.{append-nil}
use Rattle.fr_encoder.specs.Stands as encoder
use Rattle.tx_dtx.specs.Stands as tx
use Rattle.trau_params.specs.Fields.{Fields}
use Rattle.rx_handler.specs.Origin.{EffectiveFields, Quiet, Speech, Made}
use Rattle.down_framer.specs.Made.{Period, MadeFrame, next_start, latest_start, made_from, handed_due, grown, next_frame, made_frames, epoch_of}
use Rattle.down_framer.specs.Bridges.{IsHistory}
use Rattle.down_framer.specs.Stands.{Holds}
use Rattle.down_framer.proofs.Due.{hands_at-late}
use Rattle.down_framer.proofs.Waiting.{Phase, phase}
use Rattle.call_leg.specs.Who.{Who}
use Rattle.call_leg.specs.Periods.{CallPeriod, pcm_of, bridges_begun, effective_now}
use Rattle.call_leg.specs.Down.{CallFrame, down_periods, frames_of, is_coded, coded_stretch, down_made}
use Rattle.call_leg.specs.Out.{plain_with, plain_stretch}
use Rattle.call_leg.specs.Waiting.{bits_in, Waits}
use Rattle.call_leg.specs.Settings.{Settings, epoch_now, with_bridge, without_bridge}
use Rattle.call_leg.specs.Memory.{DownMemory}
use Rattle.call_leg.specs.Places.{CoderStands, Halfway, Between, is_draining, carried, in_u32}
use Rattle.call_leg.proofs.Downlink.Queue.{waits-some}
use Rattle.call_leg.proofs.Downlink.Step.{begun-same}
use Rattle.call_leg.proofs.Downlink.Enter.{place-none, was}

-- ---- between periods at most one frame waits

-- at most one waits where none is behind the first
short : (q : List (List ℕ)) → slice_get q 1 ≡ None → length q ≤ 1
short [] e = omega arith
short (x ∷ []) e = omega arith
short (x ∷ y ∷ ys) e = cc

pub queue-short : (past : List CallPeriod) (q : List (List ℕ)) → IsHistory (down_periods past) → Waits past (frames_of past) q → length q ≤ 1
queue-short past q h w = go (latest_start (down_periods past)) refl
  where
    by_phase : (s : ℕ) → latest_start (down_periods past) ≡ Some s → Phase s (down_periods past) (frames_of past) → length q ≤ 1
    by_phase s e (inl v) = short q (was past (frames_of past) q (Some s) w e 1
        ∙ ap (bits_in past) (place-none (down_periods past) (frames_of past) s 1 (s + made_from s (frames_of past) + 1) refl
        (v.over (s + made_from s (frames_of past) + 1) (omega arith))))
    by_phase s e (inr b) =
        let late = b.newest in
        short q (was past (frames_of past) q (Some s) w e 1
        ∙ ap (bits_in past) (place-none (down_periods past) (frames_of past) s 1 (s + made_from s (frames_of past) + 1) refl
        (hands_at-late (down_periods past) (s + made_from s (frames_of past) + 1) (omega arith))))

    go : (o : Option ℕ) → latest_start (down_periods past) ≡ o → length q ≤ 1
    go None e = short q (was past (frames_of past) q None w e 1)
    go (Some s) e = by_phase s e (phase (down_periods past) s h e)

-- before the handing over at most one waits
pub halfway-short : (who : Who) (ts : List CallPeriod) (now : Settings) (up : List ℕ) (d : DownMemory) → Halfway who ts now up None d → length d.waiting ≤ 1
halfway-short who ts now up d h = subst (λ z. length z ≤ 1) (sym (h.waits.2 ∙ append-nil h.waits.0)) (queue-short ts h.waits.0 h.history h.waits.1)

-- ---- no frame and no period is of an epoch to come

abbrev Within : {A : Type 0} → ℕ → List (MadeFrame A) → Type 0
Within e [] = Unit {0}
Within e (f ∷ fs) = (f.epoch ≤ e) × Within e fs

-- no frame is of a later bridge than the latest that started
grown-within : {A : Type 0} (p : Period A) (past : List (Period A)) (fs : List (MadeFrame A)) → Within (epoch_of (p ∷ past)) fs →
    Within (epoch_of (p ∷ past)) (grown p past fs)
grown-within p past fs b = cond_both (nat_le (next_start fs) (160 * length past)) (next_frame p past fs ∷ fs) fs (Within (epoch_of (p ∷ past)))
    (λ y. (omega arith, b)) (λ n. b)

-- frames of earlier bridges are of earlier ones than a later number
within-more : {A : Type 0} (a b : ℕ) (fs : List (MadeFrame A)) → a ≤ b → Within a fs → Within b fs
within-more a b [] l w = tt
within-more a b (f ∷ fs) l w = let x = w.0 in (omega arith, within-more a b fs l w.1)

epoch-more : {A : Type 0} (p : Period A) (past : List (Period A)) → epoch_of past ≤ epoch_of (p ∷ past)
epoch-more p past = cond_both p.starts (p ∷ filter (λ p. p.starts) past) (filter (λ p. p.starts) past) (λ z. length (filter (λ p. p.starts) past) ≤ length z)
    (λ y. omega arith) (λ n. omega arith)

made-within : {A : Type 0} (ps : List (Period A)) → Within (epoch_of ps) (made_frames ps)
made-within [] = tt
made-within (p ∷ past) = grown-within p past (grown p past (made_frames past))
    (grown-within p past (made_frames past) (within-more (epoch_of past) (epoch_of (p ∷ past)) (made_frames past) (epoch-more p past) (made-within past)))

-- so a new bridge has no coded frame yet
stretch-new : (c e : ℕ) (fs : List CallFrame) → Within e fs → coded_stretch c (suc e) fs ≡ []
stretch-new c e [] w = refl
stretch-new c e (f ∷ fs) w =
    cond-false (is_coded c f && f.epoch == suc e) (f ∷ coded_stretch c (suc e) fs) []
    (and_right (is_coded c f) (f.epoch == suc e) (ne_eqb f.epoch (suc e) (λ q. let x = w.0 in omega arith)))

-- a new bridge has sent no handed frame
carried_none : (e : ℕ) (fs : List CallFrame) → Within e fs → carried (suc e) fs ≡ 0
carried_none e [] w = refl
carried_none e (f ∷ fs) w =
    cond-false (is_some f.carries && f.epoch == suc e) (suc (carried (suc e) fs)) (carried (suc e) fs)
    (and_right (is_some f.carries) (f.epoch == suc e) (ne_eqb f.epoch (suc e) (λ q. let x = w.0 in omega arith)))
    ∙ carried_none e fs w.1

carried-new : (c : ℕ) (ts : List CallPeriod) → carried (suc (bridges_begun ts)) (frames_of ts) ≡ 0
carried-new c ts = carried_none (bridges_begun ts) (frames_of ts) (subst (λ e. Within e (frames_of ts)) (begun-same ts) (made-within (down_periods ts)))

pub coded-new : (c : ℕ) (ts : List CallPeriod) → coded_stretch c (suc (bridges_begun ts)) (frames_of ts) ≡ []
coded-new c ts = stretch-new c (bridges_begun ts) (frames_of ts) (subst (λ e. Within e (frames_of ts)) (begun-same ts) (made-within (down_periods ts)))

-- a period in a bridge ends the stretch of plain ones
plain-not : (e : EffectiveFields) (b : Bool) (more : List Fields) → b ≡ false → plain_with e b more ≡ []
plain-not Quiet b more q = refl
plain-not (Speech p) b more q = cond-false b (p ∷ more) [] q
plain-not (Made p) b more q = cond-false b (p ∷ more) [] q

-- so a new bridge starts one
pub plain-new : (c : ℕ) (ts : List CallPeriod) → plain_stretch c (suc (bridges_begun ts)) ts ≡ []
plain-new c [] = refl
plain-new c (t ∷ past) =
    plain-not (effective_now c (t ∷ past)) _ _ (and_right (not (is_some t.handed)) (bridges_begun (t ∷ past) == suc (bridges_begun (t ∷ past)))
    (ne_eqb (bridges_begun (t ∷ past)) (suc (bridges_begun (t ∷ past))) (λ q. omega arith)))

-- ---- a bridge starts, and ends

-- a bridge starts
pub begins : (who : Who) (ts : List CallPeriod) (now : Settings) (d d1 : DownMemory) → handed_due (down_periods ts) (frames_of ts) ≡ None →
    Between who ts now d →
    d1.align.kept ≡ d.align.kept → d1.align.frozen ≡ true → encoder.Stands [] d1.coder.encoder → tx.Stands [] d1.coder.tx → d1.bridged ≡ true →
    d1.law ≡ d.law → d1.framer ≡ d.framer → d1.waiting ≡ d.waiting → d1.level ≡ d.level → d1.mode ≡ d.mode → d1.dtxd ≡ d.dtxd → d1.sent ≡ 0 → d1.made ≡ d.made →
    Between who ts (with_bridge now) d1
begins who ts now d d1 n h ek ez en tx br la ef qu lv md ul sn mn = record {
  held = record {
    law = la ∙ h.law;
    pcms = h.pcms;
    history = h.history;
    places = subst (λ z. Holds (pcm_of ts) (down_made who (frames_of ts)) (320 * length (down_periods ts)) (next_start (frames_of ts)) z) (sym ef) h.places;
    frozen = ez;
    coded = subst (λ z. CoderStands who.law z d1.coder) (sym (coded-new who.number ts)) (record { encoder = en; tx = tx });
    sent = sn ∙ sym (ap in_u32 (carried-new who.number ts));
    made = mn ∙ h.made;
    level = lv ∙ h.level;
    mode = md ∙ h.mode;
    bridged = br;
    alone = λ e. n;
    goes_on = λ e. refl;
  };
  ahead = h.ahead;
  come = h.come;
  line = h.line;
  waits = subst (Waits ts (frames_of ts)) (sym qu) h.waits;
  kept = ek ∙ h.kept;
  dtxd = ul ∙ h.dtxd;
}

-- a bridge ends
pub ends : (who : Who) (ts : List CallPeriod) (now : Settings) (d d1 : DownMemory) → now.bridged ≡ true → Between who ts now d →
    d1.align.kept ≡ d.align.kept → d1.align.frozen ≡ (d.align.frozen && (false || not (length d.waiting == 0))) → d1.bridged ≡ false →
    d1.law ≡ d.law → d1.framer ≡ d.framer → d1.waiting ≡ d.waiting → d1.coder ≡ d.coder → d1.level ≡ d.level → d1.mode ≡ d.mode → d1.dtxd ≡ d.dtxd →
    d1.sent ≡ d.sent → d1.made ≡ d.made → Between who ts (without_bridge now) d1
ends who ts now d d1 b h ek ez br la ef qu co lv md ul sn mn = record {
  held = record {
    law = la ∙ h.law;
    pcms = h.pcms;
    history = h.history;
    places = subst (λ z. Holds (pcm_of ts) (down_made who (frames_of ts)) (320 * length (down_periods ts)) (next_start (frames_of ts)) z) (sym ef) h.places;
    frozen = ez ∙ ap (λ z. z && not (length d.waiting == 0)) (h.frozen ∙ ap (λ z. z || is_some (handed_due (down_periods ts) (frames_of ts))) b)
        ∙ waits-some ts (frames_of ts) d.waiting h.waits;
    coded = subst (CoderStands who.law (coded_stretch who.number (epoch_now ts now) (frames_of ts))) (sym co) h.coded;
    sent = sn ∙ h.sent;
    made = mn ∙ h.made;
    level = lv ∙ h.level;
    mode = md ∙ h.mode;
    bridged = br;
    alone = h.alone;
    goes_on = λ e. absurd (true≢false (sym e));
  };
  ahead = h.ahead;
  come = h.come;
  line = h.line;
  waits = subst (Waits ts (frames_of ts)) (sym qu) h.waits;
  kept = ek ∙ h.kept;
  dtxd = ul ∙ h.dtxd;
}

-- a leg drains where its call does
pub drains : (who : Who) (ts : List CallPeriod) (now : Settings) (d : DownMemory) → Between who ts now d → (not d.bridged && not (length d.waiting == 0))
    ≡ is_draining ts now
drains who ts now d h = ap (λ z. not z && not (length d.waiting == 0)) h.bridged
    ∙ ap (λ z. not now.bridged && z) (waits-some ts (frames_of ts) d.waiting h.waits)

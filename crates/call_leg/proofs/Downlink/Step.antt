-- For crates above: the downlink counts the bridges of the call's history (`begun-same`).
-- The downlink half, when one more frame is made.
use Rattle.std.proofs.Common.{◌≡◌, refl, sym, ap, ◌∙◌, subst, ℕ, ◌+◌, ◌-◌, ◌*◌, ◌≤◌, ◌<◌, suc, ℤ, pos, Bool, true, false, not, ◌&&◌, ◌||◌, if◌then◌else◌}
use Rattle.std.proofs.Common.{Option, Some, None, is_some, unwrap_or, filter, List, [], ◌∷◌, ◌++◌, length, drop, length-append, length-drop, arith, min}
use Rattle.std.specs.Prelude.{◌==◌}
use Rattle.std.proofs.lemmas.Bool.{cond-true, cond-false, eq-eqb}
use Rattle.time_align.specs.Shift.{IsShift, latest_shift}
use Rattle.down_framer.specs.Made.{octets_to_next, next_start, handed_due, counted_fields, next_frame, epoch_of, frame_on_line}
use Rattle.down_framer.specs.Stands.{Holds}
use Rattle.down_framer.proofs.Store.{length-frame_on_line}
use Rattle.call_leg.specs.Who.{Who}
use Rattle.call_leg.specs.Periods.{CallPeriod, pcm_of, bridges_begun}
use Rattle.call_leg.specs.Down.{CallFrame, down_period, down_periods, coded_stretch, bits_now, down_made}
use Rattle.call_leg.specs.Waiting.{Waits}
use Rattle.call_leg.specs.Memory.{DownMemory}
use Rattle.call_leg.specs.Places.{CoderStands, carried, in_u64}
use Rattle.call_leg.proofs.Downlink.Inside.{Inside}
use Rattle.call_leg.proofs.Downlink.Queue.{waits-next, waits-some, none_due, thawed, adopted, kept-next}

abbrev pub next : CallPeriod → List CallPeriod → List CallFrame → CallFrame
next t past fs = next_frame (down_period t past) (down_periods past) fs

-- the downlink counts the bridges of the call
pub begun-same : (ts : List CallPeriod) → epoch_of (down_periods ts) ≡ bridges_begun ts
begun-same [] = refl
begun-same (t ∷ past) = go t.starts (begun-same past)
  where
    go : (b : Bool) → epoch_of (down_periods past) ≡ bridges_begun past →
        length (if b then down_period t past ∷ filter (λ p. p.starts) (down_periods past) else filter (λ p. p.starts) (down_periods past))
        ≡ length (if b then t ∷ filter (λ t. t.starts) past else filter (λ t. t.starts) past)
    go true e = ap suc e
    go false e = e

-- a frame is ready where its last octet has come
pub come : (who : Who) (t : CallPeriod) (past : List CallPeriod) (fs : List CallFrame) (d : DownMemory) → Inside who t past fs d → 160 ≤ length d.framer.held →
    next_start fs ≤ 160 * length (down_periods past)
come who t past fs d h r =
    let long = h.long in
    let n : length d.framer.held ≡ length (pcm_of (t ∷ past)) - next_start fs = ap length h.places.held ∙ length-drop (next_start fs) (pcm_of (t ∷ past)) in
    omega arith

-- the frame's octets haven't all come
pub not_come : (who : Who) (t : CallPeriod) (past : List CallPeriod) (fs : List CallFrame) (d : DownMemory) → Inside who t past fs d →
    length d.framer.held < 160 → 160 * length (down_periods past) < next_start fs
not_come who t past fs d h r =
    let long = h.long in
    let n : length d.framer.held ≡ length (pcm_of (t ∷ past)) - next_start fs = ap length h.places.held ∙ length-drop (next_start fs) (pcm_of (t ∷ past)) in
    omega arith

-- within a bridge a frame that is ready carries one
pub carries_one : (who : Who) (t : CallPeriod) (past : List CallPeriod) (fs : List CallFrame) (d : DownMemory) → Inside who t past fs d →
    160 ≤ length d.framer.held →
    is_some t.handed ≡ true → handed_due (down_periods (t ∷ past)) fs ≡ None → ⊥
carries_one who t past fs d h r b e = let late = h.punctual b e in let now = come who t past fs d h r in omega arith

-- one more is sent, where one waited
sent-next : (n old new : ℕ) (b w eq : Bool) → eq ≡ true → w ≡ b → old ≡ min n 4294967295 → new ≡ (if w then min (old + 1) 4294967295 else old) →
    new ≡ min (if b && eq then suc n else n) 4294967295
sent-next n old new true w eq e eb eo en =
    en ∙ cond-true w (min (old + 1) 4294967295) old eb ∙ (let x : min (old + 1) 4294967295 ≡ min (suc n) 4294967295 = omega arith in x)
    ∙ sym (ap (λ k. min k 4294967295) (cond-true eq (suc n) n e))
sent-next n old new false w eq e eb eo en = en ∙ cond-false w (min (old + 1) 4294967295) old eb ∙ eo

-- one frame more, counted up to the last value
made-next : (n old : ℕ) → old ≡ in_u64 n → in_u64 (old + 1) ≡ in_u64 (suc n)
made-next n old e = omega arith

-- the shift that is adopted is the frame's
pub shift_is : (who : Who) (t : CallPeriod) (past : List CallPeriod) (fs : List CallFrame) (d : DownMemory) → Inside who t past fs d →
    160 ≤ length d.framer.held →
    (if d.align.frozen then pos 0 else unwrap_or d.align.kept (pos 0)) ≡ (next t past fs).shift
shift_is who t past fs d h r =
    adopted (handed_due (down_periods (t ∷ past)) fs) (is_some t.handed) d.align.frozen (unwrap_or d.align.kept (pos 0))
    (latest_shift (counted_fields (down_periods (t ∷ past)) fs))
    h.frozen (carries_one who t past fs d h r) (ap (λ o. unwrap_or o (pos 0)) h.kept)

-- a frame that carries something is 160 octets long
zero_shift : (o : Option ℕ) (v : ℤ) → (o ≡ None → ⊥) → octets_to_next (elim o as (λ x. ℤ) [ None ↦ v | Some h ↦ pos 0 ]) ≡ 160
zero_shift None v n = absurd (n refl)
zero_shift (Some h) v n = refl

-- a frame more
pub inside-next : (who : Who) (t : CallPeriod) (past : List CallPeriod) (fs : List CallFrame) (old new : DownMemory) (b : List ℕ) (shift : ℤ) →
    Inside who t past fs old → 160 ≤ length old.framer.held →
    length b ≡ 320 → b ≡ bits_now who (next t past fs ∷ fs) → IsShift shift →
    shift ≡ (if old.align.frozen then pos 0 else unwrap_or old.align.kept (pos 0)) →
    new.waiting ≡ drop 1 old.waiting →
    CoderStands who.law (coded_stretch who.number (next t past fs).epoch (next t past fs ∷ fs)) new.coder →
    new.align.kept ≡ (if old.align.frozen then old.align.kept else None) →
    new.align.frozen ≡ (old.align.frozen && (old.bridged || not (length new.waiting == 0))) →
    ((pcm line : List ℕ) (out start : ℕ) → out ≤ length line → Holds pcm line out start old.framer → Holds pcm (line ++ frame_on_line shift b) out
    (start + octets_to_next shift) new.framer) →
    new.law ≡ old.law → new.level ≡ old.level → new.mode ≡ old.mode → new.dtxd ≡ old.dtxd → new.quiet ≡ old.quiet → new.bridged ≡ old.bridged →
    new.sent ≡ (if not (length old.waiting == 0) then min (old.sent + 1) 4294967295 else old.sent) →
    new.made ≡ in_u64 (old.made + 1) →
    Inside who t past (next t past fs ∷ fs) new
inside-next who t past fs old new b shift h r lb eb sh es eq cd ek ef pl la lv md up qu br sn mn =
    let ts : List CallPeriod = t ∷ past in
    let ps = down_periods (t ∷ past) in
    let f = next t past fs in
    let long = h.long in
    let low = h.low in
    let line = h.line in
    let shift_now : shift ≡ f.shift = es ∙ shift_is who t past fs old h r in
    let w : Waits ts (f ∷ fs) new.waiting = subst (Waits ts (f ∷ fs)) (sym eq) (waits-next t past fs old.waiting h.waits) in
    let some_now = waits-some ts (f ∷ fs) new.waiting w in
    record {
      law = la ∙ h.law;
      long = long;
      low = omega arith;
      line = ap (λ v. length (down_made who fs ++ frame_on_line v (bits_now who (f ∷ fs)))) (sym shift_now) ∙
          ap (λ z. length (down_made who fs ++ frame_on_line shift z)) (sym eb) ∙ length-append (down_made who fs) (frame_on_line shift b) ∙
          (let n = length-frame_on_line shift b sh lb in let o : octets_to_next shift ≡ octets_to_next f.shift = ap octets_to_next shift_now in omega arith);
      places = subst (λ v. Holds (pcm_of ts) (down_made who fs ++ frame_on_line v (bits_now who (f ∷ fs))) (320 * length (down_periods past))
          (next_start fs + octets_to_next v) new.framer) shift_now
          (subst (λ z. Holds (pcm_of ts) (down_made who fs ++ frame_on_line shift z) (320 * length (down_periods past)) (next_start fs + octets_to_next shift)
          new.framer) eb
          (pl (pcm_of ts) (down_made who fs) (320 * length (down_periods past)) (next_start fs) (omega arith) h.places));
      waits = w;
      kept = ek ∙ kept-next ps f fs (handed_due ps fs) (is_some t.handed) old.align.frozen old.align.kept refl (omega arith) h.frozen
          (carries_one who t past fs old h r) h.kept;
      frozen = ef ∙ ap (λ z. z && (old.bridged || not (length new.waiting == 0))) h.frozen ∙
          ap (λ z. (is_some t.handed || is_some (handed_due ps fs)) && (z || not (length new.waiting == 0))) h.bridged ∙
          ap (λ z. (is_some t.handed || is_some (handed_due ps fs)) && (is_some t.handed || z)) some_now ∙
          thawed (is_some t.handed) (is_some (handed_due ps fs)) (is_some (handed_due ps (f ∷ fs))) (none_due t past fs old.waiting h.waits);
      punctual = λ y n.
          let z : octets_to_next f.shift ≡ 160 = zero_shift (handed_due ps fs) (latest_shift (counted_fields ps fs)) (carries_one who t past fs old h r y) in
          omega arith;
      coded = subst (λ e. CoderStands who.law (coded_stretch who.number e (f ∷ fs)) new.coder) (begun-same ts) cd;
      sent = sent-next (carried (bridges_begun ts) fs) old.sent new.sent (is_some (handed_due ps fs)) (not (length old.waiting == 0))
          (f.epoch == bridges_begun ts)
          (eq-eqb f.epoch (bridges_begun ts) (begun-same ts))
          (waits-some ts fs old.waiting h.waits) h.sent sn;
      made = mn ∙ made-next (length fs) old.made h.made;
      level = lv ∙ h.level;
      mode = md ∙ h.mode;
      dtxd = up ∙ h.dtxd;
      quiet = qu ∙ h.quiet;
      bridged = br ∙ h.bridged;
    }

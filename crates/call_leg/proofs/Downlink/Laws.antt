-- The downlink half of a period, on any memory that stands.
use Rattle.std.proofs.Common.{◌≡◌, refl, sym, ap, ◌∙◌, subst, ℕ, ◌-◌, ◌≤◌, ℤ, Bool, true, false, not, ◌&&◌, ◌||◌, if◌then◌else◌, nat_le, Option, Some, None}
use Rattle.std.proofs.Common.{is_some, unwrap_or, List, [], ◌∷◌, ◌++◌, length, map, take, drop, slice_get, length-append, arith, inl, inr}
use Rattle.std.specs.Prelude.{◌==◌}
use Rattle.std.proofs.lemmas.Bool.{cond-true, cond-false, cases_lt, lt-leb, le-leb}
use Rattle.circular_buffer.specs.Buffer.{keep_last}
use Rattle.trau_frame.specs.declared.frames.DownFrame.TheVariants as frame
use Rattle.trau_frame.specs.DownFrame as frames
use Rattle.trau_frame.proofs.Again.{length-down_bits}
use Rattle.fr_encoder.specs.Encoded.{encoding_of}
use Rattle.fr_encoder.specs.Stands as encoder
use Rattle.fr_encoder.specs.Step.{encoded_frame}
use Rattle.fr_encoder.proofs.Frames as encoding
use Rattle.tx_dtx.specs.Stretch.{Coded}
use Rattle.tx_dtx.specs.Sent.{sent_of}
use Rattle.tx_dtx.specs.Stands as tx
use Rattle.tx_dtx.specs.Memory.{home_memory as tx_home}
use Rattle.tx_dtx.specs.Step.{next_sent}
use Rattle.tx_dtx.proofs.Sending.{step-stands}
use Rattle.time_align.specs.Shift.{IsShift}
use Rattle.time_align.specs.Memory as align
use Rattle.time_align.specs.Step.{after_thaw, adopted}
use Rattle.down_framer.specs.Made.{grown}
use Rattle.down_framer.specs.Step.{after_put}
use Rattle.down_framer.proofs.Calls.{put-holds, frame-holds, take-holds}
use Rattle.down_framer.proofs.Timing.{IsShift-shift_due}
use Rattle.down_framer.proofs.Due.{none_made, one_made}
use Rattle.trau_alaw.specs.declared.Law.{Law}
use Rattle.trau_alaw.specs.Period.{expanded}
use Rattle.call_leg.specs.Who.{Who}
use Rattle.call_leg.specs.Periods.{CallPeriod, pcm_of, quiet_now, handed_in, dtx_in, dtx_now, level_now}
use Rattle.call_leg.specs.Settings.{Settings, settings_later, period_with}
use Rattle.call_leg.specs.Down.{CallFrame, down_period, down_periods, frames_of, coded_stretch, samples_of, coded_as, coded_after, coded_frames, speech}
use Rattle.call_leg.specs.Down.{frame_now, down_now}
use Rattle.call_leg.specs.Waiting.{bits_in}
use Rattle.call_leg.specs.Memory.{CoderMemory, home_coder, DownMemory}
use Rattle.call_leg.specs.Places.{CoderStands, Halfway, Between}
use Rattle.call_leg.proofs.Downlink.Inside.{Inside}
use Rattle.call_leg.specs.Step.{thawed, own_next, next_by, frame_made, frame_tried, with_framer, down_worked}
use Rattle.call_leg.proofs.Downlink.Shifts.{adopted-shift, adopted-kept, adopted-frozen}
use Rattle.call_leg.proofs.Downlink.Stretch.{stretch-coded, frame-coded, stretch-carries, frame-carries, stretch-quiet, frame-quiet}
use Rattle.call_leg.proofs.Downlink.Queue.{waits-first}
use Rattle.call_leg.proofs.Downlink.Step.{next, begun-same, come, not_come, shift_is, inside-next}
use Rattle.call_leg.proofs.Downlink.Period.{enter, leave}

-- ---- the handing over

-- one more waits where at most one did
pub one_more : (q : List (List ℕ)) (x : List ℕ) → length q ≤ 1 → keep_last 2 (q ++ x ∷ []) ≡ q ++ x ∷ []
one_more q x l =
    let n = length-append q (x ∷ []) in
    let z : length (q ++ x ∷ []) - 2 ≡ 0 = omega arith in
    ap (λ k. drop k (q ++ x ∷ [])) z

-- ---- the coder

-- the transmit side's initial memory stands for no frames
pub home_tx-stands : tx.Stands [] tx_home
home_tx-stands = record { run = refl; elapsed = refl; hangs = λ l. absurd (omega arith); sid = tt; recent = refl }

-- the coder's initial memory stands for no frames
home-stands : (law : Law) → CoderStands law [] home_coder
home-stands law = record { encoder = encoding.home-stands; tx = home_tx-stands }

-- the next frame of a stretch, where no handed one waits
own-stands : (who : Who) (f : CallFrame) (fs : List CallFrame) (m : CoderMemory) (held : List ℕ) (quiet : Bool) (level : ℤ) (on : Bool) → f.carries ≡ None →
    quiet ≡ quiet_now who.number f.load → level ≡ level_now f.load → on ≡ dtx_now f.load → take 160 held ≡ take 160 (drop f.start (pcm_of f.load)) →
    CoderStands who.law (coded_stretch who.number f.epoch fs) m →
    CoderStands who.law (coded_stretch who.number f.epoch (f ∷ fs)) (own_next who.law m held quiet level on).1 × ((own_next who.law m held quiet level on).0
    ≡ frame_now who (f ∷ fs))
own-stands who f fs m held true level on e eq el eo et h = (
  subst (λ z. CoderStands who.law z home_coder) (sym (stretch-quiet who.number f.epoch f fs (sym eq))) (home-stands who.law),
  sym
      (frame-quiet who f fs e (sym eq)),
)
own-stands who f fs m held false level on e eq el eo et h =
    let before = coded_stretch who.number f.epoch fs in
    let rest = map (samples_of who.law) before in
    let x = expanded who.law (take 160 held) in
    let se : x ≡ samples_of who.law f = ap (expanded who.law) et in
    let coded = encoded_frame m.encoder x in
    let enc = encoding.frame-stands x rest m.encoder h.encoder in
    let c : Coded = coded_as coded.0 level on in
    let one : c ≡ coded_after who.law f before =
    ap (λ z. coded_as z level on) (enc.1 ∙ ap (λ y. encoding_of y rest) se) ∙ ap (λ v. coded_as (encoding_of (samples_of who.law f) rest) v on) el
    ∙ ap (λ b. coded_as (encoding_of (samples_of who.law f) rest) (level_now f.load) b) eo in
    let sent = step-stands c (coded_frames who.law before) m.tx h.tx in (
      subst (λ z. CoderStands who.law z (own_next who.law m held false level on).1) (sym (stretch-coded who.number f fs e (sym eq))) (record {
        encoder = subst (λ y. encoder.Stands (y ∷ rest) coded.1) se enc.0;
        tx = subst (λ z. tx.Stands (z ∷ coded_frames who.law before) (next_sent m.tx c).1) one sent.0;
      }),
      ap speech (sent.1 ∙ ap (λ z. sent_of z (coded_frames who.law before)) one) ∙ sym (frame-coded who f fs e (sym eq)),
    )

-- what a frame carries, by the one that waits longest
none_carried : (ts : List CallPeriod) (o : Option ℕ) → None ≡ bits_in ts o → o ≡ None
none_carried ts None e = refl
none_carried ts (Some h) e = cc

one_carried : (ts : List CallPeriod) (o : Option ℕ) (x : List ℕ) → Some x ≡ bits_in ts o → (h : ℕ) × (o ≡ Some h) × (x ≡ handed_in h ts)
one_carried ts None x e = cc
one_carried ts (Some h) x e = (h, refl, ap (λ o. unwrap_or o []) e)

-- the next frame of a stretch, whatever waits
next-stands : (who : Who) (f : CallFrame) (fs : List CallFrame) (q : List (List ℕ)) (m : CoderMemory) (held : List ℕ) (quiet : Bool) (level : ℤ) (on : Bool) →
    slice_get q 0 ≡ bits_in f.load f.carries →
    quiet ≡ quiet_now who.number f.load → level ≡ level_now f.load → on ≡ dtx_now f.load → take 160 held ≡ take 160 (drop f.start (pcm_of f.load)) →
    CoderStands who.law (coded_stretch who.number f.epoch fs) m →
    CoderStands who.law (coded_stretch who.number f.epoch (f ∷ fs)) (next_by who.law q m held quiet level on).1 × ((next_by who.law q m held quiet level on).0
    ≡ frame_now who (f ∷ fs))
next-stands who f fs [] m held quiet level on e eq el eo et h = own-stands who f fs m held quiet level on (none_carried f.load f.carries e) eq el eo et h
next-stands who f fs (x ∷ more) m held quiet level on e eq el eo et h =
    let k = one_carried f.load f.carries x e in (
      subst (λ z. CoderStands who.law z home_coder) (sym (stretch-carries who.number f.epoch k.0 f fs k.1)) (home-stands who.law),
      ap (λ b. frame.Speech b true) k.2 ∙ sym (frame-carries who k.0 f fs k.1),
    )

-- ---- the shifts

-- thawing keeps the shift that was asked for
pub thawed-kept : (m : align.AlignMemory) (bridged : Bool) (q : List (List ℕ)) → (thawed m bridged q).kept ≡ m.kept
thawed-kept m bridged q = go (bridged || not (length q == 0))
  where
    go : (b : Bool) → (if b then m else after_thaw m).kept ≡ m.kept
    go true = refl
    go false = refl

-- shifts that are frozen stay so as long as a bridge is on or a frame waits
pub thawed-frozen : (m : align.AlignMemory) (bridged : Bool) (q : List (List ℕ)) → (thawed m bridged q).frozen ≡ (m.frozen && (bridged || not (length q == 0)))
thawed-frozen m bridged q = go m.frozen (bridged || not (length q == 0)) refl
  where
    go : (f b : Bool) → m.frozen ≡ f → (if b then m else after_thaw m).frozen ≡ (f && b)
    go true true e = e
    go true false e = refl
    go false true e = e
    go false false e = refl

-- ---- frames are made

-- a frame is made
made-inside : (who : Who) (t : CallPeriod) (past : List CallPeriod) (fs : List CallFrame) (d : DownMemory) → 160 ≤ length d.framer.held →
    Inside who t past fs d →
    Inside who t past (next t past fs ∷ fs) (frame_made d)
unfolding frame_made
made-inside who t past fs d r h =
    let f = next t past fs in
    let on = dtx_in d.mode d.dtxd in
    let made = next_by d.law d.waiting d.coder d.framer.held d.quiet d.level on in
    let bits = frames.down_bits made.0 in
    let now = adopted d.align in
    let es = adopted-shift d.align in
    let legal : IsShift now.0 = subst IsShift (sym (es ∙ shift_is who t past fs d h r)) (IsShift-shift_due (down_periods (t ∷ past)) fs) in
    let sent = next-stands who f fs d.waiting d.coder d.framer.held d.quiet d.level on (waits-first (t ∷ past) fs d.waiting h.waits) h.quiet h.level
    (ap (λ m. dtx_in m d.dtxd) h.mode ∙ ap (λ u. dtx_in t.mode u) h.dtxd) (ap (take 160) h.places.held)
    (subst (λ e. CoderStands who.law (coded_stretch who.number e fs) d.coder) (sym (begun-same (t ∷ past))) h.coded) in
    let fr = subst (λ (l : Law). let n = next_by l d.waiting d.coder d.framer.held d.quiet d.level on in CoderStands who.law
    (coded_stretch who.number f.epoch (f ∷ fs)) n.1 × (n.0 ≡ frame_now who (f ∷ fs))) (sym h.law) sent in
    inside-next who t past fs d _ bits now.0 h r (length-down_bits made.0) (ap frames.down_bits fr.1) legal es refl fr.0
    (thawed-kept now.1 d.bridged (drop 1 d.waiting) ∙ adopted-kept d.align)
    (thawed-frozen now.1 d.bridged (drop 1 d.waiting) ∙ ap (λ z. z && (d.bridged || not (length (drop 1 d.waiting) == 0))) (adopted-frozen d.align))
    (λ pcm line out start l p. frame-holds d.framer bits now.0 pcm line out start r l p) refl refl refl refl refl refl refl refl

-- a frame is made if it has come
tried-inside : (who : Who) (t : CallPeriod) (past : List CallPeriod) (fs : List CallFrame) (d : DownMemory) → Inside who t past fs d →
    Inside who t past (grown (down_period t past) (down_periods past) fs) (frame_tried d)
tried-inside who t past fs d h =
    let p = down_period t past in
    let ps = down_periods past in
    elim (cases_lt (length d.framer.held) 160) [
      | inl l ↦ subst (λ gs. Inside who t past gs (frame_tried d)) (sym (none_made p ps fs (not_come who t past fs d h l)))
          (subst (Inside who t past fs) (sym (cond-false (nat_le 160 (length d.framer.held)) (frame_made d) d (lt-leb _ _ l))) h)
      | inr r ↦ subst (λ gs. Inside who t past gs (frame_tried d)) (sym (one_made p ps fs (come who t past fs d h r)))
          (subst (Inside who t past (next t past fs ∷ fs)) (sym (cond-true (nat_le 160 (length d.framer.held)) (frame_made d) d (le-leb _ _ r)))
          (made-inside who t past fs d r h))
    ]

-- ---- the downlink half

-- **The downlink half of a period.**
pub half-stands : (who : Who) (ts : List CallPeriod) (now : Settings) (up pcm : List ℕ) (handed : Option (List ℕ)) (d : DownMemory) → length pcm ≡ 160 →
    is_some handed ≡ now.bridged →
    Halfway who ts now up handed d → Between who (period_with now up pcm handed ∷ ts) (settings_later now) (down_worked d pcm).1
    × ((down_worked d pcm).0 ≡ down_now who (period_with now up pcm handed ∷ ts))
unfolding down_worked
half-stands who ts now up pcm handed d l b h =
    let t : CallPeriod = period_with now up pcm handed in
    let put = with_framer d (after_put d.framer pcm) in
    let i0 = enter who ts now up handed pcm d put l b h (λ pcm0 line out start p. put-holds d.framer pcm pcm0 line out start l p) refl refl refl refl refl refl
    refl refl refl refl refl in
    let i1 = tried-inside who t ts (frames_of ts) put i0 in
    let i2 : Inside who t ts (frames_of (t ∷ ts)) (frame_tried (frame_tried put)) = tried-inside who t ts
    (grown (down_period t ts) (down_periods ts) (frames_of ts)) (frame_tried put) i1 in
    let made = frame_tried (frame_tried put) in (
      leave who ts now up handed pcm d made l b h i2 _ (λ pcm0 line out start p. take-holds made.framer pcm0 line out start p) refl refl refl refl refl refl refl
          refl refl refl,
      ap (take 320) i2.places.stored,
    )

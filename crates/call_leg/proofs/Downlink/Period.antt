-- The downlink half over a whole period.
use Rattle.std.proofs.Common.{◌≡◌, refl, sym, ap, ◌∙◌, subst, ℕ, ◌+◌, ◌-◌, ◌*◌, ◌<◌, suc, Bool, true, false, not, ◌||◌, if◌then◌else◌, nat_le, Option, Some}
use Rattle.std.proofs.Common.{None, is_some, List, [], ◌∷◌, ◌++◌, length, map, take, find, is_none, option_to_list, length-append, filter, All, arith}
use Rattle.std.specs.Prelude.{◌==◌}
use Rattle.std.proofs.lemmas.Bool.{cond_both, ne_eqb, true≢false}
use Rattle.std.proofs.lemmas.List.{append-nil}
use Rattle.std.proofs.lemmas.List.Elements.{All-cons, All-head, All-tail}
use Rattle.time_align.specs.Shift.{latest_ask}
use Rattle.down_framer.specs.Made.{Period, MadeFrame, next_start, handed_due, counted_fields, grown, next_frame, made_frames}
use Rattle.down_framer.specs.Bridges.{IsHistory}
use Rattle.down_framer.specs.Stands.{Holds}
use Rattle.down_framer.proofs.Timing.{AreMade-made_frames}
use Rattle.call_leg.specs.Who.{Who}
use Rattle.call_leg.specs.Periods.{CallPeriod, pcm_of, bridges_begun}
use Rattle.call_leg.specs.Down.{down_period, down_periods, frames_of, coded_stretch, down_made}
use Rattle.call_leg.specs.Waiting.{Waits}
use Rattle.call_leg.specs.Settings.{Settings, epoch_now, settings_later, period_with}
use Rattle.call_leg.specs.Memory.{DownMemory}
use Rattle.call_leg.specs.Places.{CoderStands, Halfway, Between, carried, in_u32}
use Rattle.call_leg.proofs.Downlink.Inside.{Inside}
use Rattle.call_leg.proofs.Downlink.Queue.{waits-some}
use Rattle.call_leg.proofs.Downlink.Enter.{waits-enter}
use Rattle.call_leg.proofs.Downlink.Numbered.{next-ahead, all-come, length-made}

-- ---- fields since the last frame that carried nothing

abbrev Before : {A : Type 0} → ℕ → List (MadeFrame A) → Type 0
Before k [] = Unit {0}
Before k (f ∷ fs) = (f.period < k) × Before k fs

-- frames were made before the number of periods
before-more : {A : Type 0} (k : ℕ) (fs : List (MadeFrame A)) → Before k fs → Before (suc k) fs
before-more k [] b = tt
before-more k (f ∷ fs) b = let l = b.0 in (omega arith, before-more k fs b.1)

grown-before : {A : Type 0} (p : Period A) (past : List (Period A)) (fs : List (MadeFrame A)) → Before (suc (length past)) fs →
    Before (suc (length past)) (grown p past fs)
grown-before p past fs b = cond_both (nat_le (next_start fs) (160 * length past)) (next_frame p past fs ∷ fs) fs (Before (suc (length past)))
    (λ y. (omega arith, b)) (λ n. b)

made-before : {A : Type 0} (ps : List (Period A)) → Before (length ps) (made_frames ps)
made-before [] = tt
made-before (p ∷ past) = grown-before p past (grown p past (made_frames past))
    (grown-before p past (made_frames past) (before-more (length past) (made_frames past) (made-before past)))

-- one field more since the last frame that carried nothing
since-more : {A : Type 0} (p : Period A) (past : List (Period A)) (fs : List (MadeFrame A)) → Before (length past) fs → counted_fields (p ∷ past) fs
    ≡ p.field ∷ counted_fields past fs
since-more p past [] b = refl
since-more p past (f ∷ fs) b = go f.carries (since-more p past fs b.1)
  where
    go : (o : Option ℕ) → counted_fields (p ∷ past) fs ≡ p.field ∷ counted_fields past fs →
        (elim (if is_none o then Some f else find (λ g. is_none g.carries) fs) as (λ x. List (Option ℕ)) [
          | None ↦ map (λ p. p.field) (p ∷ past)
          | Some m ↦ take (length (p ∷ past) - (m.period + 1)) (map (λ p. p.field) (p ∷ past))
        ]) ≡
        p.field ∷ (elim (if is_none o then Some f else find (λ g. is_none g.carries) fs) as (λ x. List (Option ℕ)) [
          | None ↦ map (λ p. p.field) past
          | Some m ↦ take (length past - (m.period + 1)) (map (λ p. p.field) past)
        ])
    go None i =
        let l = b.0 in
        let e : suc (length past) - (f.period + 1) ≡ suc (length past - (f.period + 1)) = omega arith in
        ap (λ n. take n (map (λ p. p.field) (p ∷ past))) e
    go (Some h) i = i

-- ---- the frozen flag, and what is due

-- a list with something is not empty
length-some : (q : List (List ℕ)) (x : List ℕ) → not (length (q ++ x ∷ []) == 0) ≡ true
length-some q x = let l = length-append q (x ∷ []) in ap not (ne_eqb (length (q ++ x ∷ [])) 0 (λ e. omega arith))

-- a handed frame waits as before, or was handed over now
due-enter : (t : CallPeriod) (past : List CallPeriod) (q : List (List ℕ)) (handed : Option (List ℕ)) → t.handed ≡ handed → Waits past (frames_of past) q →
    Waits (t ∷ past) (frames_of past) (q ++ option_to_list handed) →
    (is_some handed || is_some (handed_due (down_periods past) (frames_of past)))
    ≡ (is_some handed || is_some (handed_due (down_periods (t ∷ past)) (frames_of past)))
due-enter t past q (Some x) e w v = refl
due-enter t past q None e w v =
    sym (waits-some past (frames_of past) q w) ∙ sym (ap (λ z. not (length z == 0)) (append-nil q)) ∙ waits-some (t ∷ past) (frames_of past) (q ++ []) v

-- one that was handed over waits
due-handed : (t : CallPeriod) (past : List CallPeriod) (q : List (List ℕ)) (handed : Option (List ℕ)) →
    Waits (t ∷ past) (frames_of past) (q ++ option_to_list handed) →
    is_some handed ≡ true → handed_due (down_periods (t ∷ past)) (frames_of past) ≡ None → ⊥
due-handed t past q None w e n = true≢false (sym e)
due-handed t past q (Some x) w e n = true≢false (sym (length-some q x) ∙ waits-some (t ∷ past) (frames_of past) (q ++ x ∷ []) w ∙ ap is_some n)

-- the bridges that started up to the next period
pub begun-more : (now : Settings) (up : List ℕ) (pcm : List ℕ) (handed : Option (List ℕ)) (ts : List CallPeriod) → epoch_now ts now
    ≡ bridges_begun (period_with now up pcm handed ∷ ts)
begun-more now up pcm handed ts = go now.starts
  where
    go : (b : Bool) → (if b then suc (bridges_begun ts) else bridges_begun ts)
        ≡ length (if b then period_with now up pcm handed ∷ filter (λ t. t.starts) ts else filter (λ t. t.starts) ts)
    go true = refl
    go false = refl

-- ---- a period begins

-- the period goes on with the history of bridges
pub history-more : (who : Who) (ts : List CallPeriod) (now : Settings) (up : List ℕ) (handed : Option (List ℕ)) (pcm : List ℕ) (d : DownMemory) → is_some handed
    ≡ now.bridged → Halfway who ts now up handed d →
    IsHistory (down_periods (period_with now up pcm handed ∷ ts))
history-more who ts now up handed pcm d b h = (h.history, h.alone, λ e. h.goes_on (sym b ∙ e))

-- the octets of the Pcm line so far
pcms-long : (ts : List CallPeriod) → All (λ t. length t.pcm ≡ 160) ts → length (pcm_of ts) ≡ 160 * length (down_periods ts)
pcms-long [] sized = refl
pcms-long (t ∷ past) sized =
    let before = pcms-long past (All-tail (λ t. length t.pcm ≡ 160) t past sized) in
    let here = All-head (λ t. length t.pcm ≡ 160) t past sized in
    length-append (pcm_of past) t.pcm ∙ omega arith

-- the octets of the Pcm line come in
pub enter : (who : Who) (ts : List CallPeriod) (now : Settings) (up : List ℕ) (handed : Option (List ℕ)) (pcm : List ℕ) (d d1 : DownMemory) →
    length pcm ≡ 160 → is_some handed ≡ now.bridged → Halfway who ts now up handed d →
    ((pcm0 line : List ℕ) (out start : ℕ) → Holds pcm0 line out start d.framer → Holds (pcm0 ++ pcm) line out start d1.framer) →
    d1.law ≡ d.law → d1.align ≡ d.align → d1.waiting ≡ d.waiting → d1.coder ≡ d.coder → d1.level ≡ d.level → d1.mode ≡ d.mode → d1.dtxd ≡ d.dtxd →
    d1.quiet ≡ d.quiet → d1.bridged ≡ d.bridged → d1.sent ≡ d.sent → d1.made ≡ d.made →
    Inside who (period_with now up pcm handed) ts (frames_of ts) d1
enter who ts now up handed pcm d d1 lp b h pl la al qu co lv md ul qt br sn mn =
    let t : CallPeriod = period_with now up pcm handed in
    let a = AreMade-made_frames (down_periods ts) in
    let long = pcms-long ts h.pcms in
    let q = h.waits.0 in
    let v : Waits (t ∷ ts) (frames_of ts) (q ++ option_to_list handed) = waits-enter t ts q (history-more who ts now up handed pcm d b h) h.waits.1 in
    record {
      law = la ∙ h.law;
      long = length-append (pcm_of ts) pcm ∙ omega arith;
      low = a.low;
      line = length-made who ts;
      places = pl (pcm_of ts) (down_made who (frames_of ts)) (320 * length (down_periods ts)) (next_start (frames_of ts)) h.places;
      waits = subst (Waits (t ∷ ts) (frames_of ts)) (sym (qu ∙ h.waits.2)) v;
      kept = ap (λ z. z.kept) al ∙ h.kept ∙ sym
          (ap latest_ask (since-more (down_period t ts) (down_periods ts) (frames_of ts) (made-before (down_periods ts))));
      frozen = ap (λ z. z.frozen) al ∙ h.frozen ∙ ap (λ z. z || is_some (handed_due (down_periods ts) (frames_of ts))) (sym b)
          ∙ due-enter t ts q handed refl h.waits.1 v;
      punctual = λ e n. absurd (due-handed t ts q handed v e n);
      coded = subst (CoderStands who.law (coded_stretch who.number (bridges_begun (t ∷ ts)) (frames_of ts))) (sym co)
          (subst (λ e. CoderStands who.law (coded_stretch who.number e (frames_of ts)) d.coder) (begun-more now up pcm handed ts) h.coded);
      made = mn ∙ h.made;
      sent = sn ∙ h.sent ∙ ap (λ e. in_u32 (carried e (frames_of ts))) (begun-more now up pcm handed ts);
      level = lv ∙ h.level;
      mode = md ∙ h.mode;
      dtxd = ul ∙ h.dtxd;
      quiet = qt ∙ h.quiet;
      bridged = br ∙ h.bridged ∙ sym b;
    }

-- ---- and ends

-- the bits of the Down line go out
pub leave : (who : Who) (ts : List CallPeriod) (now : Settings) (up : List ℕ) (handed : Option (List ℕ)) (pcm : List ℕ) (d d2 : DownMemory) →
    length pcm ≡ 160 → is_some handed ≡ now.bridged → Halfway who ts now up handed d →
    Inside who (period_with now up pcm handed) ts (frames_of (period_with now up pcm handed ∷ ts)) d2 → (d3 : DownMemory) →
    ((pcm0 line : List ℕ) (out start : ℕ) → Holds pcm0 line out start d2.framer → Holds pcm0 line (out + 320) start d3.framer) →
    d3.law ≡ d2.law → d3.align ≡ d2.align → d3.waiting ≡ d2.waiting → d3.coder ≡ d2.coder → d3.level ≡ d2.level → d3.mode ≡ d2.mode → d3.dtxd ≡ d2.dtxd →
    d3.bridged ≡ d2.bridged → d3.sent ≡ d2.sent → d3.made ≡ d2.made →
    Between who (period_with now up pcm handed ∷ ts) (settings_later now) d3
leave who ts now up handed pcm d d2 lp b h i d3 pl la al qu co lv md ul br sn mn =
    let t : CallPeriod = period_with now up pcm handed in
    let e : 320 * length (down_periods ts) + 320 ≡ 320 * length (down_periods (t ∷ ts)) = omega arith in
    record {
      held = record {
        law = la ∙ i.law;
        pcms = All-cons (λ t. length t.pcm ≡ 160) t ts lp h.pcms;
        history = history-more who ts now up handed pcm d b h;
        places = subst (λ n. Holds (pcm_of (t ∷ ts)) (down_made who (frames_of (t ∷ ts))) n (next_start (frames_of (t ∷ ts))) d3.framer) e
            (pl (pcm_of (t ∷ ts)) (down_made who (frames_of (t ∷ ts))) (320 * length (down_periods ts)) (next_start (frames_of (t ∷ ts))) i.places);
        frozen = ap (λ z. z.frozen) al ∙ i.frozen ∙ ap (λ z. z || is_some (handed_due (down_periods (t ∷ ts)) (frames_of (t ∷ ts)))) b;
        coded = subst (CoderStands who.law (coded_stretch who.number (bridges_begun (t ∷ ts)) (frames_of (t ∷ ts)))) (sym co) i.coded;
        sent = sn ∙ i.sent;
        made = mn ∙ i.made;
        level = lv ∙ i.level;
        mode = md ∙ i.mode;
        bridged = br ∙ i.bridged ∙ b;
        alone = λ e. absurd (true≢false (sym e));
        goes_on = λ e. b ∙ e;
      };
      ahead = next-ahead (t ∷ ts);
      come = all-come (t ∷ ts);
      line = length-made who (t ∷ ts);
      waits = subst (Waits (t ∷ ts) (frames_of (t ∷ ts))) (sym qu) i.waits;
      kept = ap (λ z. z.kept) al ∙ i.kept;
      dtxd = ul ∙ i.dtxd;
    }

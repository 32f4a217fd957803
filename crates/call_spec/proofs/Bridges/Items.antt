-- For crates above: the frames made in a history are the first ones by number, with its bridges in order
-- (`made-in_order`).
-- Of the bridges of a history at most one has an item for each of its frames.
use Rattle.std.proofs.Common.{◌≡◌, refl, sym, ap, ◌∙◌, subst, inl, inr, ℕ, ◌+◌, ◌*◌, ◌<◌, zero, suc, Bool, true, false, if◌then◌else◌, nat_le, Option}
use Rattle.std.proofs.Common.{List, [], ◌∷◌, ◌++◌, length, map, reverse, arith, append_assoc, length-append}
use Rattle.std.proofs.lemmas.Bool.{cases_lt, leb-true, cond_both, cond-true, cond-false}
use Rattle.std.proofs.lemmas.List.{reverse-reverse, length-map}
use Rattle.down_framer.specs.Made.{Period, MadeFrame, next_start, next_frame, grown, made_frames}
use Rattle.down_framer.specs.Bridges.{IsHistory}
use Rattle.down_framer.specs.ByNumber.{Bridge, NumberedFrame, when, fields_to, numbered_start, numbered_next, numbered_frames, longer, bridges_in, asked_fields}
use Rattle.down_framer.specs.ByNumber.{numbered_of}
use Rattle.down_framer.proofs.Timing.{AreMade-made_frames, next_start-grown, AreOnTime, AreOnTime-made_frames, grown-AreOnTime}
use Rattle.down_framer.proofs.Numbers.{made-numbered}
use Rattle.down_framer.proofs.Latest.{bridge}
use Rattle.down_framer.proofs.Used.{AreUsed, earlier_of, AreUsed-more, grown-more, used_step, used_before}
use Rattle.down_framer.proofs.Carried.{numbered_start-of}
use Rattle.down_framer.proofs.Numbers.{frame_with}
use Rattle.call_spec.proofs.Bridges.OneItem.{AreSilent, silent_reverse, OneSpeaks, one_back, silent_one, same_item, too_late, used_silent}

-- bridges that start after period w
abbrev AreLate : ℕ → List Bridge → Type 0
AreLate w [] = Unit {0}
AreLate w (b ∷ bs) = (w < b.from) × AreLate w bs

late_silent : (w : ℕ) (bs : List Bridge) (fs : List NumberedFrame) → AreLate w bs → AreSilent bs w fs
late_silent w [] fs l = tt
late_silent w (b ∷ bs) fs l = (too_late b w fs l.0, late_silent w bs fs l.1)

-- they are late ones, and then those of the first periods, the latest of which may have become longer
record Parts {A : Type 0} (ps all : List (Period A)) (b : Bridge) (bs : List Bridge) (w : ℕ) : Type 0 where
  later : List Bridge
  to : ℕ
  is : bridges_in all ≡ later ++ bridge b.from to ∷ bs
  late : AreLate w later

longer-parts : (later : List Bridge) (from to : ℕ) (bs : List Bridge) (w : ℕ) → AreLate w later →
    (more : List Bridge) × (until : ℕ) × (longer (later ++ bridge from to ∷ bs) ≡ more ++ bridge from until ∷ bs) × AreLate w more
longer-parts [] from to bs w l = ([], to + 1, refl, tt)
longer-parts (b ∷ later) from to bs w l = (bridge b.from (b.to + 1) ∷ later, to, refl, l)

parts : {A : Type 0} (more : List (Period A)) (p : Period A) (past : List (Period A)) (b : Bridge) (bs : List Bridge) → bridges_in (p ∷ past) ≡ b ∷ bs →
    Parts (p ∷ past) (more ++ p ∷ past) b bs (length past)
parts [] p past b bs e = record { later = []; to = b.to; is = e; late = tt }
parts (q ∷ more) p past b bs e = by q.starts q.bridged (parts more p past b bs e) refl refl
  where
    by : (s g : Bool) → Parts (p ∷ past) (more ++ p ∷ past) b bs (length past) → q.starts ≡ s → q.bridged ≡ g →
        Parts (p ∷ past) (q ∷ more ++ p ∷ past) b bs (length past)
    by true g r es eg =
        let n = length-append more (p ∷ past) in
        record {
          later = bridge (length (more ++ p ∷ past)) (if q.bridged then length (more ++ p ∷ past) + 1 else length (more ++ p ∷ past)) ∷ r.later;
          to = r.to;
          is =
              cond-true q.starts _ (if q.bridged then longer (bridges_in (more ++ p ∷ past)) else bridges_in (more ++ p ∷ past)) es
              ∙ ap (λ bs. bridge (length (more ++ p ∷ past)) (if q.bridged then length (more ++ p ∷ past) + 1 else length (more ++ p ∷ past)) ∷ bs) r.is;
          late = (omega arith, r.late);
        }
    by false true r es eg =
        let l = longer-parts r.later b.from r.to bs (length past) r.late in
        record {
          later = l.0;
          to = l.1;
          is = cond-false q.starts _ (if q.bridged then longer (bridges_in (more ++ p ∷ past)) else bridges_in (more ++ p ∷ past)) es ∙
              cond-true q.bridged (longer (bridges_in (more ++ p ∷ past))) (bridges_in (more ++ p ∷ past)) eg ∙ ap longer r.is ∙ l.2;
          late = l.3;
        }
    by false false r es eg = record {
      later = r.later;
      to = r.to;
      is = cond-false q.starts _ (if q.bridged then longer (bridges_in (more ++ p ∷ past)) else bridges_in (more ++ p ∷ past)) es ∙
          cond-false q.bridged (longer (bridges_in (more ++ p ∷ past))) (bridges_in (more ++ p ∷ past)) eg ∙ r.is;
      late = r.late;
    }

-- where the first periods have none, all are late
longer-late : (w : ℕ) (bs : List Bridge) → AreLate w bs → AreLate w (longer bs)
longer-late w [] l = tt
longer-late w (b ∷ bs) l = l

all_late : {A : Type 0} (more : List (Period A)) (p : Period A) (past : List (Period A)) → bridges_in (p ∷ past) ≡ [] →
    AreLate (length past) (bridges_in (more ++ p ∷ past))
all_late [] p past e = subst (AreLate (length past)) (sym e) tt
all_late (q ∷ more) p past e = by q.starts q.bridged (all_late more p past e)
  where
    by : (s g : Bool) → AreLate (length past) (bridges_in (more ++ p ∷ past)) →
        AreLate (length past)
        (if s then bridge (length (more ++ p ∷ past)) (if g then length (more ++ p ∷ past) + 1 else length (more ++ p ∷ past)) ∷ bridges_in (more ++ p ∷ past)
        else if g then longer (bridges_in (more ++ p ∷ past)) else bridges_in (more ++ p ∷ past))
    by true g l = let n = length-append more (p ∷ past) in (omega arith, l)
    by false true l = longer-late (length past) (bridges_in (more ++ p ∷ past)) l
    by false false l = l

one_of_all : {A : Type 0} (more : List (Period A)) (p : Period A) (past : List (Period A)) (fs : List (MadeFrame A)) → AreOnTime fs →
    AreUsed (earlier_of (bridges_in (p ∷ past))) fs →
    OneSpeaks (reverse (bridges_in (more ++ p ∷ past))) (length past) (map numbered_of fs)
one_of_all more p past fs t u = by (bridges_in (p ∷ past)) refl
  where
    by : (bs : List Bridge) → bridges_in (p ∷ past) ≡ bs → OneSpeaks (reverse (bridges_in (more ++ p ∷ past))) (length past) (map numbered_of fs)
    by [] e =
        let s = late_silent (length past) (bridges_in (more ++ p ∷ past)) (map numbered_of fs) (all_late more p past e) in
        silent_one (reverse (bridges_in (more ++ p ∷ past))) (length past) (map numbered_of fs)
        (silent_reverse (bridges_in (more ++ p ∷ past)) (length past) (map numbered_of fs) s)
    by (b ∷ bs) e =
        let r = parts more p past b bs e in
        let s = late_silent (length past) r.later (map numbered_of fs) r.late in
        let q = used_silent bs (length past) fs t (subst (λ z. AreUsed (earlier_of z) fs) e u) in
        subst (λ z. OneSpeaks (reverse z) (length past) (map numbered_of fs)) (sym r.is)
        (one_back r.later bs (bridge b.from r.to) (length past) (map numbered_of fs) s q)

-- ---- all frames

-- for each of these frames at most one bridge has an item
abbrev pub OneSpeaksOn : List Bridge → List NumberedFrame → Type 0
OneSpeaksOn bs [] = Unit {0}
OneSpeaksOn bs (f ∷ fs) = OneSpeaks bs (when (numbered_start fs)) fs × OneSpeaksOn bs fs

one-grown : {A : Type 0} (more : List (Period A)) (p : Period A) (past : List (Period A)) (fs : List (MadeFrame A)) → 160 * length past < next_start fs + 160 →
    AreOnTime fs →
    AreUsed (earlier_of (bridges_in (p ∷ past))) fs → OneSpeaksOn (reverse (bridges_in (more ++ p ∷ past))) (map numbered_of fs) →
    OneSpeaksOn (reverse (bridges_in (more ++ p ∷ past))) (map numbered_of (grown p past fs))
one-grown more p past fs low t u a =
    cond_both (nat_le (next_start fs) (160 * length past)) (next_frame p past fs ∷ fs) fs
    (λ gs. OneSpeaksOn (reverse (bridges_in (more ++ p ∷ past))) (map numbered_of gs))
    (λ yes.
    let up = leb-true (next_start fs) (160 * length past) yes in
    let start = numbered_start-of fs in
    let w : length past ≡ when (numbered_start (map numbered_of fs)) = omega arith in (
      subst (λ w. OneSpeaks (reverse (bridges_in (more ++ p ∷ past))) w (map numbered_of fs)) w (one_of_all more p past fs t u),
      a,
    ))
    (λ no. a)

one-all : {A : Type 0} (more ps : List (Period A)) → IsHistory ps → OneSpeaksOn (reverse (bridges_in (more ++ ps))) (map numbered_of (made_frames ps))
one-all more [] h = tt
one-all more (p ∷ past) h =
    let a = AreMade-made_frames past in
    let low = a.low in
    let n = next_start-grown p past (made_frames past) in
    let time = AreOnTime-made_frames past in
    let once = grown-AreOnTime p past (made_frames past) a.low time in
    let u = used_step p past h (used_before past h.0) in
    let u' = AreUsed-more (earlier_of (bridges_in (p ∷ past))) (made_frames past) (grown p past (made_frames past)) (grown-more p past (made_frames past)) u in
    let before =
    subst (λ z. OneSpeaksOn (reverse (bridges_in z)) (map numbered_of (made_frames past))) (append_assoc more (p ∷ []) past)
    (one-all (more ++ p ∷ []) past h.0) in
    one-grown more p past (grown p past (made_frames past)) (omega arith) once u' (one-grown more p past (made_frames past) low time u before)

abbrev tail : List NumberedFrame → List NumberedFrame
tail [] = []
tail (f ∷ fs) = fs

abbrev head : NumberedFrame → List NumberedFrame → NumberedFrame
head f [] = f
head f (g ∷ fs) = g

in_order : (bs : List Bridge) (fields : List (Option ℕ)) (fs : List NumberedFrame) → fs ≡ numbered_frames (reverse bs) fields (length fs) → OneSpeaksOn bs fs →
    fs ≡ numbered_frames bs fields (length fs)
in_order bs fields [] e a = refl
in_order bs fields (f ∷ fs) e a =
    let rest : fs ≡ numbered_frames (reverse bs) fields (length fs) = ap tail e in
    let first : f ≡ numbered_next (reverse bs) fields (numbered_frames (reverse bs) fields (length fs)) = ap (head f) e in
    let so = in_order bs fields fs rest a.1 in
    ap (λ f. f ∷ fs)
    (first ∙ ap (numbered_next (reverse bs) fields) (sym rest) ∙
    ap (λ i. frame_with (numbered_start fs) i (fields_to fields (when (numbered_start fs)) fs)) (same_item bs (when (numbered_start fs)) fs a.0)) ∙
    ap (λ fs. numbered_next bs fields fs ∷ fs) so

-- the frames made in the periods of a history are the first ones by number, with the bridges in order
pub made-in_order : {A : Type 0} (ps : List (Period A)) → IsHistory ps →
    map numbered_of (made_frames ps) ≡ numbered_frames (reverse (bridges_in ps)) (asked_fields ps) (length (made_frames ps))
made-in_order ps h =
    let bs = reverse (bridges_in ps) in
    let n = length-map (made_frames ps) numbered_of in
    in_order bs (asked_fields ps) (map numbered_of (made_frames ps))
    (made-numbered ps h ∙ ap (λ bs. numbered_frames bs (asked_fields ps) (length (made_frames ps))) (sym (reverse-reverse (bridges_in ps))) ∙
    ap (numbered_frames (reverse bs) (asked_fields ps)) (sym n)) (one-all [] ps h) ∙ ap (numbered_frames bs (asked_fields ps)) n

-- and for each of them at most one bridge has an item
one-at : (bs : List Bridge) (fields : List (Option ℕ)) (m j : ℕ) → j < m → OneSpeaksOn bs (numbered_frames bs fields m) →
    OneSpeaks bs (when (numbered_start (numbered_frames bs fields j))) (numbered_frames bs fields j)
one-at bs fields zero j l o = absurd (omega arith)
one-at bs fields (suc m) j l o = elim (cases_lt j m) [
  | inl before ↦ one-at bs fields m j before o.1
  | inr now ↦
      let e : m ≡ j = omega arith in
      subst (λ j. OneSpeaks bs (when (numbered_start (numbered_frames bs fields j))) (numbered_frames bs fields j)) e o.0
]

pub one-made : {A : Type 0} (ps : List (Period A)) (j : ℕ) → IsHistory ps → j < length (made_frames ps) →
    let bs = reverse (bridges_in ps) in OneSpeaks bs (when (numbered_start (numbered_frames bs (asked_fields ps) j))) (numbered_frames bs (asked_fields ps) j)
one-made ps j h l =
    one-at (reverse (bridges_in ps)) (asked_fields ps) (length (made_frames ps)) j l
    (subst (OneSpeaksOn (reverse (bridges_in ps))) (made-in_order ps h) (one-all [] ps h))

-- For crates above: the frames made in the periods of a history are the first ones by number (`made-numbered`,
-- `frame_with`).
use Rattle.std.proofs.Common.{◌≡◌, refl, sym, ap, ◌∙◌, subst, ℕ, ◌+◌, ◌*◌, ◌≤◌, ◌<◌, pos, true, nat_le, Option, Some, None, List, [], ◌∷◌, ◌++◌, length, map}
use Rattle.std.proofs.Common.{take, arith, inl, inr}
use Rattle.std.proofs.lemmas.Bool.{cases_lt, leb-true, cases_Bool, cond_both}
use Rattle.std.proofs.lemmas.List.{append_assoc}
use Rattle.time_align.specs.Shift.{latest_shift}
use Rattle.down_framer.specs.Made.{Period, MadeFrame, next_start, latest_start, made_from, handed_due, counted_fields, next_frame, grown, made_frames}
use Rattle.down_framer.specs.Bridges.{in_bridge, IsHistory}
use Rattle.down_framer.specs.ByNumber.{NumberedFrame, when, carried_item, fields_to, numbered_start, numbered_next, numbered_frames, bridges_in, asked_fields}
use Rattle.down_framer.specs.ByNumber.{numbered_of}
use Rattle.down_framer.proofs.Timing.{AreMade-made_frames, next_start-grown, AreOnTime, AreOnTime-made_frames, grown-AreOnTime}
use Rattle.down_framer.proofs.Due.{hands_at-new, hands_at-old, made_from-zero, none_made, one_made, no_shift, due-some}
use Rattle.down_framer.proofs.Waiting.{Phase, phase}
use Rattle.down_framer.proofs.Latest.{went_on, start_now, start_before, so_far}
use Rattle.down_framer.proofs.Used.{AreUsed, earlier_of, AreUsed-more, grown-more, used_step, used_before}
use Rattle.down_framer.proofs.Asked.{fields_so_far, fields-agree}
use Rattle.down_framer.proofs.Carried.{numbered_start-of, carried_item-by, item-due, item-later}

-- in period p of the bridge from s on some item is due, and no more frames were made since s than periods are over
record InStep {A : Type 0} (p : Period A) (past : List (Period A)) (s : ℕ) : Type 0 where
  few : s + made_from s (made_frames past) ≤ length past
  item : (h : ℕ) × (handed_due (p ∷ past) (made_frames past) ≡ Some h)

-- with a frame for each period the own item of the period is due
exact_step : {A : Type 0} (p : Period A) (past : List (Period A)) (s : ℕ) → latest_start (p ∷ past) ≡ Some s → p.bridged ≡ true →
    s + made_from s (made_frames past) ≡ length past → InStep p past s
exact_step p past s e b i = record {
  few = omega arith;
  item = (s + made_from s (made_frames past), due-some (p ∷ past) (made_frames past) s e (hands_at-new p past (s + made_from s (made_frames past)) i ∙ b));
}

-- **Each period of a bridge is in step.**
in_step : {A : Type 0} (p : Period A) (past : List (Period A)) (s : ℕ) → IsHistory (p ∷ past) → latest_start (p ∷ past) ≡ Some s → p.bridged ≡ true →
    InStep p past s
in_step p past s h e b = elim (cases_Bool p.starts) [
  | inl new ↦
      let now = start_now p past s new e in
      let none = made_from-zero past s (omega arith) in
      exact_step p past s e b (omega arith)
  | inr old ↦ by (phase past s h.0 (start_before p past s old e)) (went_on p past old h.2 b)
]
  where
    by : Phase s past (made_frames past) → in_bridge past ≡ true → InStep p past s
    by (inl level) c = exact_step p past s e b (level.exact c)
    by (inr behind) c =
        let newest = behind.newest in
        record {
          few = omega arith;
          item = (
            s + made_from s (made_frames past),
            due-some (p ∷ past) (made_frames past) s e (hands_at-old p past (s + made_from s (made_frames past)) (omega arith) ∙ behind.waits),
          );
        }

-- after the first frame of such a period none is left
second_none : {A : Type 0} (p : Period A) (past : List (Period A)) (s : ℕ) → InStep p past s →
    160 * length past < next_start (next_frame p past (made_frames past) ∷ made_frames past)
second_none p past s i =
    let a = AreMade-made_frames past in
    let low = a.low in
    let n = no_shift p past (made_frames past) i.item.0 i.item.1 in
    omega arith

-- ---- one frame more

-- a frame by what it carries and the fields that count
abbrev pub frame_with : ℕ → Option ℕ → List (Option ℕ) → NumberedFrame
frame_with start item fields = record { start = start; shift = elim item [ None ↦ latest_shift fields | Some h ↦ pos 0 ]; carries = item }

same_frame : (a b : ℕ) (i j : Option ℕ) (x y : List (Option ℕ)) → a ≡ b → i ≡ j → x ≡ y → frame_with a i x ≡ frame_with b j y
same_frame a b i j x y p q r = ap (λ a. frame_with a i x) p ∙ ap (λ i. frame_with b i x) q ∙ ap (λ x. frame_with b j x) r

-- these frames are the first ones by number
abbrev IsNumbered : {A : Type 0} → List (Period A) → List (MadeFrame A) → Type 0
IsNumbered ps fs = map numbered_of fs ≡ numbered_frames (bridges_in ps) (asked_fields ps) (length fs)

-- what is known before a try to make a frame in period p
record MayGrow {A : Type 0} (p : Period A) (past : List (Period A)) (fs : List (MadeFrame A)) : Type 0 where
  on_time : AreOnTime fs
  low : 160 * length past < next_start fs + 160
  spent : AreUsed (earlier_of (bridges_in (p ∷ past))) fs
  few : (s : ℕ) → latest_start (p ∷ past) ≡ Some s → p.bridged ≡ true → next_start fs ≤ 160 * length past → s + made_from s fs ≤ length past

-- the next frame made is the next one by number
next-numbered : {A : Type 0} (more : List (Period A)) (p : Period A) (past : List (Period A)) (fs : List (MadeFrame A)) → IsHistory (more ++ p ∷ past) →
    MayGrow p past fs →
    next_start fs ≤ 160 * length past →
    numbered_of (next_frame p past fs) ≡ numbered_next (bridges_in (more ++ p ∷ past)) (asked_fields (more ++ p ∷ past)) (map numbered_of fs)
next-numbered more p past fs h m up =
    let low = m.low in
    let w = length past in
    let bridges = bridges_in (more ++ p ∷ past) in
    let fields = asked_fields (more ++ p ∷ past) in
    let start = numbered_start-of fs in
    let period : when (numbered_start (map numbered_of fs)) ≡ length past = ap when start ∙ omega arith in
    let one_more : length past + 1 ≡ length (p ∷ past) = omega arith in
    let item : carried_item bridges (when (numbered_start (map numbered_of fs))) (map numbered_of fs) ≡ handed_due (p ∷ past) fs =
    ap (λ k. carried_item bridges k (map numbered_of fs)) period ∙ carried_item-by bridges w fs m.on_time ∙
    item-later more p past fs h (λ s e b. m.few s e b up) ∙ item-due p past fs (so_far more (p ∷ past) h) m.spent in
    let asked : fields_to fields (when (numbered_start (map numbered_of fs))) (map numbered_of fs) ≡ counted_fields (p ∷ past) fs =
    ap (λ k. fields_to fields k (map numbered_of fs)) period ∙
    fields-agree fields w (p ∷ past) fs (ap (λ n. take n fields) one_more ∙ fields_so_far more (p ∷ past)) m.on_time in
    same_frame (next_start fs) _ (handed_due (p ∷ past) fs) _ (counted_fields (p ∷ past) fs) _ (sym start) (sym item) (sym asked)

-- so they are after one try more
grown-numbered : {A : Type 0} (more : List (Period A)) (p : Period A) (past : List (Period A)) (fs : List (MadeFrame A)) → IsHistory (more ++ p ∷ past) →
    MayGrow p past fs →
    IsNumbered (more ++ p ∷ past) fs → IsNumbered (more ++ p ∷ past) (grown p past fs)
grown-numbered more p past fs h m so =
    cond_both (nat_le (next_start fs) (160 * length past)) (next_frame p past fs ∷ fs) fs (IsNumbered (more ++ p ∷ past))
    (λ yes.
    ap (λ f. f ∷ map numbered_of fs) (next-numbered more p past fs h m (leb-true (next_start fs) (160 * length past) yes)) ∙
    ap (λ before. numbered_next (bridges_in (more ++ p ∷ past)) (asked_fields (more ++ p ∷ past)) before ∷ before) so)
    (λ no. so)

-- what is known before the first try
first_try : {A : Type 0} (p : Period A) (past : List (Period A)) → IsHistory (p ∷ past) → MayGrow p past (made_frames past)
first_try p past h =
    let a = AreMade-made_frames past in
    record {
      on_time = AreOnTime-made_frames past;
      low = a.low;
      spent = used_step p past h (used_before past h.0);
      few = λ s e b up. let i = in_step p past s h e b in i.few;
    }

-- and before the second
second_try : {A : Type 0} (p : Period A) (past : List (Period A)) → IsHistory (p ∷ past) → MayGrow p past (made_frames past) →
    MayGrow p past (grown p past (made_frames past))
second_try p past h m =
    let low = m.low in
    let n = next_start-grown p past (made_frames past) in
    record {
      on_time = grown-AreOnTime p past (made_frames past) low m.on_time;
      low = omega arith;
      spent =
          AreUsed-more (earlier_of (bridges_in (p ∷ past))) (made_frames past) (grown p past (made_frames past)) (grown-more p past (made_frames past)) m.spent;
      few = λ s e b up. few_now s (in_step p past s h e b) up;
    }
  where
    few_now : (s : ℕ) → InStep p past s → next_start (grown p past (made_frames past)) ≤ 160 * length past →
        s + made_from s (grown p past (made_frames past)) ≤ length past
    few_now s i up = elim (cases_lt (160 * length past) (next_start (made_frames past))) [
      | inl late ↦ subst (λ fs. s + made_from s fs ≤ length past) (sym (none_made p past (made_frames past) late)) i.few
      | inr now ↦
          let none = second_none p past s i in
          let up' : next_start (next_frame p past (made_frames past) ∷ made_frames past) ≤ 160 * length past =
          subst (λ fs. next_start fs ≤ 160 * length past) (one_made p past (made_frames past) now) up in
          absurd (omega arith)
    ]

-- ---- all frames

-- **The frames of the first periods are numbered over all periods.**
so_numbered : {A : Type 0} (more ps : List (Period A)) → IsHistory (more ++ ps) → IsNumbered (more ++ ps) (made_frames ps)
so_numbered more [] h = refl
so_numbered more (p ∷ past) h =
    let same : (more ++ p ∷ []) ++ past ≡ more ++ p ∷ past = append_assoc more (p ∷ []) past in
    let before = so_numbered (more ++ p ∷ []) past (subst IsHistory (sym same) h) in
    let first = first_try p past (so_far more (p ∷ past) h) in
    let second = second_try p past (so_far more (p ∷ past) h) first in
    grown-numbered more p past (grown p past (made_frames past)) h second
    (grown-numbered more p past (made_frames past) h first (subst (λ ps. IsNumbered ps (made_frames past)) same before))

-- the frames made in the periods of a history are the first ones by number
pub made-numbered : {A : Type 0} (ps : List (Period A)) → IsHistory ps →
    map numbered_of (made_frames ps) ≡ numbered_frames (bridges_in ps) (asked_fields ps) (length (made_frames ps))
made-numbered ps h = so_numbered [] ps h

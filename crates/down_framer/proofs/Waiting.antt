-- For crates above: between periods at most one handed frame waits, that of the newest period (`Phase`, `phase`).
use Rattle.std.proofs.Common.{◌≡◌, refl, sym, ap, ◌∙◌, subst, ℕ, ◌+◌, ◌*◌, ◌≤◌, ◌<◌, true, false, ◌||◌, Some, None, List, [], ◌∷◌, length, arith, ◌⊎◌, inl, inr}
use Rattle.std.proofs.lemmas.Bool.{cases_lt, cases_Bool, cond-true, cond-false}
use Rattle.time_align.specs.Shift.{greatest_shift}
use Rattle.down_framer.specs.Made.{Period, MadeFrame, next_start, latest_start, hands_at, made_from, handed_due, next_frame, grown, made_frames}
use Rattle.down_framer.specs.Bridges.{in_bridge, IsHistory}
use Rattle.down_framer.proofs.Timing.{AreMade, AreMade-made_frames}
use Rattle.down_framer.proofs.Due.{hands_at-late, hands_at-new, hands_at-old, made_from-next, no_shift, due-some, due-none, carries_one, makes_none}
use Rattle.down_framer.proofs.Due.{made_from-zero, made-later, latest_start-below, outside}

-- no frame waits, and within the bridge none has been late
pub record Level {A : Type 0} (s : ℕ) (ps : List (Period A)) (fs : List (MadeFrame A)) : Type 0 where
  pub over : (h : ℕ) → s + made_from s fs ≤ h → hands_at h ps ≡ false
  pub exact : in_bridge ps ≡ true → s + made_from s fs ≡ length ps
  pub soon : in_bridge ps ≡ true → next_start fs ≤ 160 * length ps

-- the newest period's frame waits, since octets were to be skipped
pub record Behind {A : Type 0} (s : ℕ) (ps : List (Period A)) (fs : List (MadeFrame A)) : Type 0 where
  pub waits : hands_at (s + made_from s fs) ps ≡ true
  pub newest : s + made_from s fs + 1 ≡ length ps
  pub low : 160 * length ps < next_start fs + 160
  pub high : next_start fs + 4 ≤ 160 * length ps

-- one of both
abbrev pub Phase : {A : Type 0} → ℕ → List (Period A) → List (MadeFrame A) → Type 0
Phase s ps fs = Level s ps fs ⊎ Behind s ps fs

-- how a waiting frame shows
pub waits_one : {A : Type 0} (ps : List (Period A)) (fs : List (MadeFrame A)) (s h : ℕ) → latest_start ps ≡ Some s → Phase s ps fs → handed_due ps fs ≡ Some h →
    h + 1 ≡ length ps
waits_one ps fs s h e (inl l) d = let n = due-none ps fs s e (l.over (s + made_from s fs) (omega arith)) in cc
waits_one ps fs s h e (inr b) d = let n = due-some ps fs s e b.waits in some_same (s + made_from s fs) h (sym n ∙ d) b.newest
  where
    some_same : (i h : ℕ) → Some i ≡ Some h → i + 1 ≡ length ps → h + 1 ≡ length ps
    some_same i h e l = let q : i ≡ h = cc in omega arith

-- in step with the bridge: the period's own frame goes out
on_time : {A : Type 0} (p : Period A) (past : List (Period A)) (fs : List (MadeFrame A)) (s : ℕ) → latest_start (p ∷ past) ≡ Some s → p.bridged ≡ true →
    s + made_from s fs ≡ length past → next_start fs ≤ 160 * length past → 160 * length past < next_start fs + 160 →
    Phase s (p ∷ past) (grown p past (grown p past fs))
on_time p past fs s e b i up low =
    let d = due-some (p ∷ past) fs s e (hands_at-new p past (s + made_from s fs) i ∙ b) in
    let n = no_shift p past fs (s + made_from s fs) d in
    let m = made_from-next p past fs s (omega arith) in
    let l : Level s (p ∷ past) (next_frame p past fs ∷ fs) = record {
      over = λ h a. hands_at-late (p ∷ past) h (omega arith);
      exact = λ t. omega arith;
      soon = λ t. omega arith;
    } in
    subst (λ gs. Phase s (p ∷ past) gs) (sym (carries_one p past fs (s + made_from s fs) d up low)) (inl l)

-- at its start, with octets to skip
late : {A : Type 0} (p : Period A) (past : List (Period A)) (fs : List (MadeFrame A)) (s : ℕ) → p.bridged ≡ true →
    s + made_from s fs ≡ length past → 160 * length past < next_start fs → next_start fs ≤ 160 * length past + greatest_shift →
    Phase s (p ∷ past) (grown p past (grown p past fs))
late p past fs s b i low high =
    let w : Behind s (p ∷ past) fs = record {
      waits = hands_at-new p past (s + made_from s fs) i ∙ b;
      newest = omega arith;
      low = omega arith;
      high = omega arith;
    } in
    subst (λ gs. Phase s (p ∷ past) gs) (sym (makes_none p past fs low)) (inr w)

-- a frame waits: it goes out, and the period's own waits, if there is one
one_behind : {A : Type 0} (p : Period A) (past : List (Period A)) (fs : List (MadeFrame A)) (s : ℕ) → latest_start (p ∷ past) ≡ Some s → Behind s past fs →
    Phase s (p ∷ past) (grown p past (grown p past fs))
one_behind p past fs s e w =
    let before : s + made_from s fs + 1 ≡ length past = w.newest in
    let low = w.low in
    let high = w.high in
    let d = due-some (p ∷ past) fs s e (hands_at-old p past (s + made_from s fs) (omega arith) ∙ w.waits) in
    let n = no_shift p past fs (s + made_from s fs) d in
    let m = made_from-next p past fs s (omega arith) in
    let i : s + made_from s (next_frame p past fs ∷ fs) ≡ length past = omega arith in
    let now : Phase s (p ∷ past) (next_frame p past fs ∷ fs) = elim (cases_Bool p.bridged) [
      | inl goes ↦ inr (record { waits = hands_at-new p past _ i ∙ goes; newest = omega arith; low = omega arith; high = omega arith })
      | inr out ↦
          inl (record {
            over = λ h a. outside p past h out (omega arith);
            exact = λ t. let q : true ≡ false = sym t ∙ out in cc;
            soon = λ t. let q : true ≡ false = sym t ∙ out in cc;
          })
    ] in
    subst (λ gs. Phase s (p ∷ past) gs) (sym (carries_one p past fs (s + made_from s fs) d (omega arith) (omega arith))) now

-- outside of a bridge with nothing waiting
over_now : {A : Type 0} (p : Period A) (past : List (Period A)) (fs : List (MadeFrame A)) (s : ℕ) → p.bridged ≡ false → s ≤ length past →
    ((h : ℕ) → s + made_from s fs ≤ h → h < length past → hands_at h past ≡ false) → Phase s (p ∷ past) (grown p past (grown p past fs))
over_now p past fs s b l o =
    let m = made-later p past fs s l in
    inl (record {
      over = λ h a. elim (cases_lt h (length past)) [
        | inl old ↦ hands_at-old p past h old ∙ o h (omega arith) old
        | inr here ↦ outside p past h b here
      ];
      exact = λ t. let q : true ≡ false = sym t ∙ b in cc;
      soon = λ t. let q : true ≡ false = sym t ∙ b in cc;
    })

-- a bridge goes on, or is over
goes_on : {A : Type 0} (p : Period A) (past : List (Period A)) (fs : List (MadeFrame A)) (s : ℕ) → AreMade (length past) fs → latest_start (p ∷ past) ≡ Some s →
    s < length past →
    (p.bridged ≡ true → in_bridge past ≡ true) → Phase s past fs → Phase s (p ∷ past) (grown p past (grown p past fs))
goes_on p past fs s a e l c (inr w) = one_behind p past fs s e w
goes_on p past fs s a e l c (inl v) = elim (cases_Bool p.bridged) [
  | inl goes ↦ on_time p past fs s e goes (v.exact (c goes)) (v.soon (c goes)) a.low
  | inr out ↦ over_now p past fs s out (omega arith) (λ h m k. v.over h m)
]

-- a bridge starts
starts_now : {A : Type 0} (p : Period A) (past : List (Period A)) (fs : List (MadeFrame A)) (s : ℕ) → AreMade (length past) fs →
    latest_start (p ∷ past) ≡ Some s → s ≡ length past →
    made_from s fs ≡ 0 → Phase s (p ∷ past) (grown p past (grown p past fs))
starts_now p past fs s a e l z = elim (cases_Bool p.bridged) [
  | inl goes ↦ elim (cases_lt (160 * length past) (next_start fs)) [
    | inl skips ↦ late p past fs s goes (omega arith) skips a.high
    | inr soon ↦ on_time p past fs s e goes (omega arith) soon a.low
  ]
  | inr out ↦ over_now p past fs s out (omega arith) (λ h m k. let q : ⊥ = omega arith in absurd q)
]

some_same : (a b : ℕ) → Some a ≡ Some b → a ≡ b
some_same a b e = cc

-- **A bridge that started is in one of both phases between periods.**
pub phase : {A : Type 0} (ps : List (Period A)) (s : ℕ) → IsHistory ps → latest_start ps ≡ Some s → Phase s ps (made_frames ps)
phase [] s h e = cc
phase (p ∷ past) s h e = elim (cases_Bool p.starts) [
  | inl new ↦
      let q : length past ≡ s = some_same (length past) s (sym (cond-true p.starts (Some (length past)) (latest_start past) new) ∙ e) in
      starts_now p past (made_frames past) s (AreMade-made_frames past) e (sym q) (made_from-zero past s (omega arith))
  | inr old ↦
      let q : latest_start past ≡ Some s = sym (cond-false p.starts (Some (length past)) (latest_start past) old) ∙ e in
      goes_on p past (made_frames past) s (AreMade-made_frames past) e (latest_start-below past s q) (λ b. sym (ap (λ t. t || in_bridge past) old) ∙ h.2 b)
      (phase past s h.0 q)
]

-- at most one handed frame waits between periods: that of the newest period
pub one_waits : {A : Type 0} (ps : List (Period A)) (s h : ℕ) → IsHistory ps → latest_start ps ≡ Some s → handed_due ps (made_frames ps) ≡ Some h →
    h + 1 ≡ length ps
one_waits ps s h k e d = waits_one ps (made_frames ps) s h e (phase ps s k e) d

-- once a period lies outside of the bridge, no frame waits: a bridge may start anew
newest_out : {A : Type 0} (ps : List (Period A)) (h : ℕ) → in_bridge ps ≡ false → h + 1 ≡ length ps → hands_at h ps ≡ false
newest_out [] h b l = refl
newest_out (p ∷ past) h b l = hands_at-new p past h (omega arith) ∙ b

-- out of the bridge nothing waits in either
drained_in : {A : Type 0} (ps : List (Period A)) (fs : List (MadeFrame A)) (s : ℕ) → latest_start ps ≡ Some s → in_bridge ps ≡ false → Phase s ps fs →
    handed_due ps fs ≡ None
drained_in ps fs s e b (inl l) = due-none ps fs s e (l.over (s + made_from s fs) (omega arith))
drained_in ps fs s e b (inr w) = due-none ps fs s e (newest_out ps (s + made_from s fs) b w.newest)

-- **Once a period lies out of the bridge nothing waits.**
pub drained : {A : Type 0} (ps : List (Period A)) (s : ℕ) → IsHistory ps → latest_start ps ≡ Some s → in_bridge ps ≡ false →
    handed_due ps (made_frames ps) ≡ None
drained ps s h e b = drained_in ps (made_frames ps) s e b (phase ps s h e)

-- For crates above: after each period all frames are made that can be, with permitted shifts (`AreMade-made_frames`,
-- `AreOnTime`).
use Rattle.std.proofs.Common.{◌≡◌, refl, ℕ, ◌+◌, ◌*◌, ◌/◌, ◌≤◌, ◌<◌, ℤ, pos, negsuc, nat_le, Option, Some, None, List, [], ◌∷◌, length, arith, ◌⊎◌, inl, inr}
use Rattle.std.proofs.lemmas.Bool.{leb-true, leb-false, cond_both}
use Rattle.time_align.specs.Shift.{greatest_shift, latest_shift, IsShift}
use Rattle.time_align.proofs.Shifts.{IsShift-latest_shift}
use Rattle.down_framer.specs.Made.{Period, MadeFrame, octets_to_next, next_start, handed_due, counted_fields, shift_due, next_frame, grown, made_frames}

-- how many octets a shift takes
pub octets_of-bounds : (shift : ℤ) → IsShift shift → (158 ≤ octets_to_next shift) × (octets_to_next shift ≤ 316)
octets_of-bounds (pos v) s = (omega arith, omega arith)
octets_of-bounds (negsuc v) s = (omega arith, omega arith)

-- a shift, or none
pub none_or : (o : Option ℕ) (v : ℤ) → IsShift v → IsShift (elim o [ None ↦ v | Some h ↦ pos 0 ])
none_or None v a = a
none_or (Some h) v a = omega arith

-- the shift that is due is a shift
pub IsShift-shift_due : {A : Type 0} (ps : List (Period A)) (fs : List (MadeFrame A)) → IsShift (shift_due ps fs)
IsShift-shift_due ps fs = none_or (handed_due ps fs) (latest_shift (counted_fields ps fs)) (IsShift-latest_shift (counted_fields ps fs))

-- ---- no frame is left

-- where the next frame starts after one more try in a period
pub next_start-grown : {A : Type 0} (p : Period A) (past : List (Period A)) (fs : List (MadeFrame A)) →
    ((160 * length past < next_start fs) × (next_start (grown p past fs) ≡ next_start fs)) ⊎
    ((next_start fs ≤ 160 * length past) × (next_start fs + 158 ≤ next_start (grown p past fs)) × (next_start (grown p past fs) ≤ next_start fs + 316))
next_start-grown p past fs =
    let b = octets_of-bounds (shift_due (p ∷ past) fs) (IsShift-shift_due (p ∷ past) fs) in
    cond_both (nat_le (next_start fs) (160 * length past)) (next_frame p past fs ∷ fs) fs (λ gs.
    ((160 * length past < next_start fs) × (next_start gs ≡ next_start fs)) ⊎
    ((next_start fs ≤ 160 * length past) × (next_start fs + 158 ≤ next_start gs) × (next_start gs ≤ next_start fs + 316)))
    (λ yes. inr (leb-true _ _ yes, omega arith, omega arith))
    (λ no. inl (leb-false _ _ no, refl))

-- After the tries of a period the next frame ends after it, and so soon that it would have been made in a later one.
pub record AreMade {A : Type 0} (k : ℕ) (fs : List (MadeFrame A)) : Type 0 where
  pub low : 160 * k < next_start fs + 160
  pub high : next_start fs ≤ 160 * k + greatest_shift

-- after each period no frame is left to be made, and none is made too early
pub AreMade-made_frames : {A : Type 0} (ps : List (Period A)) → AreMade (length ps) (made_frames ps)
AreMade-made_frames [] = record { low = omega arith; high = omega arith }
AreMade-made_frames (p ∷ past) =
    let h = AreMade-made_frames past in
    two (next_start-grown p past (made_frames past)) (next_start-grown p past (grown p past (made_frames past))) h.low h.high
  where
    two : ((160 * length past < next_start (made_frames past)) × (next_start (grown p past (made_frames past)) ≡ next_start (made_frames past))) ⊎
        ((next_start (made_frames past) ≤ 160 * length past) × (next_start (made_frames past) + 158 ≤ next_start
        (grown p past (made_frames past))) × (next_start (grown p past (made_frames past)) ≤ next_start (made_frames past) + 316)) →
        ((160 * length past < next_start (grown p past (made_frames past)))
        × (next_start (made_frames (p ∷ past)) ≡ next_start (grown p past (made_frames past)))) ⊎
        ((next_start (grown p past (made_frames past)) ≤ 160 * length past) × (next_start (grown p past (made_frames past)) + 158 ≤ next_start
        (made_frames (p ∷ past))) × (next_start (made_frames (p ∷ past)) ≤ next_start (grown p past (made_frames past)) + 316)) →
        160 * length past < next_start (made_frames past) + 160 → next_start (made_frames past) ≤ 160 * length past + greatest_shift →
        AreMade (length (p ∷ past)) (made_frames (p ∷ past))
    two a b low high = record { low = omega arith; high = omega arith }

-- ---- each frame is made in the period that brings its last octet

-- each frame was made in the period of its last octet
abbrev pub AreOnTime : {A : Type 0} → List (MadeFrame A) → Type 0
AreOnTime [] = Unit {0}
AreOnTime (f ∷ fs) = ((f.start + 159) / 160 ≡ f.period) × AreOnTime fs

-- one more too
pub grown-AreOnTime : {A : Type 0} (p : Period A) (past : List (Period A)) (fs : List (MadeFrame A)) → 160 * length past < next_start fs + 160 → AreOnTime fs →
    AreOnTime (grown p past fs)
grown-AreOnTime p past fs low h =
    cond_both (nat_le (next_start fs) (160 * length past)) (next_frame p past fs ∷ fs) fs AreOnTime
    (λ yes. let up : next_start fs ≤ 160 * length past = leb-true _ _ yes in (omega arith, h))
    (λ no. h)

pub AreOnTime-made_frames : {A : Type 0} (ps : List (Period A)) → AreOnTime (made_frames ps)
AreOnTime-made_frames [] = tt
AreOnTime-made_frames (p ∷ past) =
    let a = AreMade-made_frames past in
    let low = a.low in
    let n = next_start-grown p past (made_frames past) in
    grown-AreOnTime p past (grown p past (made_frames past)) (omega arith) (grown-AreOnTime p past (made_frames past) low (AreOnTime-made_frames past))

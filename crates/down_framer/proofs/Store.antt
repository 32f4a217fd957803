-- For crates above: how many bits a downlink has, and that it is made further than the periods that were sent
-- (`made-far`).
use Rattle.std.proofs.Common.{◌≡◌, refl, ◌∙◌, ℕ, ◌+◌, ◌*◌, ◌<◌, ℤ, pos, negsuc, nat_le, List, [], ◌∷◌, length, replicate, arith, length-append, length-take}
use Rattle.std.proofs.lemmas.List.{length-replicate}
use Rattle.std.proofs.lemmas.Bool.{cond_both}
use Rattle.time_align.specs.Shift.{IsShift}
use Rattle.down_framer.specs.Made.{Period, MadeFrame, octets_to_next, next_start, next_frame, grown, made_frames, frame_on_line, downlink_of}
use Rattle.down_framer.proofs.Timing.{AreMade-made_frames, IsShift-shift_due}

-- each frame starts where the one before says, and has a known shift
abbrev pub AreInTurn : {A : Type 0} → List (MadeFrame A) → Type 0
AreInTurn [] = Unit {0}
AreInTurn (f ∷ fs) = (f.start ≡ next_start fs) × IsShift f.shift × AreInTurn fs

grown-AreInTurn : {A : Type 0} (p : Period A) (past : List (Period A)) (fs : List (MadeFrame A)) → AreInTurn fs → AreInTurn (grown p past fs)
grown-AreInTurn p past fs h =
    cond_both (nat_le (next_start fs) (160 * length past)) (next_frame p past fs ∷ fs) fs AreInTurn (λ y. (refl, IsShift-shift_due (p ∷ past) fs, h)) (λ n. h)

pub AreInTurn-made_frames : {A : Type 0} (ps : List (Period A)) → AreInTurn (made_frames ps)
AreInTurn-made_frames [] = tt
AreInTurn-made_frames (p ∷ past) =
    grown-AreInTurn p past (grown p past (made_frames past)) (grown-AreInTurn p past (made_frames past) (AreInTurn-made_frames past))

-- ---- lengths

pub length-frame_on_line : (v : ℤ) (bits : List ℕ) → IsShift v → length bits ≡ 320 → length (frame_on_line v bits) ≡ 2 * octets_to_next v
length-frame_on_line (pos v) bits k l = length-append bits (replicate (2 * v) 1) ∙ (let r = length-replicate {A = ℕ} (2 * v) 1 in omega arith)
length-frame_on_line (negsuc v) bits k l = length-take 316 bits ∙ omega arith

-- a downlink has two bits for each octet up to the next frame's start, after the first 320
pub length-line_of : {A : Type 0} (bits : List (MadeFrame A) → List ℕ) → ((fs : List (MadeFrame A)) → length (bits fs) ≡ 320) → (fs : List (MadeFrame A)) →
    AreInTurn fs →
    length (downlink_of bits fs) ≡ 320 + 2 * next_start fs
length-line_of bits b [] k = length-replicate {A = ℕ} 320 1
length-line_of bits b (f ∷ fs) k =
    length-append (downlink_of bits fs) (frame_on_line f.shift (bits (f ∷ fs))) ∙
    (let e : f.start ≡ next_start fs = k.0 in let l = length-line_of bits b fs k.2 in let m = length-frame_on_line f.shift (bits (f ∷ fs)) k.1
    (b (f ∷ fs)) in omega arith)

-- it is made far enough for the period's 320 bits
pub made-far : {A : Type 0} (bits : List (MadeFrame A) → List ℕ) → ((fs : List (MadeFrame A)) → length (bits fs) ≡ 320) → (ps : List (Period A)) →
    320 * length ps < length (downlink_of bits (made_frames ps))
made-far bits b ps = let a = AreMade-made_frames ps in let l = a.low in let n = length-line_of bits b (made_frames ps) (AreInTurn-made_frames ps) in omega arith

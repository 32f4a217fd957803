-- For crates above: exactly the frames whose octets have come are made (`in_time`), and bridges with a period between
-- are a history (`apart`).
use Rattle.std.proofs.Common.{◌≡◌, refl, ap, ◌∙◌, ℕ, ◌+◌, ◌-◌, ◌*◌, ◌≤◌, ◌<◌, false, if◌then◌else◌, nat_le, Option, Some, None, List, [], ◌∷◌, ◌++◌, length}
use Rattle.std.proofs.Common.{map, All, arith}
use Rattle.std.proofs.lemmas.Bool.{cond_both, leb-true}
use Rattle.std.proofs.lemmas.List.{length-map}
use Rattle.std.proofs.lemmas.List.Elements.{All-nil, All-cons, All-weaker}
use Rattle.down_framer.specs.Made.{Period, MadeFrame, next_start, latest_start, hands_at, made_from, handed_due, next_frame, grown, made_frames, frame_on_line}
use Rattle.down_framer.specs.Made.{downlink_of}
use Rattle.down_framer.specs.Bridges.{in_bridge, IsHistory, LeavePeriodsBetween}
use Rattle.down_framer.specs.ByNumber.{when, numbered_of, numbered_line, newest_bits, AreInTime}
use Rattle.down_framer.proofs.Timing.{AreMade-made_frames, next_start-grown}
use Rattle.down_framer.proofs.Waiting.{drained}

-- ---- frames are made in time

-- a frame that was made in the period that brought its last octet
abbrev InTime : {A : Type 0} → ℕ → MadeFrame A → Type 0
InTime k f = (f.period ≡ when f.start) × (f.start + 160 ≤ 160 * k)

-- so is one more that is made
grown-in_time : {A : Type 0} (p : Period A) (past : List (Period A)) (fs : List (MadeFrame A)) → 160 * length past < next_start fs + 160 →
    All (InTime (length (p ∷ past))) fs →
    All (InTime (length (p ∷ past))) (grown p past fs)
grown-in_time p past fs low h =
    cond_both (nat_le (next_start fs) (160 * length past)) (next_frame p past fs ∷ fs) fs (All (InTime (length (p ∷ past))))
    (λ yes.
    let up : next_start fs ≤ 160 * length past = leb-true _ _ yes in
    All-cons (InTime (length (p ∷ past))) (next_frame p past fs) fs (omega arith, omega arith) h)
    (λ no. h)

all_in_time : {A : Type 0} (ps : List (Period A)) → All (InTime (length ps)) (made_frames ps)
all_in_time [] = All-nil (InTime 0)
all_in_time (p ∷ past) =
    let a = AreMade-made_frames past in
    let low = a.low in
    let n = next_start-grown p past (made_frames past) in
    let before =
    All-weaker (InTime (length past)) (InTime (length (p ∷ past))) (λ f t. (t.0, let l = t.1 in omega arith)) (made_frames past) (all_in_time past) in
    grown-in_time p past (grown p past (made_frames past)) (omega arith) (grown-in_time p past (made_frames past) low before)

-- **Exactly the frames whose octets are there are made.**
pub in_time : {A : Type 0} (ps : List (Period A)) → AreInTime (length ps) (made_frames ps)
in_time ps = let a = AreMade-made_frames ps in record { made = all_in_time ps; next = a.low }

-- ---- the line by numbers

-- **The downlink is that of the numbered frames.**
pub line-numbered : {A : Type 0} (bits : ℕ → List ℕ) (fs : List (MadeFrame A)) → downlink_of (newest_bits bits) fs ≡ numbered_line bits (map numbered_of fs)
line-numbered bits [] = refl
line-numbered bits (f ∷ fs) =
    let l = length-map fs numbered_of in
    let n : length (f ∷ fs) - 1 ≡ length (map numbered_of fs) = omega arith in
    ap (λ z. z ++ frame_on_line f.shift (bits (length (f ∷ fs) - 1))) (line-numbered bits fs) ∙
    ap (λ k. numbered_line bits (map numbered_of fs) ++ frame_on_line f.shift (bits k)) n

-- ---- bridges that leave a period between

-- **Bridges that leave a period between are those of a history.**
pub apart : {A : Type 0} (ps : List (Period A)) → LeavePeriodsBetween ps → IsHistory ps
apart [] h = tt
apart (p ∷ past) h =
    let before = apart past h.0 in
    (before, λ new. by before (h.1 new) (latest_start past) refl, h.2)
  where
    by : IsHistory past → in_bridge past ≡ false → (o : Option ℕ) → latest_start past ≡ o → handed_due past (made_frames past) ≡ None
    by before out None e =
        ap (λ (o : Option ℕ). elim o as (λ x. Option ℕ) [
          | None ↦ None
          | Some s ↦ if hands_at (s + made_from s (made_frames past)) past then Some (s + made_from s (made_frames past)) else None
        ]) e
    by before out (Some s) e = drained past s before e out

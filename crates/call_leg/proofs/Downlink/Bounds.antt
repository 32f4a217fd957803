-- For crates above: how many frames a history makes and carries at most, and that counters that fit are exact
-- (`exact_u32`, `exact_u64`).
use Rattle.std.proofs.Common.{◌≡◌, ℕ, ◌+◌, ◌*◌, ◌≤◌, suc, ℤ, pos, Bool, ◌&&◌, if◌then◌else◌, nat_le, Option, Some, None, is_some, List, [], ◌∷◌, length, arith}
use Rattle.std.specs.Prelude.{◌==◌}
use Rattle.std.proofs.lemmas.Bool.{cond_both}
use Rattle.down_framer.specs.Made.{Period, octets_to_next, next_start, handed_due, counted_fields, grown, next_frame, made_frames, epoch_of}
use Rattle.time_align.specs.Shift.{latest_shift}
use Rattle.down_framer.proofs.Timing.{AreMade-made_frames}
use Rattle.call_leg.specs.Periods.{CallPeriod}
use Rattle.call_leg.specs.Down.{CallFrame, down_periods, frames_of}
use Rattle.call_leg.specs.Places.{carried, in_u32, in_u64}
use Rattle.call_leg.proofs.Downlink.Enter.{length-down_periods}

grown-at_most : (p : Period (List CallPeriod)) (past : List (Period (List CallPeriod))) (fs : List CallFrame) (n : ℕ) → length fs ≤ n →
    length (grown p past fs) ≤ n + 1
grown-at_most p past fs n l =
    cond_both (nat_le (next_start fs) (160 * length past)) (next_frame p past fs ∷ fs) fs (λ gs. length gs ≤ n + 1) (λ y. omega arith) (λ n. omega arith)

made-at_most : (ps : List (Period (List CallPeriod))) → length (made_frames ps) ≤ 2 * length ps
made-at_most [] = omega arith
made-at_most (p ∷ past) =
    let i = made-at_most past in
    let two = grown-at_most p past (grown p past (made_frames past)) (2 * length past + 1) (grown-at_most p past (made_frames past) (2 * length past) i) in
    omega arith

pub frames-at_most : (ts : List CallPeriod) → length (frames_of ts) ≤ 2 * length ts
frames-at_most ts = let n = length-down_periods ts in let m = made-at_most (down_periods ts) in omega arith

-- a frame that carries a handed one takes 160 octets
one_more : (o : Option ℕ) (v : ℤ) (b : Bool) (n start : ℕ) → 160 * n ≤ start → 160 * (if is_some o && b then suc n else n) ≤ start + octets_to_next
    (elim o as (λ x. ℤ) [ None ↦ v | Some h ↦ pos 0 ])
one_more None v b n start l = omega arith
one_more (Some h) v b n start l = cond_both b (suc n) n (λ k. 160 * k ≤ start + 160) (λ y. omega arith) (λ n. omega arith)

grown-carried : (e : ℕ) (p : Period (List CallPeriod)) (past : List (Period (List CallPeriod))) (fs : List CallFrame) → 160 * carried e fs ≤ next_start fs →
    160 * carried e (grown p past fs) ≤ next_start (grown p past fs)
grown-carried e p past fs l =
    cond_both (nat_le (next_start fs) (160 * length past)) (next_frame p past fs ∷ fs) fs (λ gs. 160 * carried e gs ≤ next_start gs)
    (λ y. one_more (handed_due (p ∷ past) fs) (latest_shift (counted_fields (p ∷ past) fs)) (epoch_of (p ∷ past) == e) (carried e fs) (next_start fs) l)
    (λ n. l)

made-carried : (e : ℕ) (ps : List (Period (List CallPeriod))) → 160 * carried e (made_frames ps) ≤ next_start (made_frames ps)
made-carried e [] = omega arith
made-carried e (p ∷ past) = grown-carried e p past (grown p past (made_frames past)) (grown-carried e p past (made_frames past) (made-carried e past))

-- no more are sent than there are periods
pub carried-at_most : (e : ℕ) (ts : List CallPeriod) → carried e (frames_of ts) ≤ length ts
carried-at_most e ts =
    let n = length-down_periods ts in
    let m = made-carried e (down_periods ts) in
    let a = AreMade-made_frames (down_periods ts) in
    let high = a.high in
    omega arith

-- counts that fit are exact
pub exact_u32 : (x n : ℕ) → x ≡ in_u32 n → n ≤ 4294967295 → x ≡ n
exact_u32 x n e l = omega arith

pub exact_u64 : (x n : ℕ) → x ≡ in_u64 n → n ≤ 8589934590 → x ≡ n
exact_u64 x n e l = omega arith

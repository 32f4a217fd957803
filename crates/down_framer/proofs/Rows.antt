-- Worked cases of the downlink, by computing.
use Rattle.std.proofs.Common.{◌≡◌, refl, ℕ, ◌+◌, Bool, true, false, Option, Some, None, List, [], ◌∷◌, ◌++◌, map, take, drop, replicate, reverse, pos, negsuc}
use Rattle.time_align.specs.Shift.{shift_of}
use Rattle.down_framer.specs.Made.{Period, MadeFrame, made_frames, downlink_of}
use Rattle.down_framer.specs.ByNumber.{Bridge, numbered_frames, bridges_in, asked_fields, numbered_of}

abbrev period : Bool → Bool → ℕ → Period (Unit {0})
period starts bridged field = record { field = Some field; starts = starts; bridged = bridged; load = tt }

abbrev alone : ℕ → Period (Unit {0})
alone field = period false false field

-- ---- field 39 in period 0, 63 in period 2, 40 in period 3

abbrev shifted : List (Period (Unit {0}))
shifted = reverse (map alone (39 ∷ 0 ∷ 63 ∷ 40 ∷ 0 ∷ []))

starts : map (λ f. f.start) (reverse (made_frames shifted)) ≡ 0 ∷ 316 ∷ 474 ∷ 634 ∷ []
unfolding shift_of
starts = refl

-- no frame in period 1
made_in : map (λ f. f.period) (reverse (made_frames shifted)) ≡ 0 ∷ 2 ∷ 3 ∷ 4 ∷ []
unfolding shift_of
made_in = refl

-- a frame whose bits bear its start
abbrev marks : ℕ → List ℕ
marks start = replicate 319 (10 + start) ++ 0 ∷ []

marked : List (MadeFrame (Unit {0})) → List ℕ
marked [] = []
marked (f ∷ fs) = marks f.start

line : downlink_of marked (made_frames shifted) ≡ replicate 320 1 ++ marks 0 ++ replicate 312 1 ++ take 316 (marks 316) ++ marks 474 ++ marks 634
unfolding shift_of marked
line = refl

-- ---- field 63 in each of 100 periods: each frame takes 158 octets, but frame 80, the second that period 79 makes

abbrev early : List (Period (Unit {0}))
early = map alone (replicate 100 63)

shifts_early : map (λ f. f.shift) (reverse (made_frames early)) ≡ replicate 80 (negsuc 1) ++ pos 0 ∷ replicate 20 (negsuc 1)
unfolding shift_of
shifts_early = refl

-- two frames of one period, and where the next one starts
early_80 : map {B = ℕ × ℕ} (λ f. (f.period, f.start)) (take 3 (drop 79 (reverse (made_frames early)))) ≡ (79, 12482) ∷ (79, 12640) ∷ (80, 12800) ∷ []
unfolding shift_of
early_80 = refl

-- ---- a bridge from 4 to 10, and field 39 in period 3

abbrev bridged : List (Period (Unit {0}))
bridged =
    reverse (map alone (0 ∷ 0 ∷ 0 ∷ 39 ∷ []) ++ period true true 0 ∷ map (period false true) (0 ∷ 0 ∷ 0 ∷ 0 ∷ 0 ∷ []) ++ map alone (0 ∷ 0 ∷ []))

-- no frame in period 4; those of periods 5 to 10 carry the handed frames of periods 4 to 9
carried : map {B = ℕ × Option ℕ} (λ f. (f.period, f.carries)) (reverse (made_frames bridged)) ≡
    (0, None) ∷ (1, None) ∷ (2, None) ∷ (3, None) ∷ (5, Some 4) ∷ (6, Some 5) ∷ (7, Some 6) ∷ (8, Some 7) ∷ (9, Some 8) ∷ (10, Some 9) ∷ (11, None) ∷ []
unfolding shift_of
carried = refl

bridges : bridges_in bridged ≡ (let b : Bridge = record { from = 4; to = 10 } in b) ∷ []
bridges = refl

by_number : map numbered_of (made_frames bridged) ≡ numbered_frames (bridges_in bridged) (asked_fields bridged) 11
unfolding shift_of
by_number = refl

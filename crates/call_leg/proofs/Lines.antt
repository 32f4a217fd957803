-- For crates above: the Down line is a prefix of all frames made, one after another (`line-is_made`).
use Rattle.std.proofs.Common.{◌≡◌, refl, sym, ap, ◌∙◌, ℕ, ◌+◌, ◌*◌, ◌<◌, zero, suc, Bool, true, false, if◌then◌else◌, nat_le, List, [], ◌∷◌, ◌++◌, length, take}
use Rattle.std.proofs.Common.{drop, arith, append_assoc}
use Rattle.std.proofs.lemmas.List.{append-nil, take-append-le}
use Rattle.down_framer.specs.Made.{Period, next_start, next_frame, grown, frame_on_line}
use Rattle.down_framer.proofs.Store.{made-far}
use Rattle.trau_frame.proofs.Again.{length-down_bits}
use Rattle.call_leg.specs.Who.{Who}
use Rattle.call_leg.specs.Periods.{CallPeriod}
use Rattle.call_leg.specs.Down.{CallFrame, down_period, down_periods, frames_of, frame_now, bits_now, down_made, down_now, down_line}
use Rattle.call_leg.proofs.Downlink.Enter.{length-down_periods}

abbrev nothing : List ℕ
nothing = []

take_none : (m : ℕ) → nothing ≡ take m nothing
take_none zero = refl
take_none (suc m) = refl

-- a longer front is a front and what is behind it
take-more : (k n m : ℕ) (xs : List ℕ) → k ≡ n + m → take k xs ≡ take n xs ++ take m (drop n xs)
take-more k zero m xs e = let f : k ≡ m = omega arith in ap (λ j. take j xs) f
take-more zero (suc n) m xs e = absurd (omega arith)
take-more (suc k) (suc n) m [] e = take_none m
take-more (suc k) (suc n) m (x ∷ xs) e = ap (λ zs. x ∷ zs) (take-more k n m xs (omega arith))

-- a frame more only adds to the line
grown-line : (who : Who) (p : Period (List CallPeriod)) (past : List (Period (List CallPeriod))) (fs : List CallFrame) →
    (more : List ℕ) × (down_made who (grown p past fs) ≡ down_made who fs ++ more)
grown-line who p past fs = go (nat_le (next_start fs) (160 * length past))
  where
    go : (b : Bool) → (more : List ℕ) × (down_made who (if b then next_frame p past fs ∷ fs else fs) ≡ down_made who fs ++ more)
    go true = (frame_on_line (next_frame p past fs).shift (bits_now who (next_frame p past fs ∷ fs)), refl)
    go false = ([], sym (append-nil (down_made who fs)))

-- a period more only adds to it
made-line : (who : Who) (t : CallPeriod) (past : List CallPeriod) →
    (more : List ℕ) × (down_made who (frames_of (t ∷ past)) ≡ down_made who (frames_of past) ++ more)
made-line who t past =
    let p = down_period t past in
    let one = grown-line who p (down_periods past) (frames_of past) in
    let two = grown-line who p (down_periods past) (grown p (down_periods past) (frames_of past)) in
    (one.0 ++ two.0, two.1 ∙ ap (λ z. z ++ two.0) one.1 ∙ append_assoc (down_made who (frames_of past)) one.0 two.0)

-- **The Down line is the front of what is made.**
pub line-is_made : (who : Who) (ts : List CallPeriod) → down_line who ts ≡ take (320 * length ts) (down_made who (frames_of ts))
line-is_made who [] = refl
line-is_made who (t ∷ past) =
    let n = length-down_periods past in
    let more = made-line who t past in
    let far : 320 * length (down_periods past) < length (down_made who (frames_of past)) = made-far (bits_now who) (λ fs. length-down_bits (frame_now who fs))
    (down_periods past) in
    let here : 320 * length (down_periods past) ≡ 320 * length past = omega arith in
    let same : take (320 * length past) (down_made who (frames_of (t ∷ past))) ≡ take (320 * length past) (down_made who (frames_of past)) =
    ap (take (320 * length past)) more.1 ∙ take-append-le (320 * length past) (down_made who (frames_of past)) more.0 (omega arith) in
    ap (λ z. z ++ down_now who (t ∷ past)) (line-is_made who past ∙ sym same)
    ∙ ap (λ k. take (320 * length past) (down_made who (frames_of (t ∷ past))) ++ take 320 (drop k (down_made who (frames_of (t ∷ past))))) here
    ∙ sym (take-more (320 * length (t ∷ past)) (320 * length past) 320 (down_made who (frames_of (t ∷ past))) (omega arith))

-- The whole Down line of a call in which no shift is asked for.
use Rattle.std.proofs.Common.{◌≡◌, refl, sym, ap, ◌∙◌, ℕ, ◌*◌, List, [], ◌∷◌, ◌++◌, length, take, replicate, arith}
use Rattle.std.proofs.lemmas.List.{append-nil, append_assoc, length-append, length-replicate, take_at}
use Rattle.trau_frame.specs.DownFrame.{down_bits}
use Rattle.trau_frame.proofs.Again.{length-down_bits}
use Rattle.call_leg.specs.Who.{Who}
use Rattle.call_leg.specs.Periods.{CallPeriod}
use Rattle.call_leg.specs.Down.{bits_now, down_made, down_line}
use Rattle.call_leg.proofs.Lines.{line-is_made}
use Rattle.call_sides.specs.Sent.{AreUnshifted, frames_by_period, frame_in, bits_sent, line_sent}
use Rattle.call_sides.proofs.Unshifted.{unshifted-past, frames-same}
use Rattle.call_sides.proofs.Contents.{contents-same}

abbrev ones : List ℕ
ones = replicate 320 1

length-bits_sent : (who : Who) (ts : List CallPeriod) → length (bits_sent who ts) ≡ 320 * length ts
length-bits_sent who [] = refl
length-bits_sent who (t ∷ past) =
    let rest = length-bits_sent who past in
    let here = length-down_bits (frame_in who t past) in
    length-append (bits_sent who past) (down_bits (frame_in who t past)) ∙ omega arith

-- all that is made
made-same : (who : Who) (ts : List CallPeriod) → AreUnshifted ts → down_made who (frames_by_period ts) ≡ ones ++ bits_sent who ts
made-same who [] h = sym (append-nil ones)
made-same who (t ∷ past) h =
    let fs = frames_by_period (t ∷ past) in
    let bits = down_bits (frame_in who t past) in
    let same : bits_now who fs ≡ bits = ap (bits_now who) (sym (frames-same (t ∷ past) h)) ∙ ap down_bits (contents-same who t past h) in
    ap (λ z. down_made who (frames_by_period past) ++ z) (append-nil (bits_now who fs) ∙ same)
    ∙ ap (λ z. z ++ bits) (made-same who past (unshifted-past t past h)) ∙ append_assoc ones (bits_sent who past) bits

-- **The line: each frame goes out in the next period.**
pub line-same : (who : Who) (ts : List CallPeriod) → AreUnshifted ts → down_line who ts ≡ line_sent who ts
line-same who [] h = refl
line-same who (t ∷ past) h =
    let bits = down_bits (frame_in who t past) in
    let n = length-bits_sent who past in
    let o = length-replicate {A = ℕ} 320 1 in
    let long : length (ones ++ bits_sent who past) ≡ 320 * length (t ∷ past) = length-append ones (bits_sent who past) ∙ omega arith in
    line-is_made who (t ∷ past)
    ∙ ap (λ fs. take (320 * length (t ∷ past)) (down_made who fs)) (frames-same (t ∷ past) h)
    ∙ ap (take (320 * length (t ∷ past))) (made-same who (t ∷ past) h ∙ sym (append_assoc ones (bits_sent who past) bits))
    ∙ take_at (ones ++ bits_sent who past) bits (320 * length (t ∷ past)) long

-- The search over an Up line that is recorded frame by frame.
use Rattle.std.proofs.Common.{◌≡◌, refl, sym, ap, ◌∙◌, subst, is_some, map, ℕ, ◌+◌, ◌*◌, true, Option, Some, None, All, List, [], ◌∷◌, ◌++◌, length, arith}
use Rattle.std.proofs.lemmas.Bool.{cond-true}
use Rattle.std.proofs.lemmas.List.{get_or-append-add, ext_get_or}
use Rattle.std.proofs.lemmas.List.Elements.{All-head, All-tail, All-nil, All-cons}
use Rattle.trau_bits.specs.Bits.{bits_of}
use Rattle.trau_bits.proofs.BitList.{length-bits_of}
use Rattle.trau_frame.specs.Match.{bit_in, is_match, frame_at}
use Rattle.trau_frame.proofs.Matches.{is_match-same, frame_at-same, length-frame_at, get_or-frame_at, synced_is_match}
use Rattle.frame_sync.specs.declared.yields.Mode.{Mode}
use Rattle.frame_sync.specs.declared.yields.Mode.TheVariants.{Hunting, Locked}
use Rattle.frame_sync.specs.declared.yields.Yield.{Yield}
use Rattle.frame_sync.specs.declared.yields.Yield.TheVariants.{Frame}
use Rattle.frame_sync.specs.Periods.{first_match, hunted, yield_due, searched, line_bits, mode_after, ArePeriods}
use Rattle.frame_sync.proofs.Steps.{length-line_bits}
use Rattle.trau_frame.specs.UpFrame.{words_in}
use Rattle.fr_sides.specs.Uplink.{heard_in_uplink}
use Rattle.call_leg.specs.Uplink.{Framed, sighting_in, heard_as, field_of}
use Rattle.call_leg.specs.Periods.{CallPeriod, ups_of, sighting_after}
use Rattle.call_leg.specs.Down.{down_periods}
use Rattle.call_sides.specs.Received.{receiver_period, receiver_periods}
use Rattle.call_sides.specs.Sent.{AsksNoShift}
use Rattle.call_sides.specs.Recorded.{IsWholeFrame, AreWholeFrames, FrameAsksNoShift, recorded_periods}

-- ---- the bits of the newest period

from_zero : (i : ℕ) → 0 + i ≡ i
from_zero i = omega arith

-- a period's bits from its first place on
own : (octets : List ℕ) → length octets ≡ 40 → frame_at (bit_in (bits_of octets)) 0 ≡ bits_of octets
own octets l =
    let n = length-bits_of octets in
    let m = length-frame_at (bit_in (bits_of octets)) 0 in
    ext_get_or 0 (frame_at (bit_in (bits_of octets)) 0) (bits_of octets) (omega arith)
    (λ i h. get_or-frame_at (bit_in (bits_of octets)) 0 i 0 (omega arith) ∙ ap (bit_in (bits_of octets)) (from_zero i))

-- their places on the line
placed : (octets : List ℕ) (past : List (List ℕ)) → ArePeriods past → (i : ℕ) →
    bit_in (line_bits (octets ∷ past)) (320 * length past + i) ≡ bit_in (bits_of octets) (0 + i)
unfolding line_bits
placed octets past h i =
    ap (λ n. bit_in (line_bits past ++ bits_of octets) (n + i)) (sym (length-line_bits past h)) ∙ get_or-append-add (line_bits past) (bits_of octets) i 0
    ∙ ap (bit_in (bits_of octets)) (sym (from_zero i))

matches : (octets : List ℕ) (past : List (List ℕ)) → ArePeriods past → IsWholeFrame octets →
    is_match (bit_in (line_bits (octets ∷ past))) (320 * length past) ≡ true
matches octets past h w =
    is_match-same (bit_in (line_bits (octets ∷ past))) (bit_in (bits_of octets)) (320 * length past) 0 (λ i l. placed octets past h i)
    ∙ synced_is_match (bit_in (bits_of octets)) 0 (rw (own octets w.0) w.1)

reads : (octets : List ℕ) (past : List (List ℕ)) → ArePeriods past → length octets ≡ 40 →
    frame_at (bit_in (line_bits (octets ∷ past))) (320 * length past) ≡ bits_of octets
reads octets past h l =
    frame_at-same (bit_in (line_bits (octets ∷ past))) (bit_in (bits_of octets)) (320 * length past) 0 (λ i k. placed octets past h i) ∙ own octets l

-- ---- the search

-- after whole frames alone the search is locked, and a frame is due where the next period begins
abbrev mode_of : List (List ℕ) → Mode
mode_of [] = Hunting 0
mode_of (octets ∷ past) = Locked (320 * length past + 320) 0

abbrev found : List ℕ → List (List ℕ) → Option Yield × Mode
found octets past = (Some (Frame (320 * length past) (bits_of octets)), Locked (320 * length past + 320) 0)

-- the search finds the frame of a period, before any period and after others
search-first : (octets : List ℕ) → IsWholeFrame octets → searched (bit_in (line_bits (octets ∷ []))) 0 (Hunting 0) ≡ found octets []
unfolding searched first_match
search-first octets w =
    ap (hunted (bit_in (line_bits (octets ∷ []))) 0)
    (cond-true (is_match (bit_in (line_bits (octets ∷ []))) 0) (Some 0) None (matches octets [] (All-nil (λ o. length o ≡ 40)) w))
    ∙ ap (λ bits. (Some (Frame 0 bits), Locked 320 0)) (reads octets [] (All-nil (λ o. length o ≡ 40)) w.0)

search-due : (octets : List ℕ) (past : List (List ℕ)) → ArePeriods past → IsWholeFrame octets →
    searched (bit_in (line_bits (octets ∷ past))) (320 * length past) (Locked (320 * length past) 0) ≡ found octets past
unfolding searched
search-due octets past h w =
    ap (yield_due (bit_in (line_bits (octets ∷ past))) (320 * length past) 0) (matches octets past h w)
    ∙ ap (λ bits. (Some (Frame (320 * length past) bits), Locked (320 * length past + 320) 0)) (reads octets past h w.0)

search : (octets : List ℕ) (past : List (List ℕ)) → ArePeriods past → IsWholeFrame octets →
    searched (bit_in (line_bits (octets ∷ past))) (320 * length past) (mode_of past) ≡ found octets past
search octets [] h w = search-first octets w
search octets (last ∷ past) h w =
    let e : 320 * length past + 320 ≡ 320 * length (last ∷ past) = omega arith in
    ap (λ n. searched (bit_in (line_bits (octets ∷ last ∷ past))) (320 * length (last ∷ past)) (Locked n 0)) e ∙ search-due octets (last ∷ past) h w

periods : (past : List (List ℕ)) → All IsWholeFrame past → ArePeriods past
periods [] h = All-nil (λ o. length o ≡ 40)
periods (octets ∷ past) h =
    All-cons (λ o. length o ≡ 40) octets past (All-head IsWholeFrame octets past h).0 (periods past (All-tail IsWholeFrame octets past h))

mode-same : (past : List (List ℕ)) → All IsWholeFrame past → mode_after past ≡ mode_of past
unfolding mode_after
mode-same [] h = refl
mode-same (octets ∷ past) h =
    let earlier = All-tail IsWholeFrame octets past h in
    ap (λ m. (searched (bit_in (line_bits (octets ∷ past))) (320 * length past) m).1) (mode-same past earlier)
    ∙ ap (λ r. r.1) (search octets past (periods past earlier) (All-head IsWholeFrame octets past h))

-- ---- the call

ups-whole : (ts : List CallPeriod) → AreWholeFrames ts → All IsWholeFrame (ups_of ts)
ups-whole [] h = All-nil IsWholeFrame
ups-whole (t ∷ past) h =
    All-cons IsWholeFrame t.up (ups_of past) (All-head (λ t. IsWholeFrame t.up) t past h)
    (ups-whole past (All-tail (λ t. IsWholeFrame t.up) t past h))

-- a period shows its own frame
sighting-own : (t : CallPeriod) (past : List CallPeriod) → AreWholeFrames (t ∷ past) → sighting_after past t.up ≡ Framed (words_in (bits_of t.up))
unfolding sighting_after
sighting-own t past h =
    let earlier = ups-whole past (All-tail (λ t. IsWholeFrame t.up) t past h) in
    ap (λ m. sighting_in (searched (bit_in (line_bits (t.up ∷ ups_of past))) (320 * length (ups_of past)) m).0) (mode-same (ups_of past) earlier)
    ∙ ap (λ r. sighting_in r.0) (search t.up (ups_of past) (periods (ups_of past) earlier) (All-head (λ t. IsWholeFrame t.up) t past h))

-- **In whole frames the receive side gets what each of them says.**
pub recorded-same : (ts : List CallPeriod) → AreWholeFrames ts → receiver_periods ts ≡ recorded_periods ts
recorded-same [] h = refl
recorded-same (t ∷ past) h =
    ap (λ s. receiver_period (heard_as s) (is_some t.handed) ∷ receiver_periods past) (sighting-own t past h)
    ∙ ap (λ ys. receiver_period (heard_in_uplink (bits_of t.up)) (is_some t.handed) ∷ ys) (recorded-same past (All-tail (λ t. IsWholeFrame t.up) t past h))

-- they ask for no shift, if none of the frames does
pub fields-none : (ts : List CallPeriod) → AreWholeFrames ts → All (λ t. FrameAsksNoShift t.up) ts → All AsksNoShift (map (λ p. p.field) (down_periods ts))
fields-none [] h n = All-nil AsksNoShift
fields-none (t ∷ past) h n =
    All-cons AsksNoShift (field_of (sighting_after past t.up)) (map (λ p. p.field) (down_periods past))
    (subst (λ s. AsksNoShift (field_of s)) (sym (sighting-own t past h)) (All-head (λ t. FrameAsksNoShift t.up) t past n))
    (fields-none past (All-tail (λ t. IsWholeFrame t.up) t past h) (All-tail (λ t. FrameAsksNoShift t.up) t past n))

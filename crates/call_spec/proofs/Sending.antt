-- For crates above: a stretch with one more frame sends that frame after the others (`adds-frame`, `frame_after`).
use Rattle.std.proofs.Common.{◌≡◌, refl, sym, ap, ◌∙◌, ℤ, Bool, true, false, ◌&&◌, if◌then◌else◌, List, [], ◌∷◌, ◌++◌, length, map, reverse, arith}
use Rattle.std.proofs.Common.{length-append}
use Rattle.std.specs.Prelude.{not}
use Rattle.std.specs.List.{zip, list_all, list_any}
use Rattle.std.proofs.lemmas.Bool.{cond-true, and_from}
use Rattle.std.proofs.lemmas.List.{map-append, reverse-reverse, length-reverse, length-map}
use Rattle.std.proofs.lemmas.List.Folds.{list_all-append}
use Rattle.trau_frame.specs.declared.frames.DownFrame.{DownFrame}
use Rattle.fr_encoder.specs.Encoded.{encoding_of, all_encodings, encoded}
use Rattle.tx_dtx.specs.Stretch.{Coded}
use Rattle.tx_dtx.specs.Sent.{sent_of, all_sent, sent}
use Rattle.down_framer.specs.ByNumber.{NumberedFrame}
use Rattle.call_leg.specs.Down.{speech}
use Rattle.call_spec.specs.Call.{Call}
use Rattle.call_spec.specs.Down.{is_coded, coded_goes_on, samples, in_force, coded, uncoded, stretch_frames}
use Rattle.call_spec.proofs.Stretched.{reverse-more, map-reverse, before, newest, AddsTo}

pub zip-more : {A B : Type 0} (xs : List A) (ys : List B) (x : A) (y : B) → length xs ≡ length ys → zip (xs ++ x ∷ []) (ys ++ y ∷ []) ≡ zip xs ys ++ (x, y) ∷ []
zip-more [] [] x y e = refl
zip-more [] (b ∷ ys) x y e = absurd (omega arith)
zip-more (a ∷ xs) [] x y e = absurd (omega arith)
zip-more (a ∷ xs) (b ∷ ys) x y e = ap (λ z. (a, b) ∷ z) (zip-more xs ys x y (omega arith))

-- ---- a stretch with the newest frame first

-- a frame after those before it in its stretch, and all of these
abbrev pub code : Call → NumberedFrame → List NumberedFrame → Coded
code call f before = in_force call (encoding_of (samples call f) (map (samples call) before), f)

-- the coded frames of a stretch, the newest first
abbrev pub codes : Call → List NumberedFrame → List Coded
codes call [] = []
codes call (f ∷ before) = code call f before ∷ codes call before

length-all_encodings : (xs : List (List ℤ)) → length (all_encodings xs) ≡ length xs
unfolding all_encodings
length-all_encodings [] = refl
length-all_encodings (x ∷ past) = let n = length-all_encodings past in length-append (all_encodings past) (encoding_of x past ∷ []) ∙ omega arith

-- each with what is in force in its period
zip-codes : (call : Call) (s : List NumberedFrame) → map (in_force call) (zip (all_encodings (map (samples call) s)) (reverse s)) ≡ reverse (codes call s)
unfolding all_encodings
zip-codes call [] = refl
zip-codes call (f ∷ s) =
    let xs = map (samples call) s in
    let n = length-all_encodings xs in
    let m = length-map s (samples call) in
    let k = length-reverse s in
    ap (λ fs. map (in_force call) (zip (all_encodings xs ++ encoding_of (samples call f) xs ∷ []) fs)) (reverse-more f s) ∙
    ap (map (in_force call)) (zip-more (all_encodings xs) (reverse s) (encoding_of (samples call f) xs) f (omega arith)) ∙
    map-append (in_force call) (zip (all_encodings xs) (reverse s)) ((encoding_of (samples call f) xs, f) ∷ []) ∙
    ap (λ z. z ++ code call f s ∷ []) (zip-codes call s) ∙ sym (reverse-more (code call f s) (codes call s))

-- they are those of the stretch as a whole
coded-reverse : (call : Call) (s : List NumberedFrame) → coded call (reverse s) ≡ reverse (codes call s)
coded-reverse call s =
    ap (λ xs. map (in_force call) (zip (encoded xs) (reverse s))) (map-reverse (samples call) s) ∙
    ap (λ xs. map (in_force call) (zip (all_encodings xs) (reverse s))) (reverse-reverse (map (samples call) s)) ∙ zip-codes call s

-- and sent as the same frames
sent-reverse : (call : Call) (s : List NumberedFrame) → map speech (sent (coded call (reverse s))) ≡ map speech (all_sent (codes call s))
sent-reverse call s = ap (λ cs. map speech (sent cs)) (coded-reverse call s) ∙ ap (λ cs. map speech (all_sent cs)) (reverse-reverse (codes call s))

-- ---- all frames of a coded stretch are coded

first_true : (a b d : Bool) → (a && b && d) ≡ true → a ≡ true
first_true true b d e = refl
first_true false b d e = e

second_true : (a b d : Bool) → (a && b && d) ≡ true → b ≡ true
second_true true true d e = refl
second_true true false d e = e
second_true false true d e = refl
second_true false false d e = e

-- a coded frame and those before it in its stretch are all coded
all-coded : (call : Call) (f : NumberedFrame) (past : List NumberedFrame) → is_coded call f ≡ true →
    list_all (is_coded call) (reverse (newest (coded_goes_on call) f past)) ≡ true
all-coded call f [] e = and_from (is_coded call f) true e refl
all-coded call f (g ∷ past) e = by (coded_goes_on call g f) refl (all-coded call g past)
  where
    by : (b : Bool) → coded_goes_on call g f ≡ b → (is_coded call g ≡ true → list_all (is_coded call) (reverse (newest (coded_goes_on call) g past)) ≡ true) →
        list_all (is_coded call) (reverse (f ∷ (if b then newest (coded_goes_on call) g past else []))) ≡ true
    by true q h =
        ap (list_all (is_coded call)) (reverse-more f (newest (coded_goes_on call) g past))
        ∙ list_all-append (is_coded call) (reverse (newest (coded_goes_on call) g past)) (f ∷ []) ∙
        and_from _ (is_coded call f && true) (h (first_true (is_coded call g) (is_coded call f) _ q)) (and_from (is_coded call f) true e refl)
    by false q h = and_from (is_coded call f) true e refl

-- ---- one more frame

-- the newest frame after those that its stretch has before it
abbrev pub frame_after : Call → NumberedFrame → List NumberedFrame → DownFrame
frame_after call f before = if is_coded call f then speech (sent_of (code call f before) (codes call before)) else uncoded call f

-- a stretch of one frame
first_frame : (call : Call) (f : NumberedFrame) → stretch_frames call (f ∷ []) ≡ frame_after call f [] ∷ []
unfolding all_sent
first_frame call f = by (is_coded call f)
  where
    by : (b : Bool) → (if b && true then map speech (sent (coded call (f ∷ []))) else map (uncoded call) (f ∷ [])) ≡
        (if b then speech (sent_of (code call f []) (codes call [])) else uncoded call f) ∷ []
    by true = sent-reverse call (f ∷ [])
    by false = refl

-- one coded frame more is one sent frame more
sent-more : (call : Call) (f : NumberedFrame) (s : List NumberedFrame) →
    map speech (all_sent (codes call (f ∷ s))) ≡ map speech (all_sent (codes call s)) ++ speech (sent_of (code call f s) (codes call s)) ∷ []
unfolding all_sent
sent-more call f s = map-append speech (all_sent (codes call s)) (sent_of (code call f s) (codes call s) ∷ [])

-- **A stretch adds the newest frame as it is sent after those before it.**
pub adds-frame : (call : Call) → AddsTo (coded_goes_on call) (stretch_frames call) (λ f s. frame_after call f s ∷ [])
adds-frame call = record { first = first_frame call; more = λ f g past e. by f g past e }
  where
    by : (f g : NumberedFrame) (past : List NumberedFrame) → coded_goes_on call g f ≡ true →
        stretch_frames call (reverse (f ∷ newest (coded_goes_on call) g past))
        ≡ stretch_frames call (reverse (newest (coded_goes_on call) g past)) ++ frame_after call f (newest (coded_goes_on call) g past) ∷ []
    by f g past e =
        let s = newest (coded_goes_on call) g past in
        let coded_g = first_true (is_coded call g) (is_coded call f) (not (list_any _ call.spans)) e in
        let coded_f = second_true (is_coded call g) (is_coded call f) (not (list_any _ call.spans)) e in
        let were = all-coded call g past coded_g in
        let now =
        ap (list_all (is_coded call)) (reverse-more f s) ∙ list_all-append (is_coded call) (reverse s) (f ∷ [])
        ∙ and_from _ (is_coded call f && true) were (and_from (is_coded call f) true coded_f refl) in
        cond-true (list_all (is_coded call) (reverse (f ∷ s))) _ _ now ∙ sent-reverse call (f ∷ s) ∙ sent-more call f s ∙
        ap (λ z. z ++ speech (sent_of (code call f s) (codes call s)) ∷ [])
        (sym (cond-true (list_all (is_coded call) (reverse s)) (map speech (sent (coded call (reverse s)))) (map (uncoded call) (reverse s)) were
        ∙ sent-reverse call s)) ∙
        ap (λ d. stretch_frames call (reverse s) ++ d ∷ [])
        (sym (cond-true (is_coded call f) (speech (sent_of (code call f s) (codes call s))) (uncoded call f) coded_f))

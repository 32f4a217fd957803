-- Where the bits of a frame stand on the Down line.
use Rattle.std.proofs.Common.{◌≡◌, refl, sym, ap, ◌∙◌, subst, ℕ, zero, suc, ◌+◌, ◌-◌, ◌*◌, ◌<◌, ◌≤◌, Some, List, [], ◌∷◌, ◌++◌, length, take, reverse, replicate}
use Rattle.std.proofs.Common.{get_or, inl, inr, arith, append_assoc, length-append}
use Rattle.std.specs.Prelude.{Bool, true, nat_lt, is_some}
use Rattle.std.specs.List.{AllByRecursion, flat_map, zip}
use Rattle.std.proofs.lemmas.Bool.{cases_lt, ltb-true}
use Rattle.std.proofs.lemmas.List.{append-nil, reverse-reverse, length-reverse, length-replicate, length-take, get_or-take, get_or-append-add}
use Rattle.std.proofs.lemmas.List.{get_or_append_left}
use Rattle.std.proofs.lemmas.List.Concat.{flat_map-append}
use Rattle.time_align.specs.Shift.{greatest_shift}
use Rattle.trau_frame.specs.DownFrame.{down_bits}
use Rattle.trau_frame.proofs.Again.{length-down_bits}
use Rattle.trau_orders.specs.Lists.{AreOrders}
use Rattle.switchboard.specs.declared.act.Span as board
use Rattle.switchboard.specs.Calls.{opened_at}
use Rattle.down_framer.specs.Made.{octets_to_next, frame_on_line}
use Rattle.down_framer.specs.ByNumber.{NumberedFrame, when, numbered_start}
use Rattle.down_framer.proofs.Store.{length-frame_on_line}
use Rattle.down_framer.proofs.Timing.{octets_of-bounds}
use Rattle.call_spec.specs.Call.{Call, periods}
use Rattle.call_spec.specs.Down.{first_frames, frame_by_number, made_among, frames_of_call, down_frames, bits_on_line, line, down}
use Rattle.call_spec.specs.Whole.{IsWhole}
use Rattle.call_spec.proofs.Stretched.{reverse-more}
use Rattle.call_spec.proofs.Sending.{zip-more}
use Rattle.run_spec.specs.Run.{Run, done_in, start_in, end_in}
use Rattle.run_spec.proofs.Lists.{each_passes}
use Rattle.run_calls_spec.specs.Whole.{whole_call}
use Rattle.run_calls_spec.specs.Sent.{frame_count, frame_as_sent, frame_place, made_bits, Sends}
use Rattle.run_calls_spec.proofs.Periods.{is_whole, count_periods}
use Rattle.run_calls_spec.proofs.Items.{bridged_lies}
use Rattle.run_calls_spec.proofs.Places.{shift_allowed, unshifted}
use Rattle.run_calls_spec.proofs.Sent.{made_first, frame_sent, sent_more, length-sent, CarriesItems, handed_carried, frame_is}

-- ---- the line, frame by frame

-- the line of the first m frames, and what frame m adds
abbrev pub line_to : Call → ℕ → List ℕ
line_to call m = line call (reverse (first_frames call m))

-- what frame m adds to the line
abbrev pub adds : Call → ℕ → List ℕ
adds call m = frame_on_line (frame_by_number call m).shift (down_bits (frame_sent call m))

length-first : (call : Call) (m : ℕ) → length (first_frames call m) ≡ m
length-first call zero = refl
length-first call (suc m) = ap suc (length-first call m)

-- the line goes on frame by frame
pub line_more : (call : Call) (m : ℕ) → line_to call (suc m) ≡ line_to call m ++ adds call m
line_more call m =
    let fs = reverse (first_frames call m) in
    let ds = down_frames call fs in
    let n = length-first call m in
    let k = length-reverse (first_frames call m) in
    let d = length-sent call m in
    ap (λ ds. replicate 320 1 ++ flat_map bits_on_line (zip (reverse (first_frames call (suc m))) ds)) (sent_more call m)
    ∙ ap (λ fs'. replicate 320 1 ++ flat_map bits_on_line (zip fs' (ds ++ frame_sent call m ∷ [])))
    (reverse-more (frame_by_number call m) (first_frames call m))
    ∙ ap (λ xs. replicate 320 1 ++ flat_map bits_on_line xs) (zip-more fs ds (frame_by_number call m) (frame_sent call m) (omega arith))
    ∙ ap (λ z. replicate 320 1 ++ z)
    (flat_map-append bits_on_line (zip fs ds) ((frame_by_number call m, frame_sent call m) ∷ [])
    ∙ ap (λ z. flat_map bits_on_line (zip fs ds) ++ z) (append-nil (adds call m)))
    ∙ sym (append_assoc (replicate 320 1) (flat_map bits_on_line (zip fs ds)) (adds call m))

-- **Behind 320 bits it has two for each octet before the next frame's start.**
pub length-line : (call : Call) (m : ℕ) → length (line_to call m) ≡ 320 + 2 * numbered_start (first_frames call m)
length-line call zero = ap (length {A = ℕ}) (append-nil (replicate 320 1)) ∙ length-replicate {A = ℕ} 320 1
length-line call (suc m) =
    let rest = length-line call m in
    let more =
    length-frame_on_line (frame_by_number call m).shift (down_bits (frame_sent call m)) (shift_allowed call m) (length-down_bits (frame_sent call m)) in
    ap length (line_more call m) ∙ length-append (line_to call m) (adds call m) ∙ omega arith

-- earlier frames stand before it
line_front : (call : Call) (j m : ℕ) → j ≤ m → (more : List ℕ) × (line_to call m ≡ line_to call j ++ more)
line_front call j zero l = let e : 0 ≡ j = omega arith in ([], ap (line_to call) e ∙ sym (append-nil (line_to call j)))
line_front call j (suc m) l = elim (cases_lt m j) [
  | inl now ↦ let e : suc m ≡ j = omega arith in ([], ap (line_to call) e ∙ sym (append-nil (line_to call j)))
  | inr before ↦
      let rest = line_front call j m before in
      (rest.0 ++ adds call m, line_more call m ∙ ap (λ z. z ++ adds call m) rest.1 ∙ append_assoc (line_to call j) rest.0 (adds call m))
]

-- ---- a frame that carries an item

-- a frame's bits stand at its place
bit_on_line : (call : Call) (j h m k : ℕ) → j < m → k < 320 → (frame_by_number call j).carries ≡ Some h →
    get_or (line_to call m) (320 + 2 * (frame_by_number call j).start + k) 0 ≡ get_or (down_bits (frame_sent call j)) k 0
bit_on_line call j h m k l b e =
    let bits = down_bits (frame_sent call j) in
    let n = length-down_bits (frame_sent call j) in
    let front = line_front call (suc j) m l in
    let place : 320 + 2 * (frame_by_number call j).start + k ≡ length (line_to call j) + k = ap (λ i. i + k) (sym (length-line call j)) in
    let all : line_to call m ≡ line_to call j ++ (bits ++ front.0) =
    front.1
    ∙ ap (λ z. z ++ front.0)
    (line_more call j ∙ ap (λ shift. line_to call j ++ frame_on_line shift bits) (unshifted call j h e) ∙ ap (λ z. line_to call j ++ z) (append-nil bits))
    ∙ append_assoc (line_to call j) bits front.0 in
    ap (λ z. get_or z (320 + 2 * (frame_by_number call j).start + k) 0) all ∙ ap (λ i. get_or (line_to call j ++ (bits ++ front.0)) i 0) place
    ∙ get_or-append-add (line_to call j) (bits ++ front.0) k 0 ∙ get_or_append_left bits front.0 0 k (omega arith)

-- **Its bits stand on the Down line one after another.**
pub handed_on_line : CarriesItems → (r : Run) (c t : ℕ) (x : board.Span) (j k : ℕ) → AreOrders r.orders → Sends r c t x j → k < 320 →
    frame_place r c j + k < length (down (whole_call r c)) →
    get_or (down (whole_call r c)) (frame_place r c j + k) 0 ≡ get_or (down_bits (frame_as_sent r c j)) k 0
handed_on_line items r c t x j k a s m n =
    let call = whole_call r c in
    let whole = is_whole r c a (bridged_lies r c t x a s.bridged).known in
    let long = length-take (320 * periods call) (line call (frames_of_call call)) in
    get_or-take (320 * periods call) (line call (frames_of_call call)) (frame_place r c j + k) 0 (omega arith)
    ∙ ap (λ fs. get_or (line call fs) (frame_place r c j + k) 0) (made_first call whole)
    ∙ bit_on_line call j (t - start_in r c) (frame_count r c) k s.made m (handed_carried items r c t x j a s)
    ∙ ap (λ f. get_or (down_bits f) k 0) (sym (frame_is r c t x j a s))

-- ---- a frame but the last

-- what passes is each of the first frames
each_first : (p : NumberedFrame → Bool) (call : Call) (m j : ℕ) → j < m → AllByRecursion (λ f. p f ≡ true) (first_frames call m) →
    p (frame_by_number call j) ≡ true
each_first p call zero j l h = absurd (omega arith)
each_first p call (suc m) j l h = elim (cases_lt j m) [
  | inl old ↦ each_first p call m j old h.1
  | inr now ↦ let e : m ≡ j = omega arith in subst (λ i. p (frame_by_number call i) ≡ true) e h.0
]

-- a frame is made in a period of the call
made_within : (call : Call) (j : ℕ) → IsWhole call → j < length (frames_of_call call) → when (frame_by_number call j).start < periods call
made_within call j whole l =
    let soon : NumberedFrame → Bool = λ f. nat_lt (when f.start) (periods call) in
    let n = length (frames_of_call call) in
    let same : made_among call (2 * periods call) ≡ first_frames call n =
    sym (reverse-reverse (made_among call (2 * periods call))) ∙ ap reverse (made_first call whole) ∙ reverse-reverse (first_frames call n) in
    ltb-true (when (frame_by_number call j).start) (periods call)
    (each_first soon call n j l (subst (AllByRecursion (λ f. soon f ≡ true)) same (each_passes soon (first_frames call (2 * periods call)))))

-- what the laws of a run's lines say of the Down line
abbrev pub AreLong : Type 0
AreLong = (r : Run) (c : ℕ) → AreOrders r.orders → is_some (opened_at c (done_in r)) ≡ true → length (down (whole_call r c)) ≡ 320 * (end_in r c - start_in r c)

-- **Each frame that is made begins on the line, or at its end.**
pub begins_on_line : AreLong → (r : Run) (c j : ℕ) → AreOrders r.orders → is_some (opened_at c (done_in r)) ≡ true → j < frame_count r c →
    frame_place r c j ≤ length (down (whole_call r c))
begins_on_line long r c j a o l =
    let call = whole_call r c in
    within (frame_by_number call j).start (end_in r c - start_in r c) (periods call) (length (down call)) (made_within call j (is_whole r c a o) l)
    (count_periods r c) (long r c a o)
  where
    within : (start n k line : ℕ) → when start < k → k ≡ n → line ≡ 320 * n → 320 + 2 * start ≤ line
    within start n k line l m o = omega arith

-- **A frame behind which another is made stands on the line whole.**
pub whole_on_line : CarriesItems → AreLong → (r : Run) (c t : ℕ) (x : board.Span) (j : ℕ) → AreOrders r.orders → Sends r c t x j →
    j + 1 < frame_count r c → frame_place r c j + 320 ≤ length (down (whole_call r c))
whole_on_line items long r c t x j a s more =
    let call = whole_call r c in
    let later = begins_on_line long r c (suc j) a (bridged_lies r c t x a s.bridged).known (omega arith) in
    let next : (frame_by_number call (suc j)).start ≡ (frame_by_number call j).start + 160 =
    ap (λ shift. (frame_by_number call j).start + octets_to_next shift) (unshifted call j (t - start_in r c) (handed_carried items r c t x j a s)) in
    omega (arith, later, next)

-- ---- what stays unwritten

-- frames that begin in the call's periods end at most 156 octets after them
next_near : (call : Call) (n m : ℕ) → ((j : ℕ) → j < m → when (frame_by_number call j).start < n) →
    numbered_start (first_frames call m) ≤ 160 * n + greatest_shift
next_near call n zero h = omega arith
next_near call n (suc m) h =
    let last = h m (omega arith) in
    let more = octets_of-bounds (frame_by_number call m).shift (shift_allowed call m) in
    omega (arith, last, more.1)

-- **At most 632 bits more are made than the line has.**
pub few_unwritten : AreLong → (r : Run) (c : ℕ) → AreOrders r.orders → is_some (opened_at c (done_in r)) ≡ true →
    length (made_bits r c) ≤ length (down (whole_call r c)) + 632
few_unwritten long r c a o =
    let call = whole_call r c in
    let whole = is_whole r c a o in
    let n = frame_count r c in
    let made : length (made_bits r c) ≡ 320 + 2 * numbered_start (first_frames call n) =
    ap (λ fs. length (line call fs)) (made_first call whole) ∙ length-line call n in
    near (numbered_start (first_frames call n)) (end_in r c - start_in r c) (periods call) (length (down call)) (length (made_bits r c)) made
    (next_near call (periods call) n (λ j l. made_within call j whole l)) (count_periods r c) (long r c a o)
  where
    near : (next n k long made : ℕ) → made ≡ 320 + 2 * next → next ≤ 160 * k + greatest_shift → k ≡ n → long ≡ 320 * n → made ≤ long + 632
    near next n k long made m l e o = omega arith

-- **The line is the first of the bits that are made.**
pub line_front_of_made : (r : Run) (c : ℕ) → down (whole_call r c) ≡ take (320 * (end_in r c - start_in r c)) (made_bits r c)
line_front_of_made r c = ap (λ n. take (320 * n) (made_bits r c)) (count_periods r c)

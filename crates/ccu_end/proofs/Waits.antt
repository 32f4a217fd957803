-- A request that waits, frame by frame, is the one that the look back finds.
use Rattle.std.proofs.Common.{◌≡◌, ℕ, All, IfSome, ◌+◌, Bool, true, false, ◌&&◌, nat_lt, if◌then◌else◌, ◌==◌, Option, Some, None, List, [], ◌∷◌, ◌++◌, length}
use Rattle.std.proofs.Common.{length-append, append_assoc, refl, sym, ap, ◌∙◌, inl, inr, arith}
use Rattle.std.proofs.lemmas.Bool.{cases_lt, cases_eq, eq-eqb, ne_eqb, lt-ltb, le-ltb}
use Rattle.std.proofs.lemmas.List.{append-nil}
use Rattle.std.proofs.lemmas.List.Elements.{All-head, All-tail}
use Rattle.ccu_end.specs.Found.{FoundFrame, HaveBits}
use Rattle.ccu_end.specs.Window.{low_after}
use Rattle.ccu_end.specs.Heard.{all_of}
use Rattle.ccu_end.specs.Asked.{frames_of_wait, Answered, last_of, place_in, in_step, still_waits, waiting, offset_of, field_for, field_where, field_after, answered, speech_in}
use Rattle.ccu_end.specs.Asked.{up_words, asked}
use Rattle.ccu_end.specs.Step.{wait_next, waits_over, field_now, period_field, asked_with, waiting_after, answer_after}

-- from where on the next frame is looked for, behind two lists
pub after-append : (low : ℕ) (fs gs : List FoundFrame) → low_after low (fs ++ gs) ≡ low_after (low_after low fs) gs
after-append low [] gs = refl
after-append low (f ∷ fs) gs = after-append (f.place + 316) fs gs

-- ---- one frame more behind a request

-- the place of the last of the frames, or else p
abbrev place_from : ℕ → List FoundFrame → ℕ
place_from p [] = p
place_from p (f ∷ fs) = place_from f.place fs

-- the same behind a step, and behind the last frame
low_is : (p : ℕ) (fs : List FoundFrame) → low_after (p + 316) fs ≡ place_from p fs + 316
low_is p [] = refl
low_is p (f ∷ fs) = low_is f.place fs

last_is : (low : ℕ) (f : FoundFrame) (fs : List FoundFrame) → low_after low (f ∷ fs) ≡ place_in (last_of (f ∷ fs)) + 316
last_is low f [] = refl
last_is low f (g ∷ fs) = last_is (f.place + 316) g fs

-- of three conditions
and_assoc : (a b c : Bool) → (a && (b && c)) ≡ ((a && b) && c)
and_assoc true b c = refl
and_assoc false b c = refl

and_last : (b : Bool) → (b && true) ≡ (true && b)
and_last true = refl
and_last false = refl

-- one frame more, in step or not
step-more : (p : ℕ) (f : FoundFrame) (fs : List FoundFrame) → in_step p (fs ++ f ∷ []) ≡ (in_step p fs && (f.place == place_from p fs + 320))
step-more p f [] = and_last (f.place == p + 320)
step-more p f (g ∷ fs) =
    ap (λ b. g.place == p + 320 && b) (step-more g.place f fs) ∙ and_assoc (g.place == p + 320) (in_step g.place fs) _

-- what is left of a request, by whether the frame is in step
next_with : Option ℕ → Bool → Option ℕ
next_with None e = None
next_with (Some count) e = if e && nat_lt (count + 1) frames_of_wait then Some (count + 1) else None

next-is : (w : Option ℕ) (low p : ℕ) → next_with w (p == low + 4) ≡ wait_next w low p
unfolding next_with
next-is None low p = refl
next-is (Some count) low p = refl

-- a request that is over stays so
if_none : (b : Bool) (w : Option ℕ) → (if b && false then w else None) ≡ None
if_none true w = refl
if_none false w = refl

-- before the last frame of a wait, and with it
next_few : (e : Bool) (n : ℕ) → nat_lt (n + 1) frames_of_wait ≡ true → next_with (Some n) e ≡ (if e then Some (n + 1) else None)
unfolding next_with
next_few true n c = rw c refl
next_few false n c = refl

ended : (e : Bool) (n : ℕ) → nat_lt (n + 1) frames_of_wait ≡ false → (b : Bool) → next_with (if b && true then Some n else None) e ≡ None
unfolding next_with
ended true n c true = rw c refl
ended false n c true = refl
ended e n c false = refl

-- by the number of frames before it, whether they are in step, and whether it is
count-more : (n : ℕ) (s e : Bool) → (if nat_lt (n + 1) frames_of_wait && (s && e) then Some (n + 1) else None) ≡
    next_with (if nat_lt n frames_of_wait && s then Some n else None) e
unfolding next_with
count-more n false e = if_none (nat_lt (n + 1) frames_of_wait) (Some (n + 1)) ∙
    sym (ap (λ w. next_with w e) (if_none (nat_lt n frames_of_wait) (Some n)))
count-more n true e = elim (cases_lt (n + 1) frames_of_wait) [
  | inl few ↦
      let a : nat_lt (n + 1) frames_of_wait ≡ true = lt-ltb _ _ few in
      let b : nat_lt n frames_of_wait ≡ true = lt-ltb _ _ (omega arith) in
      rw (a, b) (sym (next_few e n a))
  | inr many ↦
      let a : nat_lt (n + 1) frames_of_wait ≡ false = le-ltb _ _ many in
      rw a (sym (ended e n a (nat_lt n frames_of_wait)))
]

-- one frame more after a request
still-more : (sent since : List FoundFrame) (f : FoundFrame) (low : ℕ) → low ≡ place_from (place_in (last_of sent)) since + 316 →
    (if still_waits sent (since ++ f ∷ []) then Some (length (since ++ f ∷ [])) else None) ≡
    wait_next (if still_waits sent since then Some (length since) else None) low f.place
still-more sent since f low e =
    let p = place_in (last_of sent) in
    let n : length (since ++ f ∷ []) ≡ length since + 1 = length-append since (f ∷ []) in
    let next : place_from p since + 320 ≡ low + 4 = omega arith in
    ap (λ b. if nat_lt (length (since ++ f ∷ [])) frames_of_wait && b then Some (length (since ++ f ∷ [])) else None) (step-more p f since) ∙
    ap (λ k. if nat_lt k frames_of_wait && (in_step p since && (f.place == place_from p since + 320)) then Some k else None) n ∙
    ap (λ q. if nat_lt (length since + 1) frames_of_wait && (in_step p since && (f.place == q)) then Some (length since + 1) else None) next ∙
    count-more (length since) (in_step p since) (f.place == low + 4) ∙
    next-is (if still_waits sent since then Some (length since) else None) low f.place

-- ---- the look back

-- all frames of the periods, the oldest first
found_in : List Answered → List FoundFrame
found_in [] = []
found_in (a ∷ past) = found_in past ++ a.frames

-- a period that found none sent none
Sends : List Answered → Type 0
Sends [] = Unit {0}
Sends (a ∷ past) = (a.frames ≡ [] → a.field ≡ 0) × Sends past

-- from where on, by the last frame that was sent
low-sent : (low : ℕ) (fs since : List FoundFrame) → (fs ≡ [] → ⊥) → low_after low (fs ++ since) ≡ place_from (place_in (last_of fs)) since + 316
low-sent low [] since h = absurd (h refl)
low-sent low (g ∷ gs) since h =
    after-append low (g ∷ gs) since ∙ ap (λ k. low_after k since) (last_is low g gs) ∙ low_is (place_in (last_of (g ∷ gs))) since

-- a request over one frame
waiting-one : (since : List FoundFrame) (f : FoundFrame) (past : List Answered) → Sends past →
    waiting (since ++ f ∷ []) past ≡ wait_next (waiting since past) (low_after 0 (found_in past ++ since)) f.place
unfolding waiting found_in Sends
waiting-one since f [] h = refl
waiting-one since f (a ∷ past) h = elim (cases_eq a.field 0) [
  | inl none ↦
      rw (eq-eqb a.field 0 none) (
      ap (λ l. waiting l past) (sym (append_assoc a.frames since (f ∷ []))) ∙
      waiting-one (a.frames ++ since) f past h.1 ∙
      ap (λ l. wait_next (waiting (a.frames ++ since) past) (low_after 0 l) f.place) (sym (append_assoc (found_in past) a.frames since))
      )
  | inr sent ↦
      let some_found : a.frames ≡ [] → ⊥ = λ e. sent (h.0 e) in
      let low : low_after 0 ((found_in past ++ a.frames) ++ since) ≡ place_from (place_in (last_of a.frames)) since + 316 =
      ap (low_after 0) (append_assoc (found_in past) a.frames since) ∙ after-append 0 (found_in past) (a.frames ++ since) ∙
      low-sent (low_after 0 (found_in past)) a.frames since some_found in
      rw (ne_eqb a.field 0 sent) (still-more a.frames since f (low_after 0 ((found_in past ++ a.frames) ++ since)) low)
]

-- over all of a period
waiting-all : (since fs : List FoundFrame) (past : List Answered) (low : ℕ) → Sends past → low ≡ low_after 0 (found_in past ++ since) →
    waiting (since ++ fs) past ≡ waits_over (waiting since past) low fs
waiting-all since [] past low h e = ap (λ l. waiting l past) (append-nil since)
waiting-all since (f ∷ fs) past low h e =
    let one = waiting-one since f past h in
    let next : f.place + 316 ≡ low_after 0 (found_in past ++ (since ++ f ∷ [])) =
    sym (ap (low_after 0) (sym (append_assoc (found_in past) since (f ∷ []))) ∙ after-append 0 (found_in past ++ since) (f ∷ [])) in
    ap (λ l. waiting l past) (sym (append_assoc since (f ∷ []) fs)) ∙
    waiting-all (since ++ f ∷ []) fs past (f.place + 316) h next ∙
    ap (λ w. waits_over w (f.place + 316) fs) (one ∙ ap (λ k. wait_next (waiting since past) k f.place) (sym e))

-- ---- one period more

-- what was answered had frames
sends-answered : (want : ℕ) (heard : List (List FoundFrame)) → Sends (answered want heard)
unfolding answered Sends
sends-answered want [] = tt
sends-answered want (fs ∷ heard) = (λ e. ap (λ l. field_after want l (answered want heard)) e, sends-answered want heard)

-- the frames that were answered are all
found-answered : (want : ℕ) (heard : List (List FoundFrame)) → found_in (answered want heard) ≡ all_of heard
unfolding answered found_in all_of
found-answered want [] = refl
found-answered want (fs ∷ heard) = ap (λ l. l ++ fs) (found-answered want heard)

-- a request over a period, by all answers
waiting-period : (want : ℕ) (fs : List FoundFrame) (heard : List (List FoundFrame)) →
    waits_over (waiting [] (answered want heard)) (low_after 0 (all_of heard)) fs ≡ waiting fs (answered want heard)
waiting-period want fs heard =
    sym (waiting-all [] fs (answered want heard) (low_after 0 (all_of heard)) (sends-answered want heard)
    (ap (low_after 0) (sym (found-answered want heard) ∙ sym (append-nil (found_in (answered want heard))))))

-- a period without a frame asks for nothing
last-some : (w : Option ℕ) (want : ℕ) (f : FoundFrame) (fs : List FoundFrame) →
    field_now w want (last_of (f ∷ fs)) ≡ field_where w (field_for (offset_of want (place_in (last_of (f ∷ fs)))))
last-some w want f [] = refl
last-some w want f (g ∷ fs) = last-some w want g fs

-- the field that is asked for
field-now : (want : ℕ) (fs : List FoundFrame) (past : List Answered) → field_now (waiting fs past) want (last_of fs) ≡ field_after want fs past
field-now want [] past = refl
field-now want (f ∷ fs) past = last-some (waiting (f ∷ fs) past) want f fs

field-period : (want : ℕ) (fs : List FoundFrame) (heard : List (List FoundFrame)) →
    period_field (waiting [] (answered want heard)) (low_after 0 (all_of heard)) want fs ≡ field_after want fs (answered want heard)
field-period want fs heard =
    ap (λ w. field_now w want (last_of fs)) (waiting-period want fs heard) ∙ field-now want fs (answered want heard)

-- so what is kept of the request is right
pub waiting-next : (want : ℕ) (fs : List FoundFrame) (heard : List (List FoundFrame)) →
    waiting_after (waiting [] (answered want heard)) (low_after 0 (all_of heard)) want fs ≡ waiting [] (answered want (fs ∷ heard))
unfolding answered waiting
waiting-next want fs heard =
    let w = waiting-period want fs heard in
    let n = field-period want fs heard in
    ap (λ x. asked_with x (period_field (waiting [] (answered want heard)) (low_after 0 (all_of heard)) want fs)) w ∙
    ap (asked_with (waiting fs (answered want heard))) n ∙
    ap (λ l. if field_after want fs (answered want heard) == 0 then waiting l (answered want heard) else Some 0) (sym (append-nil fs))

-- and the answer
pub answer-next : (want : ℕ) (fs : List FoundFrame) (heard : List (List FoundFrame)) →
    answer_after (waiting [] (answered want heard)) (low_after 0 (all_of heard)) want fs ≡ asked want (fs ∷ heard)
unfolding asked
answer-next want fs heard = ap (up_words (speech_in (last_of fs))) (field-period want fs heard)

-- the last frame has bits
pub last-bits : (fs : List FoundFrame) → All HaveBits fs → IfSome (last_of fs) HaveBits
last-bits [] h = tt
last-bits (f ∷ []) h = All-head HaveBits f [] h
last-bits (f ∷ g ∷ fs) h = last-bits (g ∷ fs) (All-tail HaveBits f (g ∷ fs) h)

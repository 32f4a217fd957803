-- What one period does to a request that waits, frame by frame.
use Rattle.std.specs.Prelude.{ℕ, ◌+◌, ◌&&◌, if◌then◌else◌, ◌==◌, nat_lt, List, [], ◌∷◌, Option, Some, None}
use Rattle.trau_frame.specs.UpFrame.{UpWords}
use Rattle.ccu_end.specs.Found.{FoundFrame}
use Rattle.ccu_end.specs.Asked.{frames_of_wait, last_of, offset_of, field_for, field_where, speech_in, up_words}

-- a request that waits, when the next frame is found at place p; `low` is the place 316 bits after the one before
abbrev pub wait_next : Option ℕ → ℕ → ℕ → Option ℕ
wait_next None low p = None
wait_next (Some count) low p = if p == low + 4 && nat_lt (count + 1) frames_of_wait then Some (count + 1) else None

-- the same over all frames of a period
abbrev pub waits_over : Option ℕ → ℕ → List FoundFrame → Option ℕ
waits_over w low [] = w
waits_over w low (f ∷ fs) = waits_over (wait_next w low f.place) (f.place + 316) fs

-- the field by the request that waits, if one does, and by the last frame
abbrev pub field_now : Option ℕ → ℕ → Option FoundFrame → ℕ
field_now w want None = 0
field_now w want (Some f) = field_where w (field_for (offset_of want f.place))

-- the field of the period in which these frames were found
abbrev pub period_field : Option ℕ → ℕ → ℕ → List FoundFrame → ℕ
period_field w low want fs = field_now (waits_over w low fs) want (last_of fs)

-- the request that waits after a period with this field
abbrev pub asked_with : Option ℕ → ℕ → Option ℕ
asked_with w field = if field == 0 then w else Some 0

abbrev pub waiting_after : Option ℕ → ℕ → ℕ → List FoundFrame → Option ℕ
waiting_after w low want fs = asked_with (waits_over w low fs) (period_field w low want fs)

abbrev pub answer_after : Option ℕ → ℕ → ℕ → List FoundFrame → UpWords
answer_after w low want fs = up_words (speech_in (last_of fs)) (period_field w low want fs)

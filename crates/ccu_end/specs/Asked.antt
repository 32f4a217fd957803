-- What a base station sends up in each period: the speech that it heard, and the time alignment that it asks for (this
-- project's profile, modelled on GSM 08.60). A history has the newest period first; the frames of one period are in
-- order.
use Rattle.std.specs.Prelude.{ℕ, ◌+◌, ◌-◌, ◌/◌, ◌%◌, Bool, true, false, ◌&&◌, if◌then◌else◌, ◌==◌, nat_le, nat_lt, List, [], ◌∷◌, ◌++◌, length, replicate}
use Rattle.std.specs.Prelude.{Option, Some, None}
use Rattle.trau_frame.specs.declared.frames.DownFrame.{DownFrame}
use Rattle.trau_frame.specs.declared.frames.DownFrame.TheVariants as down
use Rattle.trau_frame.specs.declared.frames.Kind.TheVariants as kinds
use Rattle.trau_frame.specs.declared.frames.Class.TheVariants as classes
use Rattle.trau_frame.specs.UpFrame.{UpWords}
use Rattle.ccu_end.specs.Found.{FoundFrame}

-- the last of the frames, if there is one
abbrev pub last_of : List FoundFrame → Option FoundFrame
last_of [] = None
last_of (f ∷ []) = Some f
last_of (f ∷ g ∷ fs) = last_of (g ∷ fs)

-- its place, or 0 if there is none
abbrev pub place_in : Option FoundFrame → ℕ
place_in None = 0
place_in (Some f) = f.place

-- ---- the field

-- bits from place p to the next wanted place, 0 to 319
abbrev pub offset_of : ℕ → ℕ → ℕ
offset_of want p = (want + 320 - p % 320) % 320

-- the alignment field that asks for frames `offset` bits later: a field n up to 39 is a delay by n steps of 500 us, 8
-- bits each, and 62 one of 250 us, 4 bits (GSM 08.60)
abbrev pub field_for : ℕ → ℕ
field_for offset =
    if nat_le 8 offset then offset / 8
    else if offset == 4 then 62
    else 0

-- a period: the frames found in it, and the field sent in it; a field other than 0 is a request
pub record Answered : Type 0 where
  pub frames : List FoundFrame
  pub field : ℕ

-- each frame is 320 bits after the one before, and the first of them 320 bits after place p
abbrev pub in_step : ℕ → List FoundFrame → Bool
in_step p [] = true
in_step p (f ∷ fs) = f.place == p + 320 && in_step f.place fs

-- a request is over with this frame after it, counted from 1
abbrev pub frames_of_wait : ℕ
frames_of_wait = 8

-- A request of the period in which `sent` were found waits as long as all frames found since are in step and fewer than
-- these.
abbrev pub still_waits : List FoundFrame → List FoundFrame → Bool
still_waits sent since = nat_lt (length since) frames_of_wait && in_step (place_in (last_of sent)) since

-- How many frames were found since the newest request, if it still waits; None if it doesn't, or if there was none.
-- `since` are the frames found after these periods.
unfoldable pub waiting : List FoundFrame → List Answered → Option ℕ
waiting since [] = None
waiting since (a ∷ past) =
    if a.field == 0 then waiting (a.frames ++ since) past
    else if still_waits a.frames since then Some (length since)
    else None

-- this field, but 0 while a request waits
abbrev pub field_where : Option ℕ → ℕ → ℕ
field_where None field = field
field_where (Some count) field = 0

-- the field of the period that follows the past and in which these frames were found: 0 without a frame, and while a
-- request waits
abbrev pub field_after : ℕ → List FoundFrame → List Answered → ℕ
field_after want [] past = 0
field_after want (f ∷ fs) past = field_where (waiting (f ∷ fs) past) (field_for (offset_of want (place_in (last_of (f ∷ fs)))))

-- all periods in which these frames were found, each with its field
unfoldable pub answered : ℕ → List (List FoundFrame) → List Answered
answered want [] = []
answered want (fs ∷ heard) = record { frames = fs; field = field_after want fs (answered want heard) } ∷ answered want heard

-- ---- the frame

abbrev pub speech_by : Option DownFrame → Option (List ℕ)
speech_by None = None
speech_by (Some down.Idle) = None
speech_by (Some (down.Speech d sp)) = Some d

-- the data bits, if it is a speech frame
abbrev pub speech_in : Option FoundFrame → Option (List ℕ)
speech_in None = None
speech_in (Some f) = speech_by f.frame

-- good speech with these data bits, or else an idle frame with ones for them; TAF is 0, and DTXd is 1
abbrev pub up_words : Option (List ℕ) → ℕ → UpWords
up_words None field = record { kind = kinds.Idle; class = classes.Unusable; taf = false; dtxd = true; align = field; d = replicate 260 1 }
up_words (Some d) field = record { kind = kinds.Speech; class = classes.Good; taf = false; dtxd = true; align = field; d = d }

-- what is sent up in the newest of the periods in which these frames were found: the speech of the last frame found in
-- it, or an idle frame, with its field; before the first period an idle frame with field 0
unfoldable pub asked : ℕ → List (List FoundFrame) → UpWords
asked want [] = up_words None 0
asked want (fs ∷ heard) = up_words (speech_in (last_of fs)) (field_after want fs (answered want heard))

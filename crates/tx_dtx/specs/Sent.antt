-- What is sent of a stretch of frames from the home state (this project's profile, modelled on GSM 06.31 and GSM
-- 06.12). A stretch has the newest frame first.
use Rattle.std.specs.Prelude.{ℕ, ◌+◌, suc, true, false, Bool, if◌then◌else◌, nat_le, Option, Some, None, option_map, List, [], ◌∷◌, ◌++◌, map, take, reverse}
use Rattle.trau_params.specs.Fields.{Fields}
use Rattle.tx_dtx.specs.Stretch.{Measures, Coded, is_active, Sent}
use Rattle.tx_dtx.specs.SilenceDescriptor.{sid_of}

-- the inactive frame of a pause, counted from 1, at which its first SID is made; the ones before it may be a hangover
abbrev pub described_from : ℕ
described_from = 5

-- a pause has a hangover if it begins this many frames, or more, after the last SID was made
abbrev pub hangover_after : ℕ
hangover_after = 24

-- the number of inactive frames in a row up to the newest one
abbrev pub pause_of : List Coded → ℕ
pause_of [] = 0
pause_of (f ∷ fs) = if is_active f then 0 else suc (pause_of fs)

-- a SID is made at this inactive frame of a pause and at each later one, from the newest four frames
abbrev pub is_sid_place : List Coded → Bool
is_sid_place fs = nat_le described_from (pause_of fs)

-- the measures of the newest four frames
abbrev pub newest_four : List Coded → List Measures
newest_four fs = map (λ f. f.measures) (take 4 fs)

-- a frame at which a SID was made: the number of frames since, and the measures that the SID was made from
pub record SidPlace : Type 0 where
  pub since : ℕ
  pub four : List Measures

-- the same, one frame later
abbrev pub one_later : SidPlace → SidPlace
one_later place = record { since = place.since + 1; four = place.four }

-- the latest frame at which a SID was made
abbrev pub latest_place : List Coded → Option SidPlace
latest_place [] = None
latest_place (f ∷ fs) =
    if is_sid_place (f ∷ fs) then Some (record { since = 0; four = newest_four (f ∷ fs) })
    else option_map one_later (latest_place fs)

-- the frames before the pause that ends with the newest
abbrev pub before_pause : List Coded → List Coded
before_pause [] = []
before_pause (f ∷ fs) = if is_active f then f ∷ fs else before_pause fs

-- the SID that a pause begins with: the last one, unless the pause has a hangover
abbrev pub still_used : Option SidPlace → Option SidPlace
still_used None = None
still_used (Some place) = if nat_le hangover_after (place.since + 1) then None else Some place

abbrev pub sid_used : List Coded → Option SidPlace
sid_used before = still_used (latest_place before)

abbrev pub itself : Fields → Sent
itself fields = record { fields = fields; sp = true }

abbrev pub silence : List Measures → Sent
silence four = record { fields = sid_of four; sp = false }

-- what is sent of an inactive frame that is too early in its pause for a new SID: the last SID, or the frame itself
abbrev pub sent_early : Coded → Option SidPlace → Sent
sent_early f None = itself f.fields
sent_early f (Some place) = silence place.four

-- what is sent of a frame after those of the past
unfoldable pub sent_of : Coded → List Coded → Sent
sent_of f past =
    if is_active f then itself f.fields
    else if is_sid_place (f ∷ past) then silence (newest_four (f ∷ past))
    else sent_early f (sid_used (before_pause past))

-- all that is sent, the oldest first
unfoldable pub all_sent : List Coded → List Sent
all_sent [] = []
all_sent (f ∷ past) = all_sent past ++ sent_of f past ∷ []

-- what is sent of a stretch of frames, the oldest first
abbrev pub sent : List Coded → List Sent
sent frames = all_sent (reverse frames)

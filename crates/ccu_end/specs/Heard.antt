-- The frames that a base station finds in each period of a downlink (this project's profile). A period has 40 octets. A
-- history has the newest period first; the frames of one period are in order. The bits of a history are those of an
-- uplink's search.
use Rattle.std.specs.Prelude.{◌≡◌, ℕ, ◌+◌, ◌*◌, ◌≤◌, ◌<◌, List, [], ◌∷◌, ◌++◌, length, All, Option, option_to_list}
pub use Rattle.frame_sync.specs.Periods.{ArePeriods}
unfoldable pub use Rattle.frame_sync.specs.Periods.{line_bits}
unfoldable pub use Rattle.frame_sync.specs.Stands.{last_bits}
use Rattle.trau_frame.specs.UpFrame.{UpWords}
use Rattle.ccu_end.specs.declared.finds.Heard.{Heard}
use Rattle.ccu_end.specs.Found.{FoundFrame, Found}
use Rattle.ccu_end.specs.Window.{low_after}
use Rattle.ccu_end.specs.Asked.{waiting, answered, asked}

-- all frames of the periods, the oldest first
unfoldable pub all_of : List (List FoundFrame) → List FoundFrame
all_of [] = []
all_of (fs ∷ heard) = all_of heard ++ fs

-- bit 315 of the frame is one of bits 320 k to 320 k + 319
abbrev pub EndsIn : ℕ → FoundFrame → Type 0
EndsIn k f = (320 * k ≤ f.place + 315) × (f.place + 315 < 320 * k + 320)

-- each frame is listed in the period that has its bit 315
abbrev pub EachEnds : List (List FoundFrame) → Type 0
EachEnds [] = Unit {0}
EachEnds (fs ∷ heard) = All (EndsIn (length heard)) fs × EachEnds heard

-- `heard` are the frames found in each of the periods: all of them are those found in all bits so far, and each ends in
-- its period
pub record AreHeard (past : List (List ℕ)) (heard : List (List FoundFrame)) : Type 0 where
  pub count : length heard ≡ length past
  pub all : Found (line_bits past) (all_of heard)
  pub each : EachEnds heard

-- the frames of one period, as a list
abbrev pub frames_of : Heard → List FoundFrame
frames_of h = option_to_list h.first ++ option_to_list h.second

-- ---- what is kept

pub record CcuMemory : Type 0 where
  -- the number of periods so far, and the bits of the last one
  pub periods : ℕ
  pub last : List ℕ
  -- the place from which on the next frame is looked for
  pub low : ℕ
  -- the wanted place modulo 320, how many frames were found since the request that waits, and what is sent up
  pub want : ℕ
  pub waiting : Option ℕ
  pub answer : UpWords

-- this is the memory after these periods, in which these frames were found
pub record Stands (past : List (List ℕ)) (heard : List (List FoundFrame)) (memory : CcuMemory) : Type 0 where
  pub whole : ArePeriods past
  pub found : AreHeard past heard
  pub periods : memory.periods ≡ length past
  pub last : memory.last ≡ last_bits past
  pub low : memory.low ≡ low_after 0 (all_of heard)
  pub waiting : memory.waiting ≡ waiting [] (answered memory.want heard)
  pub answer : memory.answer ≡ asked memory.want heard

-- Lines in memory that don't fail before they are full (this project's profile).
use Rattle.std.specs.Prelude.{◌≡◌, ℕ, zero, suc, ◌+◌, ◌*◌, ◌%◌, ◌<◌, ◌≤◌, ◌==◌, if◌then◌else◌, Some, None, List, [], length, replicate, slice_get}
use Rattle.trau_io.specs.declared.line.Side.{Side}
use Rattle.trau_io.specs.declared.line.Side.TheVariants.{Up, Pcm, Down, Out}
use Rattle.trau_io.specs.declared.line_table.TheConstants.{LINE_INDICES}
use Rattle.trau_io.specs.Lines.{LineState}
use Rattle.trau_io.specs.Memory.{MemoryLine, states_of}

-- the whole room of a line in a drill of `periods` periods, by the number of its side
abbrev pub room_by : ℕ → ℕ → ℕ
room_by periods zero = 1
room_by periods (suc zero) = 1
room_by periods (suc (suc zero)) = 40 * periods
room_by periods (suc (suc (suc k))) = 160 * periods

-- a line of this room: none of its operations is set to fail, and none has failed unless the line is full
pub record IsAmple (room_at_first : ℕ) (l : MemoryLine) : Type 0 where
  pub never : l.fails ≡ []
  pub whole : length l.written + l.room ≡ room_at_first
  pub full : 0 < l.faults → l.room ≡ 0

-- the lines of a drill of `calls` calls and `periods` periods
pub record DrillMemory : Type 0 where
  pub lines : List MemoryLine
  pub calls : ℕ
  pub periods : ℕ

-- each line of the drill's calls has its room
pub record AreAmple (d : DrillMemory) : Type 0 where
  pub long : length d.lines ≡ LINE_INDICES
  pub each : (i : ℕ) (l : MemoryLine) → 4 ≤ i → i < 4 * (d.calls + 1) → slice_get d.lines i ≡ Some l → IsAmple (room_by d.periods (i % 4)) l

-- The lines of number 0, which no call has, show the numbers of calls and periods. An operation changes no line but its
-- own; so these numbers stay, even for code that knows nothing else of the lines.
abbrev pub number_told : ℕ → LineState
number_told n = record { to_come = Some (replicate n 0); written = None; faults = 0 }

abbrev pub line_of_none : DrillMemory → Side → LineState
line_of_none d Up = number_told d.calls
line_of_none d Pcm = number_told d.periods
line_of_none d Down = number_told 0
line_of_none d Out = number_told 0

-- what is known of each line
abbrev pub known_lines : DrillMemory → ℕ → Side → LineState
known_lines d c s = if c == 0 then line_of_none d s else states_of d.lines c s

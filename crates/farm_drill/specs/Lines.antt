-- The lines of a drill, as lines in memory (this project's profile).
use Rattle.std.specs.Prelude.{◌≡◌, ℕ, ◌*◌, ◌<◌, nat_le, ◌&&◌, if◌then◌else◌, List, [], length, replicate, Some, slice_get}
use Rattle.std.specs.List.{range_with_len, flat_map}
use Rattle.call_number.specs.declared.TheConstants.{NUMBERS}
use Rattle.trau_io.specs.declared.line.Side.{Side}
use Rattle.trau_io.specs.declared.line.Side.TheVariants.{Up, Pcm, Down, Out}
use Rattle.trau_io.specs.declared.line_table.TheConstants.{LINE_INDICES}
use Rattle.trau_io.specs.Indices.{index_of_line}
use Rattle.trau_io.specs.Memory.{MemoryLine, new_line}
use Rattle.farm_drill.specs.Draws.{draws, is_loud, first_loud_draw}
use Rattle.farm_drill.specs.Uplink.{up_octets}

-- the 160 octets of a period from the exchange: drawn if it is loud, otherwise the idle octet 0xD5
unfoldable pub pcm_octets : ℕ → ℕ → ℕ → List ℕ
pcm_octets seed call period = if is_loud period then draws seed call (first_loud_draw period) 160 else replicate 160 213

-- the incoming lines of a call: the octets of its periods, one after the other
unfoldable pub up_line : ℕ → ℕ → ℕ → List ℕ
up_line seed call periods = flat_map (up_octets seed call) (range_with_len 0 periods)

unfoldable pub pcm_line : ℕ → ℕ → ℕ → List ℕ
pcm_line seed call periods = flat_map (pcm_octets seed call) (range_with_len 0 periods)

-- the four lines of a call. No operation on them is short or set to fail. The outgoing lines have room for its periods,
-- 40 and 160 octets each. The incoming lines aren't written, but have room for one octet, so that one statement holds
-- of all four lines: a line with room left has never failed
abbrev pub line_of_call : ℕ → ℕ → ℕ → Side → MemoryLine
line_of_call seed call periods Up = new_line (up_line seed call periods) [] [] 1
line_of_call seed call periods Pcm = new_line (pcm_line seed call periods) [] [] 1
line_of_call seed call periods Down = new_line [] [] [] (40 * periods)
line_of_call seed call periods Out = new_line [] [] [] (160 * periods)

-- a line of a drill of `calls` calls, which have the numbers from 1 on; the lines of other numbers are empty
abbrev pub drilled_line : ℕ → ℕ → ℕ → ℕ → Side → MemoryLine
drilled_line seed calls periods call side =
    if nat_le 1 call && nat_le call calls then line_of_call seed call periods side
    else new_line [] [] [] 0

-- these are all lines of a drill
pub record AreDrilled (seed calls periods : ℕ) (lines : List MemoryLine) : Type 0 where
  pub count : length lines ≡ LINE_INDICES
  pub each : (call : ℕ) (side : Side) → call < NUMBERS → slice_get lines (index_of_line call side) ≡ Some (drilled_line seed calls periods call side)

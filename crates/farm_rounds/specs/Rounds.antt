-- The octets of a round (this project's profile).
use Rattle.std.specs.Prelude.{◌≡◌, ◌*◌, ◌<◌, true}
use Rattle.round_lines.specs.Memory.{LinesMemory, nothing_taken, whole_in}
use Rattle.round_lines.specs.Portions.{PortionMemory}
use Rattle.call_pair.specs.Memory.{IoMemory}

-- what its call's job takes of a portion: its octets, of which the whole periods are given
abbrev pub io_of : PortionMemory → IoMemory
io_of s = record {
  call = s.lines.call;
  up = s.up;
  pcm = s.pcm;
  out = s.out;
  down = s.down;
  given = whole_in s.lines;
  done = 0;
}

-- nothing was read of its incoming lines yet
abbrev pub IsUnread : LinesMemory → Type 0
IsUnread p = (p.up ≡ nothing_taken) × (p.pcm ≡ nothing_taken)

-- an incoming line that failed gave fewer octets than the round takes of it: 40 a period of Up, 160 of Pcm
abbrev pub EndsShort : LinesMemory → Type 0
EndsShort p = (p.up.failed ≡ true → p.up.count < 40 * p.periods)
    × (p.pcm.failed ≡ true → p.pcm.count < 160 * p.periods)

-- Which calls of a round go on.
use Rattle.std.specs.Prelude.{◌==◌, Bool}
use Rattle.round_lines.specs.Memory.{whole_in}
use Rattle.round_lines.specs.Portions.{PortionMemory}

-- a call goes on if its lines gave all periods of the round
abbrev pub goes_on_in : PortionMemory → Bool
goes_on_in s = whole_in s.lines == s.lines.periods

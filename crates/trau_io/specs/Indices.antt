-- The index of each line in a list of all lines: four lines a call, in the order of the sides (this project's profile).
use Rattle.std.specs.Prelude.{ℕ, ◌+◌, ◌*◌}
use Rattle.trau_io.specs.declared.line.Side.{Side}
use Rattle.trau_io.specs.declared.line.Side.TheVariants.{Up, Pcm, Down, Out}

abbrev pub number_of_side : Side → ℕ
number_of_side Up = 0
number_of_side Pcm = 1
number_of_side Down = 2
number_of_side Out = 3

abbrev pub index_of_line : ℕ → Side → ℕ
index_of_line call side = 4 * call + number_of_side side

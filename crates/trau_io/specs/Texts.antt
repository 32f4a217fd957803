-- How texts name a line (this project's profile).
use Rattle.std.specs.Prelude.{ℕ, List, ◌++◌, codes, decimal}
use Rattle.trau_io.specs.declared.line.Side.{Side}
use Rattle.trau_io.specs.declared.line.Side.TheVariants.{Up, Pcm, Down, Out}

abbrev pub side_word : Side → List ℕ
side_word Up = codes "up"
side_word Pcm = codes "pcm"
side_word Down = codes "down"
side_word Out = codes "out"

-- the message for a line that failed
abbrev pub failed_text : ℕ → Side → List ℕ
failed_text call side = codes "line " ++ (decimal call ++ (codes " " ++ (side_word side ++ codes " failed\n")))

-- Muting of block maxima (this project's profile, within the requirements of GSM 06.11 and GSM 06.12).
use Rattle.std.specs.Prelude.{ℕ, ◌-◌, ◌*◌, List, map}

-- by how much the code of a block maximum (xmaxc) falls with each step
abbrev pub muting_step : ℕ
muting_step = 4

-- the codes of the block maxima, each lowered by this for each step, but not below 0
unfoldable pub lowered_maxima : ℕ → List ℕ → List ℕ
lowered_maxima steps xmaxc = map (λ level. level - muting_step * steps) xmaxc

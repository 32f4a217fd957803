-- Frames for lost speech (GSM 06.11; the numbers are this project's profile).
-- The draws of a frame are numbered from 0: `draw k m` is number k of them, below m.
use Rattle.std.specs.Prelude.{ℕ, ◌-◌, if◌then◌else◌, nat_le, nat_lt, List, map}
use Rattle.std.specs.List.{range_with_len}
use Rattle.trau_params.specs.Fields.{Fields}
use Rattle.trau_params.specs.Silence.{silent_fields}
use Rattle.rx_muting.specs.Draws.{grid_values}
use Rattle.rx_muting.specs.Muting.{lowered_maxima}

-- lost periods are counted from 1 after a good frame: from this one on the frame is silence
abbrev pub silent_from_lost : ℕ
silent_from_lost = 17

-- a grid for each block, one draw each
unfoldable pub random_grids : (ℕ → ℕ → ℕ) → List ℕ
random_grids draw = map (λ j. draw j grid_values) (range_with_len 0 4)

-- the last good frame, its block maxima lowered by these steps, with random grids
unfoldable pub muted_of : Fields → ℕ → (ℕ → ℕ → ℕ) → Fields
muted_of last steps draw = record {
  larc = last.larc;
  nc = last.nc;
  bc = last.bc;
  mc = random_grids draw;
  xmaxc = lowered_maxima steps last.xmaxc;
  xmc = last.xmc;
}

-- the frame for the n-th lost period after the last good frame: itself, then muted, then silence
unfoldable pub lost_of : Fields → ℕ → (ℕ → ℕ → ℕ) → Fields
lost_of last n draw =
    if nat_le n 1 then last
    else if nat_lt n silent_from_lost then muted_of last (n - 1) draw
    else silent_fields

-- the number of its draws
abbrev pub lost_draws : ℕ → ℕ
lost_draws n = if nat_le n 1 then 0 else if nat_lt n silent_from_lost then 4 else 0

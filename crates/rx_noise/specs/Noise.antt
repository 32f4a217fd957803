-- Frames of comfort noise (GSM 06.12; the numbers are this project's profile).
-- The draws of a frame are numbered from 0: `draw k m` is number k of them, below m.
use Rattle.std.specs.Prelude.{ℕ, ◌+◌, ◌*◌, if◌then◌else◌, nat_lt, List, [], ◌∷◌, map, replicate}
use Rattle.std.specs.List.{range_with_len}
use Rattle.trau_params.specs.Fields.{Fields}
use Rattle.trau_params.specs.Silence.{silent_fields}
use Rattle.rx_muting.specs.Draws.{grid_values}
use Rattle.rx_muting.specs.Muting.{lowered_maxima}

-- the periods of a fall are counted from 1: from this one on the frame is silence
abbrev pub silent_from_fall : ℕ
silent_from_fall = 17

-- the lags of the four blocks
abbrev pub noise_lags : List ℕ
noise_lags = 40 ∷ 120 ∷ 40 ∷ 120 ∷ []

-- the least pulse, and how many values a pulse can have from there on
abbrev pub least_pulse : ℕ
least_pulse = 1

abbrev pub pulse_values : ℕ
pulse_values = 6

-- how many draws a block takes: one for its grid, then one for each of its thirteen pulses
abbrev pub block_draws : ℕ
block_draws = 14

-- the grids: the first draw of each block
unfoldable pub noise_grids : (ℕ → ℕ → ℕ) → List ℕ
noise_grids draw = map (λ j. draw (block_draws * j) grid_values) (range_with_len 0 4)

-- the thirteen pulses of a block, by the draws from number `first` on
unfoldable pub noise_pulses : (ℕ → ℕ → ℕ) → ℕ → List ℕ
noise_pulses draw first = map (λ i. least_pulse + draw (first + i) pulse_values) (range_with_len 0 13)

-- the pulses of the four blocks: the other draws of each block
unfoldable pub all_noise_pulses : (ℕ → ℕ → ℕ) → List (List ℕ)
all_noise_pulses draw = map (λ j. noise_pulses draw (block_draws * j + 1)) (range_with_len 0 4)

-- the noise of a silence descriptor, its level lowered by these steps: the ratios and the block maxima are the
-- descriptor's, and the codes of the gains are 0, which stands for a gain of 0.1
unfoldable pub noise_at : Fields → ℕ → (ℕ → ℕ → ℕ) → Fields
noise_at sid steps draw = record {
  larc = sid.larc;
  nc = noise_lags;
  bc = replicate 4 0;
  mc = noise_grids draw;
  xmaxc = lowered_maxima steps sid.xmaxc;
  xmc = all_noise_pulses draw;
}

-- the noise frame of a silence descriptor whose level has fallen for `fall` periods
unfoldable pub noise_of : Fields → ℕ → (ℕ → ℕ → ℕ) → Fields
noise_of sid fall draw = if nat_lt fall silent_from_fall then noise_at sid fall draw else silent_fields

-- the number of its draws
abbrev pub noise_draws : ℕ → ℕ
noise_draws fall = if nat_lt fall silent_from_fall then 4 * block_draws else 0

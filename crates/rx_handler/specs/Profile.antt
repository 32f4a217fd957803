-- The numbers of this project's profile that the receive side counts to, beside those of rx_subst and rx_noise.
use Rattle.std.specs.Prelude.{ℕ, if◌then◌else◌, ◌==◌}
use Rattle.rx_subst.specs.Lost.{silent_from_lost}
use Rattle.rx_noise.specs.Noise.{silent_from_fall}

-- the number of missed descriptors with which the level of noise begins to fall
abbrev pub fall_from_missed : ℕ
fall_from_missed = 2

-- where the count of periods of a receive side as plain numbers stops, by its tag: that of lost periods in speech (tag
-- 1), else that of the periods of a fall
abbrev pub most_periods : ℕ → ℕ
most_periods tag = if tag == 1 then silent_from_lost else silent_from_fall

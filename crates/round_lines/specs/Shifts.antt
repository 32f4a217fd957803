-- What lines gave in a round, together with earlier whole periods (this project's profile).
use Rattle.std.specs.Prelude.{ℕ, ◌+◌, ◌*◌}
use Rattle.switchboard.specs.Ends.{Given}

-- k whole periods before the round's octets
abbrev pub with_periods : ℕ → Given → Given
with_periods k g = record {
  up = 40 * k + g.up;
  pcm = 160 * k + g.pcm;
  up_failed = g.up_failed;
  pcm_failed = g.pcm_failed;
}

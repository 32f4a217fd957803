-- The noise frame of a fall.
use Rattle.std.proofs.Common.{◌≡◌, ℕ, ◌*◌, ◌<◌, true, arith}
use Rattle.std.specs.Prelude.{nat_lt}
use Rattle.trau_params.specs.Fields.{Fields}
use Rattle.rx_noise.specs.Noise.{silent_from_fall, block_draws, noise_of, noise_at, noise_draws}

pub noise_of-falling : (sid : Fields) (fall : ℕ) (draw : ℕ → ℕ → ℕ) → fall < silent_from_fall → noise_of sid fall draw ≡ noise_at sid fall draw
unfolding noise_of
noise_of-falling sid fall draw h = let e : nat_lt fall silent_from_fall ≡ true = grind arith in rw e

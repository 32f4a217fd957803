use Rattle.std.proofs.Common.{ap, refl, ◌+◌, ◌-◌, min}
use Rattle.rx_noise.specs.Mix.{approach_steps, mix_of}
use Rattle.rx_handler.specs.Effective.{approach_start_at}
use Rattle.rx_handler.proofs.Moving.{approach_start_at-since, approach_start_at-noise, approach_start_at-itself}
use Rattle.rx_handler.proofs.laws.noise_moves.Goals as goal

pub returns-clause-base : goal.returns-clause-base
returns-clause-base c = λ heard k g q n. ap (λ old. mix_of old q (min (k - g + 1) approach_steps)) (approach_start_at-since heard k g q n.0)

pub returns-clause-from_noise : goal.returns-clause-from_noise
returns-clause-from_noise c = approach_start_at-noise

pub returns-clause-from_itself : goal.returns-clause-from_itself
returns-clause-from_itself c = approach_start_at-itself

pub returns-clause-first : goal.returns-clause-first
unfolding approach_start_at
returns-clause-first c = λ heard q. refl

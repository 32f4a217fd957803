use Rattle.rx_noise.proofs.Mixing.{mix_of-end}
use Rattle.rx_noise.proofs.laws.mix_at_the_end.Goals as goal

pub returns : goal.returns
returns c = mix_of-end

use Rattle.rx_noise.proofs.Mixing.{mix_of-one}
use Rattle.rx_noise.proofs.laws.mix_of_one.Goals as goal

pub returns : goal.returns
returns c = mix_of-one

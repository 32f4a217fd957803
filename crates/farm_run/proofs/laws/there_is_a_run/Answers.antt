use Rattle.farm_run.proofs.Lines.Being.{there_is}
use Rattle.farm_run.proofs.laws.there_is_a_run.Goals as goal

pub returns : goal.returns
returns g = λ orders periods fails before now are told reads. there_is orders periods fails before now are
    (λ c s n i. let octets = told c s n i in let k = reads c s octets.0 i octets.1 in (octets.0, k.0, octets.1, k.1))

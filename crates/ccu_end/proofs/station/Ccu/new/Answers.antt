use Rattle.std.proofs.Common.{◌<◌, refl, arith, rules}
use Rattle.std.proofs.lemmas.List.Elements.{All-replicate}
use Rattle.ccu_end.specs.Heard.{last_bits}
use Rattle.ccu_end.proofs.Periods.{stands-first}
use Rattle.ccu_end.proofs.station.Ccu.new.Goals as goal

pub returns-clause-history : goal.returns-clause-history
unfolding last_bits
returns-clause-history c = stands-first _ refl refl refl refl (search rules)

pub invariant_of-result-2 : goal.invariant_of-result-2
invariant_of-result-2 c = (omega arith, All-replicate (λ bit. bit < 2) 320 0 (omega arith))

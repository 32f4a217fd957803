use Rattle.std.proofs.Common.{refl}
use Rattle.farm_orders.proofs.text.read_text.Goals as goal

pub returns-in-Failed-clause-whole : goal.returns-in-Failed-clause-whole
returns-in-Failed-clause-whole g c = tt

pub returns-in-Failed-clause-calm : goal.returns-in-Failed-clause-calm
returns-in-Failed-clause-calm g c = λ other. absurd (other refl)

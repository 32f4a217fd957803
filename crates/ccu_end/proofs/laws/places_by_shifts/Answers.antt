use Rattle.ccu_end.proofs.Shifts.{made-places}
use Rattle.ccu_end.proofs.laws.places_by_shifts.Goals as goal

pub returns : goal.returns
returns c = made-places

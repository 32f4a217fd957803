use Rattle.trau_frame.proofs.Apart.{apart}
use Rattle.trau_frame.proofs.laws.matching_places_stand_apart.Goals as goal

pub returns : goal.returns
returns c = apart

use Rattle.trau_frame.proofs.Places.{role_of-within, role_of-place_of, place_of-role_of}
use Rattle.trau_frame.proofs.laws.roles_and_places.Goals as goal

pub returns-clause-within : goal.returns-clause-within
returns-clause-within c = role_of-within

pub returns-clause-found : goal.returns-clause-found
returns-clause-found c = role_of-place_of

pub returns-clause-only : goal.returns-clause-only
returns-clause-only c = place_of-role_of

use Rattle.trau_submux.proofs.Lanewise.{first_halves_at, last_halves_at}
use Rattle.trau_submux.proofs.lanes.exchange_halves.Goals as goal

pub returns-clause-first : goal.returns-clause-first
returns-clause-first c = first_halves_at c.args.x c.args.y c.fits-x.0 c.fits-y.0

pub returns-clause-last : goal.returns-clause-last
returns-clause-last c = last_halves_at c.args.x c.args.y c.fits-x.0 c.fits-y.0

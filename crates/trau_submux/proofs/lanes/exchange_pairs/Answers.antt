use Rattle.trau_submux.proofs.Lanewise.{even_pairs_at, odd_pairs_at}
use Rattle.trau_submux.proofs.lanes.exchange_pairs.Goals as goal

pub returns-clause-even : goal.returns-clause-even
returns-clause-even c = even_pairs_at c.args.x c.args.y c.fits-x.0 c.fits-y.0

pub returns-clause-odd : goal.returns-clause-odd
returns-clause-odd c = odd_pairs_at c.args.x c.args.y c.fits-x.0 c.fits-y.0

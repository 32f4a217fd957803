use Rattle.std.proofs.Common.{◌≡◌, length, rules}
use Rattle.trau_submux.proofs.Vectors.{columns}
use Rattle.trau_submux.proofs.lanes.turned.Goals as goal

pub returns : goal.returns
returns c =
    let long : length c.exchange_halves.result.0 ≡ 16 = search rules in
    columns c.args.x c.args.y c.exchange_halves.result.0 c.exchange_halves.result.1 c.exchange_pairs.result.0 c.exchange_pairs.result.1 long
    c.exchange_halves.ensures.first c.exchange_halves.ensures.last c.exchange_pairs.ensures.even c.exchange_pairs.ensures.odd

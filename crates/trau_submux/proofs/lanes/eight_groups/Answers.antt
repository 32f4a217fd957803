use Rattle.std.proofs.Common.{◌≡◌, length, rules}
use Rattle.trau_submux.proofs.Vectors.{groups}
use Rattle.trau_submux.proofs.lanes.eight_groups.Goals as goal

pub returns-clause-octets : goal.returns-clause-octets
returns-clause-octets c =
    let long : length c.turned.result.0 ≡ 16 = search rules in
    groups c.args.first.now c.args.second.now c.args.third.now c.args.fourth.now c.eight_at.result c.eight_at-2.result c.eight_at-3.result c.eight_at-4.result
    c.turned.result.0 c.turned.result.1 c.args.at
    c.requires.first c.requires.third c.eight_at.ensures c.eight_at-2.ensures c.eight_at-3.ensures c.eight_at-4.ensures long c.turned.ensures

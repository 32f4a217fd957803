use Rattle.std.proofs.Common.{arith}
use Rattle.pool_run.proofs.Rooms.{given_row}
use Rattle.pool_run.proofs.room.give_row.Goals as goal

pub returns : goal.returns
returns g c =
    given_row g.W.Work.finish c.args.thieves.now c.args.members.now c.args.me c.index-members-me.result c.args.row c.requires.unused c.requires.there
    c.requires.none c.requires.row.0
    (omega (arith, c.requires.row.1, c.args.row.ok.0))

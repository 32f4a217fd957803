use Rattle.std.proofs.Common.{refl, arith}
use Rattle.trau_submux.proofs.Reading.{fails}
use Rattle.trau_submux.proofs.join.read_channels.Goals as goal

pub returns-in-Err-clause-four : goal.returns-in-Err-clause-four
returns-in-Err-clause-four g c = (
  c.loop-j.j,
  refl,
  refl,
  fails (g.T.Trunk.lines c.args.trunk.now) (g.T.Trunk.lines c.loop-j.trunk)
      (g.T.Trunk.lines c.read_channel.new.trunk) c.args.call c.loop-j.subs c.loop-j.counts c.loop-j.j
      (omega arith) c.loop-j.invariant c.in-Err.ensures.others c.in-Err.ensures.err,
)

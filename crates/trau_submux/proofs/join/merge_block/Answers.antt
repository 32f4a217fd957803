use Rattle.std.proofs.Common.{inr}
use Rattle.trau_submux.proofs.Taking.{ended, failed, whole}
use Rattle.trau_submux.proofs.join.merge_block.Goals as goal

pub returns-in-Ok-clause-block : goal.returns-in-Ok-clause-block
returns-in-Ok-clause-block g c =
    whole (g.T.Trunk.lines c.args.trunk.now) (g.T.Trunk.lines c.read_channels.new.trunk)
    (g.T.Trunk.lines c.write_all.new.trunk) c.args.call c.read_channels.new.subs c.read_channels.new.counts c.merge4.new.slot c.fewest-used.result
    c.in_default.ensures.four c.in_default.ensures.others c.in-Ok.ensures.others c.fewest-used.ensures.least c.fewest-used.ensures.one c.merge4.array_long
    c.merge4.ensures.octets c.merge4.ensures.channels
    c.if-used-eq40.true c.in-Ok.ensures.this

pub returns-in-Ok-2-clause-block : goal.returns-in-Ok-2-clause-block
returns-in-Ok-2-clause-block g c =
    ended (g.T.Trunk.lines c.args.trunk.now) (g.T.Trunk.lines c.read_channels.new.trunk)
    (g.T.Trunk.lines c.write_all.new.trunk) c.args.call c.read_channels.new.subs c.read_channels.new.counts c.merge4.new.slot c.fewest-used.result
    c.in_default.ensures.four c.in_default.ensures.others c.in-Ok-2.ensures.others c.fewest-used.ensures.least c.fewest-used.ensures.one c.merge4.array_long
    c.merge4.ensures.octets c.merge4.ensures.channels
    c.if-used-eq40.false c.in-Ok-2.ensures.this

pub returns-in-Err-write_all-clause-block : goal.returns-in-Err-write_all-clause-block
returns-in-Err-write_all-clause-block g c = inr
    (failed (g.T.Trunk.lines c.args.trunk.now) (g.T.Trunk.lines c.read_channels.new.trunk)
    (g.T.Trunk.lines c.write_all.new.trunk) c.args.call c.read_channels.new.subs c.read_channels.new.counts c.merge4.new.slot c.fewest-used.result
    c.in_default.ensures.four c.in_default.ensures.others c.in-Err-write_all.ensures.others c.fewest-used.ensures.least c.fewest-used.ensures.one
    c.merge4.array_long c.merge4.ensures.octets c.merge4.ensures.channels
    c.in-Err-write_all.ensures.this)

use Rattle.std.proofs.Common.{arith, rules}
use Rattle.rx_noise.proofs.Drawn.{blocks_none, blocks_next, blocks_all}
use Rattle.rx_noise.proofs.excitation.excitation.Goals as goal

pub loop-j-init : goal.loop-j-init
loop-j-init c = blocks_none _ _ _ (search rules) (search rules)

pub loop-j-preserved : goal.loop-j-preserved
loop-j-preserved c =
    blocks_next _ c.loop-j.mc c.loop-j.xmc c.loop-j.draw.r c.loop-j.j c.grid.result c.grid.new.draw.r c.pulses.result c.pulses.new.draw.r
    (omega arith) c.loop-j.invariant c.grid.ensures.value c.grid.ensures.source c.pulses.ensures.values c.pulses.ensures.source

pub returns : goal.returns
returns c =
    let all = blocks_all _ c.loop-j.mc c.loop-j.xmc c.loop-j.draw.r c.loop-j.j (omega arith) c.loop-j.invariant in
    record { grids = all.grids; pulses = all.pulses; source = all.source; grids_fit = all.grids_fit; pulses_fit = all.pulses_fit }

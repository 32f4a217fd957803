use Rattle.std.proofs.Common.{arith}
use Rattle.std.proofs.lemmas.Grind.{common_steps}
use Rattle.rtp_buffer.proofs.octet.take.Goals as goal

pub loop-n-preserved : goal.loop-n-preserved
loop-n-preserved g c = record {
  sized = grind (arith, common_steps, c.loop-n.invariant.sized);
  row = λ k. grind (arith, common_steps, c.loop-n.invariant.row k);
  heard_is = λ k h. grind (arith, common_steps, c.loop-n.invariant.row k, c.loop-n.invariant.heard_is k, c.loop-n.invariant.sized);
}

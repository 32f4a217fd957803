use Rattle.std.proofs.Common.{◌+◌, arith}
use Rattle.std.proofs.lemmas.Grind.{common_steps}
use Rattle.rtp_buffer.proofs.Rows.{put_more}
use Rattle.rtp_buffer.proofs.octet.put.Goals as goal

pub loop-n-preserved : goal.loop-n-preserved
loop-n-preserved g c = record {
  sized = grind (arith, common_steps, c.loop-n.invariant.sized);
  octets_are = λ k.
      put_more c.loop-n.row c.args.row.now c.args.octets.now c.args.part c.loop-n.n k c.or_held.result (omega (arith, c.loop-n.invariant.sized))
      (c.loop-n.invariant.octets_are k) (c.loop-n.invariant.octets_are (c.args.part + c.loop-n.n)) (grind (arith, common_steps, c.or_held.ensures, c.loop-n.invariant.sized));
}

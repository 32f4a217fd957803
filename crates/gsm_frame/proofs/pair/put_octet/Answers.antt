use Rattle.std.proofs.Common.{arith, rules}
use Rattle.trau_params.proofs.Fronts.{put_none, put_next}
use Rattle.gsm_frame.proofs.pair.put_octet.Goals as goal

pub loop-t-init : goal.loop-t-init
loop-t-init c = record { long = search rules; bits = put_none c.args.bits.now c.args.at c.args.octet }

pub loop-t-preserved : goal.loop-t-preserved
loop-t-preserved c = record {
  long = search rules;
  bits = put_next c.loop-t.bits c.args.bits.now c.args.at c.loop-t.t c.args.octet (omega arith) c.loop-t.invariant.bits;
}

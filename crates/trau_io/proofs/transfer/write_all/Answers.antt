use Rattle.trau_io.proofs.Runs.{sent_more, others_more, rest_of}
use Rattle.trau_io.proofs.transfer.write_all.Goals as goal

pub loop-sent-preserved : goal.loop-sent-preserved
loop-sent-preserved g c = record {
  this = sent_more _ _ _ _ _ _ _ c.loop-sent.invariant.this c.in_ok-sent.ensures.this (rest_of c.loop-sent.sent c.args.bytes.now);
  others = others_more _ _ _ _ _ c.loop-sent.invariant.others c.in_ok-sent.ensures.others;
}

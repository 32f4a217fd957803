use Rattle.trau_io.proofs.Runs.{told_more, rest_of}
use Rattle.trau_io.proofs.transfer.tell.Goals as goal

pub loop-sent-preserved : goal.loop-sent-preserved
loop-sent-preserved g c = told_more _ _ _ _ _ _ _ c.loop-sent.invariant c.in_ok-sent.ensures (rest_of c.loop-sent.sent c.args.text.now)

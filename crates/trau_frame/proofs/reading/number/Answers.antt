use Rattle.std.proofs.Common.{arith}
use Rattle.std.proofs.lemmas.Grind.{common_steps}
use Rattle.trau_frame.specs.Frame.{number_in}
use Rattle.trau_frame.proofs.reading.number.Goals as goal

pub loop-k-preserved : goal.loop-k-preserved
unfolding number_in
loop-k-preserved c = grind (arith, common_steps)

use Rattle.std.proofs.Common.{ap}
use Rattle.fr_pre.specs.History.{samples_of_frames}
use Rattle.fr_pre.specs.Memory.{home_memory}
use Rattle.fr_pre.proofs.Run.{appended}
use Rattle.fr_pre.proofs.laws.one_list.Goals as goal

pub returns : goal.returns
unfolding samples_of_frames
returns c = λ frame past. ap (λ p. p.0) (appended home_memory (samples_of_frames past) frame)

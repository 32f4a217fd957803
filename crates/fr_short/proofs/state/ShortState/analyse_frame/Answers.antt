use Rattle.std.proofs.Common.{rules}
use Rattle.fr_short.specs.Step.{analysed_frame}
use Rattle.fr_short.proofs.state.ShortState.analyse_frame.Goals as goal

pub returns-clause-residual : goal.returns-clause-residual
unfolding analysed_frame
returns-clause-residual c = search rules

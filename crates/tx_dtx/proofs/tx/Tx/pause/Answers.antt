use Rattle.std.proofs.Common.{rules}
use Rattle.tx_dtx.specs.Step.{pause_step}
use Rattle.tx_dtx.proofs.tx.Tx.pause.Goals as goal

pub returns-then-run-eq-DESCRIBED_FROM : goal.returns-then-run-eq-DESCRIBED_FROM
unfolding pause_step
returns-then-run-eq-DESCRIBED_FROM c = search rules

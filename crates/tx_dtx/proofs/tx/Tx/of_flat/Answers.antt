use Rattle.std.proofs.Common.{rules}
use Rattle.tx_dtx.proofs.tx.Tx.of_flat.Goals as goal

pub returns : goal.returns
returns c = search rules

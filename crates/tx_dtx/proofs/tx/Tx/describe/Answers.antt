use Rattle.std.proofs.Common.{rules}
use Rattle.tx_dtx.proofs.tx.Tx.describe.Goals as goal

pub returns : goal.returns
returns c = search rules

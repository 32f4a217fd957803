use Rattle.std.proofs.Common.{rules}
use Rattle.rx_handler.proofs.flat.FlatRx.state.Goals as goal

pub returns-in_default : goal.returns-in_default
returns-in_default c = search rules

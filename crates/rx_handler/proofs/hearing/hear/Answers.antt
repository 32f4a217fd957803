use Rattle.std.proofs.Common.{rules}
use Rattle.rx_handler.proofs.hearing.hear.Goals as goal

pub returns-in-Idle : goal.returns-in-Idle
returns-in-Idle c = search rules

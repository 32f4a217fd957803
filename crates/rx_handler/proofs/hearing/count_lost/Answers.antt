use Rattle.std.proofs.Common.{rules}
use Rattle.rx_handler.proofs.hearing.count_lost.Goals as goal

pub returns-in-Speech : goal.returns-in-Speech
returns-in-Speech c = search rules

pub returns-in-Noise : goal.returns-in-Noise
returns-in-Noise c = search rules

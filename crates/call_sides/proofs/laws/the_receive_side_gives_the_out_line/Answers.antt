use Rattle.std.proofs.Common.{sym}
use Rattle.call_sides.proofs.Received.{out-same, line-same, effective-same}
use Rattle.call_sides.proofs.laws.the_receive_side_gives_the_out_line.Goals as goal

pub returns-clause-octets : goal.returns-clause-octets
returns-clause-octets c = out-same

pub returns-clause-line : goal.returns-clause-line
returns-clause-line c = line-same

pub returns-clause-effective : goal.returns-clause-effective
returns-clause-effective c = λ call ts. sym (effective-same call ts)

use Rattle.std.proofs.Common.{rules}
use Rattle.farm_report.proofs.lines.SpanLineTold.put.Goals as goal

pub returns : goal.returns
returns c = search rules

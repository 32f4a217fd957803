use Rattle.std.proofs.Common.{rules}
use Rattle.farm_report.proofs.lines.put_refusal.Goals as goal

pub returns-in-Bridged : goal.returns-in-Bridged
returns-in-Bridged c = search rules

use Rattle.std.proofs.Common.{◌≡◌, take}
use Rattle.farm_report.specs.Lines.{last_end}
use Rattle.farm_report.proofs.lines.last_end.Given as goal

abbrev pub invariant-loop-call : goal.invariant-loop-call
invariant-loop-call l = l.last ≡ last_end (take l.call-index l.calls)

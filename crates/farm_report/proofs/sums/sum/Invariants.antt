use Rattle.std.proofs.Common.{◌≡◌, take}
use Rattle.farm_report.specs.Sums.{sum_of}
use Rattle.farm_report.proofs.sums.sum.Given as goal

abbrev pub invariant-loop-octet : goal.invariant-loop-octet
invariant-loop-octet l = l.sum ≡ sum_of (take l.octet-index l.octets)

use Rattle.std.proofs.Common.{◌≡◌, ◌++◌, string_bytes, take}
use Rattle.std.specs.List.{flat_map}
use Rattle.farm_report.proofs.text.put_all.Given as goal

abbrev pub invariant-loop-one : goal.invariant-loop-one
invariant-loop-one g l = string_bytes l.text ≡ string_bytes l.initial.text ++ flat_map g.T.Told.lines (take l.one-index l.told)

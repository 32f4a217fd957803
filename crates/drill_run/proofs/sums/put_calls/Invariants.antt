use Rattle.std.proofs.Common.{◌≡◌, ◌++◌, [], string_bytes, take}
use Rattle.std.specs.Prelude.{unwrap_or}
use Rattle.std.specs.List.{flat_map}
use Rattle.trau_io.specs.declared.line.Side.TheVariants.{Down, Out}
use Rattle.farm_report.specs.Sums.{sum_line}
use Rattle.drill_run.specs.Rooms.{known_lines}
use Rattle.drill_run.proofs.sums.put_calls.Given as goal

abbrev pub invariant-loop-line : goal.invariant-loop-line
invariant-loop-line l = string_bytes l.text ≡ string_bytes l.initial.text ++ flat_map (λ line.
    sum_line line.end.call (unwrap_or (known_lines l.trunk line.end.call Out).written []) (unwrap_or (known_lines l.trunk line.end.call Down).written []))
    (take l.line-index l.calls)

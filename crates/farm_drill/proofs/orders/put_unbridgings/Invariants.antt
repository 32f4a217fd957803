use Rattle.std.proofs.Common.{◌≡◌, ◌++◌, map, string_bytes}
use Rattle.std.specs.Prelude.{filter}
use Rattle.std.specs.List.{range_with_len}
use Rattle.farm_drill.specs.Orders.{unbridging, is_bridged, text_of}
use Rattle.farm_drill.proofs.orders.put_unbridgings.Given as goal

abbrev pub invariant-loop-earlier : goal.invariant-loop-earlier
invariant-loop-earlier l =
    string_bytes l.text ≡ string_bytes l.initial.text ++ text_of (map (unbridging l.periods) (filter is_bridged (range_with_len 1 l.earlier)))

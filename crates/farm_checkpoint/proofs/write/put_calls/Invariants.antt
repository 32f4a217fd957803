use Rattle.std.proofs.Common.{◌≡◌, ◌++◌, string_bytes, take}
use Rattle.std.specs.List.{flat_map, All}
use Rattle.farm_checkpoint.specs.Marks.{HasSums}
use Rattle.farm_checkpoint.specs.Text.{call_text}
use Rattle.farm_checkpoint.proofs.write.put_calls.Given as goal

abbrev pub invariant-loop-call : goal.invariant-loop-call
invariant-loop-call l = record {
  text : string_bytes l.text ≡ string_bytes l.initial.text ++ flat_map call_text (take l.call-index l.calls);
  sums : All HasSums (take l.call-index l.calls);
}

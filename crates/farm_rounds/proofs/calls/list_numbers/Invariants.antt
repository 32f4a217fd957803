use Rattle.std.proofs.Common.{◌≡◌, map, take, vec_len, vec_capacity}
use Rattle.farm_rounds.specs.declared.open.OpenCall.{OpenCall}
use Rattle.farm_rounds.specs.Opens.{opens_in}
use Rattle.farm_rounds.proofs.calls.list_numbers.Given as goal

abbrev pub invariant-loop-call : goal.invariant-loop-call
invariant-loop-call l = record {
  listed : l.live.items ≡ map (λ (o : OpenCall). o.lines.call) (opens_in (take l.call-index l.calls));
  number : vec_len l.live ≡ l.call-index;
  capacity : vec_capacity l.live ≡ vec_capacity l.fn.live;
}

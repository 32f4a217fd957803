use Rattle.std.proofs.Common.{◌*◌}
use Rattle.trau_submux.proofs.Parts.{Taken}
use Rattle.trau_submux.proofs.four.split4.Given as goal

abbrev pub invariant-loop-part : goal.invariant-loop-part
invariant-loop-part l = record {
  first : Taken 0 l.slot l.first (8 * l.part);
  second : Taken 1 l.slot l.second (8 * l.part);
  third : Taken 2 l.slot l.third (8 * l.part);
  fourth : Taken 3 l.slot l.fourth (8 * l.part);
}

use Rattle.std.proofs.Common.{◌*◌}
use Rattle.trau_submux.proofs.Parts.{Joined}
use Rattle.trau_submux.proofs.four.merge_channels.Given as goal

abbrev pub invariant-loop-part : goal.invariant-loop-part
invariant-loop-part l = Joined l.first l.second l.third l.fourth l.slot (32 * l.part)

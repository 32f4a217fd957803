use Rattle.std.proofs.Common.{◌+◌, ◌*◌, ◌<◌, length}
use Rattle.trau_bits.specs.Bits.{AreBits}
use Rattle.down_framer.specs.Memory.{IsWithinPeriod}
use Rattle.call_tests.proofs.down_framer_tests.period.Given as goal

abbrev pub invariant-loop-start : goal.invariant-loop-start
invariant-loop-start l = IsWithinPeriod l.framer × (158 * l.frames + length l.framer.held < 320) × AreBits l.frame

abbrev pub decreases-loop-start : goal.decreases-loop-start
decreases-loop-start l = length l.framer.held

use Rattle.std.proofs.Common.{◌≡◌, map, take, drop, ◌++◌}
use Rattle.fr_decoder.specs.Truncation.{truncated}
use Rattle.fr_decoder.proofs.truncation.truncate.Given as goal

abbrev pub invariant-loop-sample : goal.invariant-loop-sample
invariant-loop-sample l = l.x ≡ map truncated (take l.sample-index l.fn.x) ++ drop l.sample-index l.fn.x

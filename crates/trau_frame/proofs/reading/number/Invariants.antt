use Rattle.std.proofs.Common.{◌≡◌, ◌<◌, ◌^◌}
use Rattle.trau_frame.specs.Frame.{number_in}
use Rattle.trau_frame.proofs.reading.number.Given as goal

abbrev pub invariant-loop-k : goal.invariant-loop-k
invariant-loop-k l = (l.value ≡ number_in l.bits l.first l.k) × (l.value < 2 ^ l.k)

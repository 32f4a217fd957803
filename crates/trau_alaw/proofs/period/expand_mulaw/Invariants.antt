use Rattle.trau_alaw.specs.Companding.{middle}
use Rattle.trau_alaw.specs.Mulaw.{mulaw}
use Rattle.trau_alaw.proofs.Mapping.{Run}
use Rattle.trau_alaw.proofs.period.expand_mulaw.Given as goal

abbrev pub invariant-loop-k : goal.invariant-loop-k
invariant-loop-k l = Run (λ octet. middle (mulaw octet)) l.octets l.x l.k

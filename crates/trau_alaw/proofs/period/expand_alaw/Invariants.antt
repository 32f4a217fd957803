use Rattle.trau_alaw.specs.Companding.{middle}
use Rattle.trau_alaw.specs.Alaw.{alaw}
use Rattle.trau_alaw.proofs.Mapping.{Run}
use Rattle.trau_alaw.proofs.period.expand_alaw.Given as goal

abbrev pub invariant-loop-k : goal.invariant-loop-k
invariant-loop-k l = Run (λ octet. middle (alaw octet)) l.octets l.x l.k

use Rattle.trau_alaw.specs.Companding.{octet_of}
use Rattle.trau_alaw.specs.Mulaw.{mulaw}
use Rattle.trau_alaw.proofs.Mapping.{Run}
use Rattle.trau_alaw.proofs.period.compress_mulaw.Given as goal

abbrev pub invariant-loop-k : goal.invariant-loop-k
invariant-loop-k l = Run (octet_of mulaw) l.x l.octets l.k

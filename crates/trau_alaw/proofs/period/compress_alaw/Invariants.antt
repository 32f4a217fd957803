use Rattle.trau_alaw.specs.Companding.{octet_of}
use Rattle.trau_alaw.specs.Alaw.{alaw}
use Rattle.trau_alaw.proofs.Mapping.{Run}
use Rattle.trau_alaw.proofs.period.compress_alaw.Given as goal

abbrev pub invariant-loop-k : goal.invariant-loop-k
invariant-loop-k l = Run (octet_of alaw) l.x l.octets l.k

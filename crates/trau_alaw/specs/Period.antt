-- The octets and the samples of a period, or of any part of a line.
use Rattle.std.specs.Prelude.{ℕ, ℤ, List, map}
use Rattle.trau_alaw.specs.declared.Law.{Law}
use Rattle.trau_alaw.specs.Companding.{middle, octet_of}
use Rattle.trau_alaw.specs.Laws.{companding}

-- the samples that octets of a line with this law stand for
unfoldable pub expanded : Law → List ℕ → List ℤ
expanded law octets = map (λ octet. middle (companding law octet)) octets

-- the octets that samples are sent as on a line with this law
unfoldable pub compressed : Law → List ℤ → List ℕ
compressed law samples = map (octet_of (companding law)) samples

-- The two laws by their names.
use Rattle.std.specs.Prelude.{ℕ}
use Rattle.trau_alaw.specs.declared.Law.{Law}
use Rattle.trau_alaw.specs.declared.Law.TheVariants.{A, Mu}
use Rattle.trau_alaw.specs.Companding.{Companding}
use Rattle.trau_alaw.specs.Alaw.{alaw}
use Rattle.trau_alaw.specs.Mulaw.{mulaw}

-- the intervals of a law
abbrev pub companding : Law → Companding
companding A = alaw
companding Mu = mulaw

-- the idle octet of a line, which stands for silence (this project's profile): 0xD5 and 0xFF
abbrev pub idle_of : Law → ℕ
idle_of A = 213
idle_of Mu = 255

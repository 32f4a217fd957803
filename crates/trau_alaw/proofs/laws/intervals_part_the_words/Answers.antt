use Rattle.trau_alaw.specs.declared.Law.{Law}
use Rattle.trau_alaw.specs.declared.Law.TheVariants.{A, Mu}
use Rattle.trau_alaw.specs.Companding.{PartsWords}
use Rattle.trau_alaw.specs.Laws.{companding}
use Rattle.trau_alaw.proofs.Octets as a
use Rattle.trau_alaw.proofs.MuOctets as mu
use Rattle.trau_alaw.proofs.laws.intervals_part_the_words.Goals as goal

pub returns-clause-alaw : goal.returns-clause-alaw
returns-clause-alaw c = a.parts

each : (law : Law) → PartsWords (companding law)
each A = a.parts
each Mu = mu.parts

pub returns-clause-each : goal.returns-clause-each
returns-clause-each c = each

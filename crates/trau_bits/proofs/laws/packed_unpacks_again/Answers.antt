use Rattle.trau_bits.proofs.Octets.{bits_of-octets_of}
use Rattle.trau_bits.proofs.laws.packed_unpacks_again.Goals as goal

pub returns : goal.returns
returns c = bits_of-octets_of

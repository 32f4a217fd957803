use Rattle.trau_bits.proofs.BitList.{bits_of-below}
use Rattle.trau_bits.proofs.Octets.{octets_of-bits_of}
use Rattle.trau_bits.proofs.laws.unpacked_packs_again.Goals as goal

pub returns : goal.returns
returns c = λ bytes small. octets_of-bits_of bytes small (bits_of-below bytes)

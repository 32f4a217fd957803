use Rattle.std.proofs.Common.{◌∙◌, ap}
use Rattle.trau_bits.specs.Bits.{octets_of}
use Rattle.farm_tools.proofs.downlink.pack_frame.Goals as goal

pub returns-clause-octets : goal.returns-clause-octets
returns-clause-octets c = c.pack.ensures.octets ∙ ap octets_of c.write_down.ensures.bits

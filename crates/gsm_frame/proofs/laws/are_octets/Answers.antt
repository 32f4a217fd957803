use Rattle.std.proofs.Common.{arith}
use Rattle.gsm_frame.proofs.laws.are_octets.Goals as goal

pub returns : goal.returns
returns c k = omega (arith, c.fits-octets k)

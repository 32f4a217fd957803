use Rattle.std.proofs.Common.{refl}
use Rattle.trau_c.proofs.decoder.trau_fr_decode_octets.Goals as goal

pub returns-in-None-clause-refused_decoder : goal.returns-in-None-clause-refused_decoder
returns-in-None-clause-refused_decoder c = λ _. refl

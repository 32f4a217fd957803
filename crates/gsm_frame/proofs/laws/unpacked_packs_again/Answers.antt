use Rattle.std.proofs.Common.{arith, rules}
use Rattle.std.proofs.lemmas.List.{get_or_default}
use Rattle.trau_params.specs.Fields.{fields_of}
use Rattle.gsm_frame.proofs.laws.unpacked_packs_again.Goals as goal

pub returns-clause-same : goal.returns-clause-same
returns-clause-same c =
    c.one_packing.ensures (fields_of c.in_ok-unpack.field-0) c.pack-again.result c.args.octets.now (search rules) c.told-octets
    (λ k d below. omega (arith, get_or_default c.pack-again.result k d 0 below, c.are_octets.ensures k))
    (λ k d below. omega (arith, get_or_default c.args.octets.now k d 0 below, c.fits-octets k))
    c.pack-again.ensures.carried c.in_ok-unpack.ensures.carried

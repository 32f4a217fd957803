use Rattle.std.proofs.Common.{option_map}
use Rattle.trau_params.specs.Fields.{fields_of}
use Rattle.fr_sides.proofs.Heard.{fits-kind}
use Rattle.fr_sides.proofs.uplink.up_frame.Goals as goal

pub returns-clause-fits : goal.returns-clause-fits
returns-clause-fits c = rw (c.up_kind.ensures, c.class.ensures) (fits-kind c.args.kind (option_map fields_of c.args.given))

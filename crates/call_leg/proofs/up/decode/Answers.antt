use Rattle.trau_params.specs.Fields.{fields_of}
use Rattle.call_leg.proofs.Downlink.Stepping.{decode-step}
use Rattle.call_leg.proofs.up.decode.Goals as goal

pub returns : goal.returns
returns c = decode-step c.args.law c.args.decoder.now c.decode.new.self (fields_of c.args.p.now) c.decode.new.x c.compress_all.new.octets c.decode.ensures.step
    c.compress_all.ensures

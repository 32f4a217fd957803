use Rattle.std.proofs.Common.{ap}
use Rattle.rtp_call.specs.declared.call.Call.{Call}
use Rattle.rtp_call.proofs.Carried.{moved, stood}
use Rattle.rtp_call.proofs.call.turn_pair.Goals as goal

pub returns-clause-replay : goal.returns-clause-replay
returns-clause-replay c number other_number past other_past level other_level dtx other_dtx starts other_starts stands other_stands can other_can =
    let both = c.bridged.ensures.replay number other_number past other_past level other_level dtx other_dtx starts other_starts
    (stood number c.args.one.now.law c.input-to_one.result.law past c.args.one.now.coders c.input-to_one.new.self.coders c.input-to_one.ensures.law
    (ap (λ (x : Call). x.coders) c.input-to_one.ensures.others) stands)
    (stood other_number c.args.other.now.law c.input-to_other.result.law other_past c.args.other.now.coders c.input-to_other.new.self.coders
    c.input-to_other.ensures.law (ap (λ (x : Call). x.coders) c.input-to_other.ensures.others) other_stands)
    can other_can in (
      moved number c.args.one.now.law c.input-to_one.result.law _ c.bridged.new.one c.send.new.self.coders _ _ c.input-to_one.ensures.law
          (ap (λ (x : Call). x.coders) c.send.ensures.others) both.0,
      moved other_number c.args.other.now.law c.input-to_other.result.law _ c.bridged.new.other c.send-2.new.self.coders _ _
          c.input-to_other.ensures.law (ap (λ (x : Call). x.coders) c.send-2.ensures.others) both.1,
    )

use Rattle.std.proofs.Common.{ap, FitsSigned, w16}
use Rattle.std.proofs.lemmas.Int.{to_z-of_z}
use Rattle.rtp_call.specs.declared.call.Call.{Call}
use Rattle.rtp_call.proofs.Carried.{moved, stood}
use Rattle.rtp_call.proofs.call.Call.turn.Goals as goal

pub returns-clause-replay : goal.returns-clause-replay
returns-clause-replay c number past stands =
    let g : FitsSigned w16 c.args.level = c.ranges.level in
    let replay = simp to_z-of_z at c.period-spoken.ensures.replay in
    moved number c.args.self.now.law c.input-input.result.law _ c.period-spoken.new.self c.send.new.self.coders _ _ c.input-input.ensures.law
    (ap (λ (x : Call). x.coders) c.send.ensures.others)
    (replay number past (stood number c.args.self.now.law c.input-input.result.law past c.args.self.now.coders c.input-input.new.self.coders
    c.input-input.ensures.law (ap (λ (x : Call). x.coders) c.input-input.ensures.others) stands))

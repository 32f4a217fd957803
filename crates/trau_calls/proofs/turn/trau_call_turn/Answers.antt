use Rattle.std.proofs.Common.{rules, FitsSigned, w16}
use Rattle.std.proofs.lemmas.Int.{to_z-of_z}
use Rattle.trau_calls.specs.Turn.{TurnReplays}
use Rattle.trau_calls.proofs.Steps.{from_to}
use Rattle.trau_calls.proofs.turn.trau_call_turn.Goals as goal

pub returns-clause-replay : goal.returns-clause-replay
returns-clause-replay c =
    let fits : FitsSigned w16 c.args.level = c.ranges.level in
    let replay = simp to_z-of_z at c.turn-is_sent.ensures.replay in
    from_to c.args.handle.now.call c.put.new.self.call c.deref_mut.result.now c.turn-is_sent.new.self
    (λ old new. TurnReplays old new c.args.level c.args.dtx c.turn-is_sent.new.recorded) (search rules) (search rules) replay

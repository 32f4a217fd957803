use Rattle.std.proofs.Common.{rules}
use Rattle.trau_calls.specs.Begun.{FromTo}
use Rattle.trau_calls.specs.Turn.{PairReplays}
use Rattle.trau_calls.proofs.Steps.{from_to}
use Rattle.trau_calls.proofs.turn.trau_call_turn_pair.Goals as goal

pub returns-clause-replay : goal.returns-clause-replay
returns-clause-replay c =
    let one = c.deref_mut.result.now in let one-after = c.turn_pair.new.one in let records = c.turn_pair.new.records in
    from_to c.args.one.now.call c.put.new.self.call one one-after
    (λ old new. FromTo c.args.other.now.call c.put-2.new.self.call (λ other_old other_new. PairReplays old new records.one other_old other_new records.other))
    (search rules) (search rules)
    (from_to c.args.other.now.call c.put-2.new.self.call c.deref_mut-2.result.now c.turn_pair.new.other
    (λ other_old other_new. PairReplays one one-after records.one other_old other_new records.other) (search rules) (search rules)
    c.turn_pair.ensures.replay)

use Rattle.std.specs.Prelude.{◌∷◌}
use Rattle.call_records.specs.Turns.{paired}
use Rattle.call_records.proofs.Recorded.{runs-write}
use Rattle.call_records.proofs.turns.turn_pair.Goals as goal

pub returns-clause-recorded : goal.returns-clause-recorded
returns-clause-recorded c =
    c.turns_are_recorded.ensures.pair c.args.one.now c.turn_pair.new.one c.args.other.now c.turn_pair.new.other c.turn_pair.new.records.one
    c.turn_pair.new.records.other c.turn_pair.ensures.laws.0 c.turn_pair.ensures.laws.1 c.turn_pair.ensures.replay

pub returns-clause-runs : goal.returns-clause-runs
returns-clause-runs c number other_number past other_past level other_level dtx other_dtx was other_was =
    let one = c.turn_pair.new.records.one in let other = c.turn_pair.new.records.other in
    let both = c.turns_are_recorded.ensures.pair c.args.one.now c.turn_pair.new.one c.args.other.now c.turn_pair.new.other one other
    c.turn_pair.ensures.laws.0 c.turn_pair.ensures.laws.1 c.turn_pair.ensures.replay
    number other_number past other_past level other_level dtx other_dtx was other_was in
    let law = c.runs_write_what_was_recorded.ensures.runs in (
      runs-write law number (paired one level dtx other_number other other_past ∷ past) c.args.one.now.law c.turn_pair.new.one c.turn_pair.ensures.laws.0
          both.0,
      runs-write law other_number (paired other other_level other_dtx number one past ∷ other_past) c.args.other.now.law c.turn_pair.new.other
          c.turn_pair.ensures.laws.1 both.1,
    )

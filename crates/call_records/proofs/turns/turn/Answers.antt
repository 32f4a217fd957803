use Rattle.std.proofs.Common.{◌∷◌, FitsSigned, w16}
use Rattle.std.proofs.lemmas.Int.{to_z-of_z}
use Rattle.call_records.specs.Turns.{alone}
use Rattle.call_records.proofs.Recorded.{runs-write}
use Rattle.call_records.proofs.turns.turn.Goals as goal

pub returns-clause-recorded : goal.returns-clause-recorded
returns-clause-recorded c number past was =
    let g : FitsSigned w16 c.args.level = c.ranges.level in
    let replay = simp to_z-of_z at c.turn.ensures.replay in
    c.turns_are_recorded.ensures.turn c.args.call.now c.turn.new.self c.args.level c.args.dtx c.turn.new.recorded c.turn.ensures.law replay number past was

pub returns-clause-runs : goal.returns-clause-runs
returns-clause-runs c number past was =
    let g : FitsSigned w16 c.args.level = c.ranges.level in
    let replay = simp to_z-of_z at c.turn.ensures.replay in
    runs-write c.runs_write_what_was_recorded.ensures.runs number (alone c.turn.new.recorded c.args.level c.args.dtx ∷ past) c.args.call.now.law
    c.turn.new.self c.turn.ensures.law
    (c.turns_are_recorded.ensures.turn c.args.call.now c.turn.new.self c.args.level c.args.dtx c.turn.new.recorded c.turn.ensures.law replay number past was)

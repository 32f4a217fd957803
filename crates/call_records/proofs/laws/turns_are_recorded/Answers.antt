use Rattle.std.specs.Prelude.{not}
use Rattle.call_records.specs.Turns.{alone, is_paired, periods_of}
use Rattle.call_records.proofs.Periods.{can-be-bridged}
use Rattle.call_records.proofs.Recorded.{begun, more, more-paired, unchanged}
use Rattle.call_records.proofs.laws.turns_are_recorded.Goals as goal

pub returns-clause-home : goal.returns-clause-home
returns-clause-home c = begun

pub returns-clause-turn : goal.returns-clause-turn
returns-clause-turn c = λ old new level dtx recorded law replay number past was.
    more number (alone recorded level dtx) past old new law was (replay number (periods_of past) was.stands)

pub returns-clause-pair : goal.returns-clause-pair
returns-clause-pair c = λ old new other_old other_new recorded other_recorded law other_law replay number other_number past other_past level other_level dtx
    other_dtx was other_was.
    let both = replay number other_number (periods_of past) (periods_of other_past) level other_level dtx other_dtx
    (not (is_paired past)) (not (is_paired other_past)) was.stands other_was.stands (can-be-bridged past) (can-be-bridged other_past) in (
      more-paired number past level dtx recorded other_number other_recorded other_past old new law was both.0,
      more-paired other_number other_past other_level other_dtx other_recorded number recorded past other_old other_new other_law other_was both.1,
    )

pub returns-clause-others : goal.returns-clause-others
returns-clause-others c = unchanged

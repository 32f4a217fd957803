use Rattle.call_sides.proofs.Recorded.{recorded-same, fields-none}
use Rattle.call_sides.proofs.Written.{records-same}
use Rattle.call_sides.proofs.laws.whole_frames_are_heard.Goals as goal

pub returns-clause-heard : goal.returns-clause-heard
returns-clause-heard c = recorded-same

pub returns-clause-fields : goal.returns-clause-fields
returns-clause-fields c = fields-none

pub returns-clause-records : goal.returns-clause-records
returns-clause-records c = records-same

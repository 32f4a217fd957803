use Rattle.trau_num.specs.Num.{sub_of}
use Rattle.trau_num.proofs.Clamped.{sub_word}
use Rattle.trau_lanes.proofs.LaneSums.{clamped_fits, clamped_are, subtracted_lane}
use Rattle.trau_lanes.proofs.minus_lanes.Goals as goal

pub overflow_cast-result-3 : goal.overflow_cast-result-3
overflow_cast-result-3 c = clamped_fits _ sub_of subtracted_lane sub_word c.args.a c.args.b c.requires.a c.requires.b

pub returns : goal.returns
returns c = clamped_are _ sub_of subtracted_lane sub_word c.args.a c.args.b c.requires.a c.requires.b

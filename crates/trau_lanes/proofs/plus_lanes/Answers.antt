use Rattle.trau_num.specs.Num.{add_of}
use Rattle.trau_num.proofs.Clamped.{add_word}
use Rattle.trau_lanes.proofs.LaneSums.{clamped_fits, clamped_are, added_lane}
use Rattle.trau_lanes.proofs.plus_lanes.Goals as goal

pub overflow_cast-result-3 : goal.overflow_cast-result-3
overflow_cast-result-3 c = clamped_fits _ add_of added_lane add_word c.args.a c.args.b c.requires.a c.requires.b

pub returns : goal.returns
returns c = clamped_are _ add_of added_lane add_word c.args.a c.args.b c.requires.a c.requires.b

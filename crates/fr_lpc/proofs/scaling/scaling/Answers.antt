use Rattle.std.proofs.Common.{◌+◌, ◌^◌, rules, FitsSigned, w16}
use Rattle.std.proofs.lemmas.Int.{to_z-of_z}
use Rattle.trau_num.specs.Num.{entry}
use Rattle.fr_lpc.proofs.Scaled.{sample_room}
use Rattle.fr_lpc.proofs.scaling.scaling.Goals as goal

pub returns-clause-room : goal.returns-clause-room
returns-clause-room c =
    let p : FitsSigned w16 c.greatest_magnitude.result = search rules in
    let room = simp to_z-of_z at c.scaling_of_peak.ensures.room in
    λ i h.
    sample_room (entry c.args.s.now i) c.greatest_magnitude.result (2 ^ (11 + c.scaling_of_peak.result)) (c.greatest_magnitude.ensures.words i h)
    (c.greatest_magnitude.ensures.greatest i h) c.greatest_magnitude.ensures.not_negative room

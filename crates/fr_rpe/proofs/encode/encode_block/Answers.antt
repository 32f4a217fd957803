use Rattle.std.proofs.Common.{rules, FitsSigned, w16, get_or}
use Rattle.std.proofs.lemmas.Int.{to_z-of_z}
use Rattle.fr_rpe.specs.Scale.{scale_of}
use Rattle.fr_rpe.proofs.Parts.{is_mc, are_pulses, is_xmax, is_xmaxc, is_xmc, is_ep, room_for}
use Rattle.fr_rpe.proofs.encode.encode_block.Goals as goal

pub codes-xmc-requires-clause-room : goal.codes-xmc-requires-clause-room
codes-xmc-requires-clause-room c =
    let f : FitsSigned w16 c.maximum-xmax.result = search rules in
    let magnitude = simp to_z-of_z at c.unsigned_abs.ensures.value in
    let room = rw magnitude at c.coded-xmaxc.ensures.room in
    λ k d l. room_for (scale_of c.coded-xmaxc.result) (get_or c.pulses_on_grid-pulses.result k d) c.maximum-xmax.result
    (c.maximum-xmax.ensures.greatest k d l) room

pub returns-clause-mc : goal.returns-clause-mc
returns-clause-mc c = is_mc c.args.e.now _ _ c.weighted-x.ensures c.strongest_grid-mc.ensures.value

pub returns-clause-xmax : goal.returns-clause-xmax
returns-clause-xmax c =
    let f : FitsSigned w16 c.maximum-xmax.result = search rules in
    let mc = is_mc c.args.e.now _ _ c.weighted-x.ensures c.strongest_grid-mc.ensures.value in
    let pulses = are_pulses c.args.e.now _ _ _ c.weighted-x.ensures mc c.pulses_on_grid-pulses.ensures in
    simp to_z-of_z (is_xmax c.args.e.now _ _ pulses c.maximum-xmax.ensures.value)

pub returns-clause-xmaxc : goal.returns-clause-xmaxc
returns-clause-xmaxc c =
    let f : FitsSigned w16 c.maximum-xmax.result = search rules in
    let magnitude = simp to_z-of_z at c.unsigned_abs.ensures.value in
    let mc = is_mc c.args.e.now _ _ c.weighted-x.ensures c.strongest_grid-mc.ensures.value in
    let pulses = are_pulses c.args.e.now _ _ _ c.weighted-x.ensures mc c.pulses_on_grid-pulses.ensures in
    let xmax = is_xmax c.args.e.now _ _ pulses c.maximum-xmax.ensures.value in
    is_xmaxc c.args.e.now _ _ xmax (rw magnitude at c.coded-xmaxc.ensures.value)

pub returns-clause-xmc : goal.returns-clause-xmc
returns-clause-xmc c =
    let f : FitsSigned w16 c.maximum-xmax.result = search rules in
    let magnitude = simp to_z-of_z at c.unsigned_abs.ensures.value in
    let mc = is_mc c.args.e.now _ _ c.weighted-x.ensures c.strongest_grid-mc.ensures.value in
    let pulses = are_pulses c.args.e.now _ _ _ c.weighted-x.ensures mc c.pulses_on_grid-pulses.ensures in
    let xmax = is_xmax c.args.e.now _ _ pulses c.maximum-xmax.ensures.value in
    let xmaxc = is_xmaxc c.args.e.now _ _ xmax (rw magnitude at c.coded-xmaxc.ensures.value) in
    is_xmc c.args.e.now _ _ _ pulses xmaxc c.codes-xmc.ensures.value

pub returns-clause-ep : goal.returns-clause-ep
returns-clause-ep c =
    let f : FitsSigned w16 c.maximum-xmax.result = search rules in
    let magnitude = simp to_z-of_z at c.unsigned_abs.ensures.value in
    let mc = is_mc c.args.e.now _ _ c.weighted-x.ensures c.strongest_grid-mc.ensures.value in
    let pulses = are_pulses c.args.e.now _ _ _ c.weighted-x.ensures mc c.pulses_on_grid-pulses.ensures in
    let xmax = is_xmax c.args.e.now _ _ pulses c.maximum-xmax.ensures.value in
    let xmaxc = is_xmaxc c.args.e.now _ _ xmax (rw magnitude at c.coded-xmaxc.ensures.value) in
    let xmc = is_xmc c.args.e.now _ _ _ pulses xmaxc c.codes-xmc.ensures.value in
    is_ep _ _ _ _ _ _ _ mc xmaxc xmc c.decode_block-ep.ensures

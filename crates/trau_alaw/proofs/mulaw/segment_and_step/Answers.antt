use Rattle.std.proofs.Common.{◌+◌, arith}
use Rattle.trau_alaw.proofs.MuSegments.{found_from_power, power_within}
use Rattle.trau_alaw.proofs.mulaw.segment_and_step.Goals as goal

pub overflow_sub-segment : goal.overflow_sub-segment
overflow_sub-segment c =
    let e = c.min-raised.ensures in
    (power_within (c.min-raised.result + 132) c.ilog2-segment.result (omega arith)
    (omega arith) c.ilog2-segment.ensures.power_le c.ilog2-segment.ensures.next_power_gt).0

pub overflow_cast-result : goal.overflow_cast-result
overflow_cast-result c =
    let e = c.min-raised.ensures in
    let r = found_from_power c.args.magnitude (c.min-raised.result + 132) c.ilog2-segment.result c.from.result c.requires (omega arith)
    c.ilog2-segment.ensures.power_le c.ilog2-segment.ensures.next_power_gt c.from.ensures in
    let s = r.2.small in
    omega arith

pub returns-clause-below : goal.returns-clause-below
returns-clause-below c =
    let e = c.min-raised.ensures in
    let r = found_from_power c.args.magnitude (c.min-raised.result + 132) c.ilog2-segment.result c.from.result c.requires (omega arith)
    c.ilog2-segment.ensures.power_le c.ilog2-segment.ensures.next_power_gt c.from.ensures in
    r.2.small

pub returns-clause-at_least : goal.returns-clause-at_least
returns-clause-at_least c =
    let e = c.min-raised.ensures in
    let r = found_from_power c.args.magnitude (c.min-raised.result + 132) c.ilog2-segment.result c.from.result c.requires (omega arith)
    c.ilog2-segment.ensures.power_le c.ilog2-segment.ensures.next_power_gt c.from.ensures in
    r.2.at.at_least

pub returns-clause-within : goal.returns-clause-within
returns-clause-within c =
    let e = c.min-raised.ensures in
    let r = found_from_power c.args.magnitude (c.min-raised.result + 132) c.ilog2-segment.result c.from.result c.requires (omega arith)
    c.ilog2-segment.ensures.power_le c.ilog2-segment.ensures.next_power_gt c.from.ensures in
    r.2.at.within

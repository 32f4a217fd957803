use Rattle.std.proofs.Common.{rules}
use Rattle.fr_sides.proofs.Again.{uplink-kind, uplink-taf, uplink-frame, are-octets}
use Rattle.fr_sides.proofs.laws.written_uplink_is_read.Goals as goal

pub returns-clause-kind : goal.returns-clause-kind
returns-clause-kind c = λ begins below.
    let read = c.in_ok-read.read in
    uplink-kind c.args.frame.now c.write_uplink.result read.frame c.args.kind read.kind c.args.taf read.taf c.write_uplink.ensures.bits
    c.in_ok-read.ensures.read begins below

pub returns-clause-taf : goal.returns-clause-taf
returns-clause-taf c =
    let read = c.in_ok-read.read in
    uplink-taf c.args.frame.now c.write_uplink.result read.frame c.args.kind read.kind c.args.taf read.taf c.write_uplink.ensures.bits
    c.in_ok-read.ensures.read

pub returns-clause-frame : goal.returns-clause-frame
returns-clause-frame c = λ begins other.
    let read = c.in_ok-read.read in
    let first = are-octets read.frame (search rules) c.are_octets.ensures in
    let second = are-octets c.args.frame.now c.told-frame c.are_octets-2.ensures in
    uplink-frame c.args.frame.now c.write_uplink.result read.frame c.args.kind read.kind c.args.taf read.taf c.write_uplink.ensures.bits
    c.in_ok-read.ensures.read second first begins other

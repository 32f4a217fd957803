use Rattle.std.proofs.Common.{rules}
use Rattle.fr_sides.proofs.Again.{downlink-kind, downlink-frame, are-octets}
use Rattle.fr_sides.proofs.laws.written_downlink_is_read.Goals as goal

pub returns-clause-kind : goal.returns-clause-kind
returns-clause-kind c = λ begins below other.
    let read = c.in_ok-read.read in
    downlink-kind c.args.frame.now c.write_downlink.result read.frame c.args.kind read.kind c.write_downlink.ensures c.in_ok-read.ensures.read begins
    below other

pub returns-clause-frame : goal.returns-clause-frame
returns-clause-frame c = λ begins below.
    let read = c.in_ok-read.read in
    let first = are-octets read.frame (search rules) c.are_octets.ensures in
    let second = are-octets c.args.frame.now c.told-frame c.are_octets-2.ensures in
    downlink-frame c.args.frame.now c.write_downlink.result read.frame c.args.kind read.kind c.write_downlink.ensures c.in_ok-read.ensures.read second
    first begins below

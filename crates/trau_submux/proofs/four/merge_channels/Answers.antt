use Rattle.std.proofs.Common.{◌+◌, ◌*◌, arith, subst, sym}
use Rattle.trau_submux.proofs.Parts.{Joined, joined_more, nothing_joined}
use Rattle.trau_submux.proofs.four.merge_channels.Goals as goal

pub loop-part-init : goal.loop-part-init
loop-part-init c = nothing_joined c.args.first.now c.args.second.now c.args.third.now c.args.fourth.now c.args.slot.now c.told-slot

pub loop-part-preserved : goal.loop-part-preserved
loop-part-preserved c =
    let at = 8 * c.loop-part.part in
    let m = 32 * (c.loop-part.part + 1) in
    subst (λ slot. Joined c.args.first.now c.args.second.now c.args.third.now c.args.fourth.now slot m) (sym c.put_thirty_two.ensures)
    (joined_more c.args.first.now c.args.second.now c.args.third.now c.args.fourth.now c.loop-part.slot c.eight_groups-octets.result (4 * at) m at (omega arith)
    (omega arith) (omega arith) c.eight_groups-octets.ensures.long c.eight_groups-octets.ensures.octets
    (subst (Joined c.args.first.now c.args.second.now c.args.third.now c.args.fourth.now c.loop-part.slot) (omega arith) c.loop-part.invariant))

use Rattle.std.proofs.Common.{arith}
use Rattle.farm_live.specs.Live.{view_of}
use Rattle.farm_live.proofs.Turning.{own-few}
use Rattle.farm_live.proofs.live.post_at.Goals as goal

pub overflow_add-seat : goal.overflow_add-seat
overflow_add-seat g c = omega (arith, c.requires.seat.1.posted, c.requires.few, own-few c.args.caller (view_of c.args.seat.now).made)

use Rattle.std.proofs.Common.{◌≡◌, ◌≤◌, length, vec_len, vec_capacity}
use Rattle.pool_run.proofs.Rooms.{AreThieves}
use Rattle.pool_run.proofs.room.new_thieves.Given as goal

abbrev pub invariant-loop-member : goal.invariant-loop-member
invariant-loop-member g l = record {
  are : AreThieves l.members l.thieves.items;
  len : vec_len l.thieves ≡ l.member-index;
  capacity : length l.members ≤ vec_capacity l.thieves;
}

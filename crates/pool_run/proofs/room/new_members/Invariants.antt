use Rattle.std.proofs.Common.{◌≡◌, ◌≤◌, All, vec_len, vec_capacity}
use Rattle.pool_run.specs.Room.{IsNew}
use Rattle.pool_run.proofs.room.new_members.Given as goal

abbrev pub invariant-loop-me : goal.invariant-loop-me
invariant-loop-me g l = record {
  new : All (IsNew l.most) l.members.items;
  len : vec_len l.members ≡ l.me;
  capacity : l.fn.workers ≤ vec_capacity l.members;
}

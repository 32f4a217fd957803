use Rattle.std.proofs.Common.{◌≡◌, ◌≤◌, ℕ, length, vec_len, vec_capacity}
use Rattle.pool_run.specs.Room.{IsUnused, IsRow, RoomLeft}
use Rattle.pool_run.specs.Pool.{passes_of}
use Rattle.pool_run.proofs.room.row_of.Given as goal

abbrev pub invariant-loop-k : goal.invariant-loop-k
invariant-loop-k g l = record {
  unused : IsUnused g.W.Work.finish l.thieves l.members l.k;
  row : IsRow l.thieves l.row.items;
  len : vec_len l.row ≡ l.k;
  capacity : length l.fn.members ≤ vec_capacity l.row;
  rows : (i : ℕ) → passes_of l.members i ≡ passes_of l.fn.members i;
  room : (most : ℕ) → RoomLeft 0 most l.fn.members → RoomLeft 0 most l.members;
}

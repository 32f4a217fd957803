use Rattle.std.proofs.Common.{◌≡◌, ◌<◌, ◌≤◌, [], ℕ, length}
use Rattle.pool_run.specs.Room.{IsUnused, RoomLeft}
use Rattle.pool_run.specs.Pool.{passes_of}
use Rattle.pool_run.proofs.room.give_rows.Given as goal

abbrev pub invariant-loop-me : goal.invariant-loop-me
invariant-loop-me g l = record {
  unused : IsUnused g.W.Work.finish l.thieves l.members 0;
  mine : (i : ℕ) → i < l.me → length (passes_of l.members i) ≡ length l.thieves;
  others : (i : ℕ) → l.me ≤ i → passes_of l.members i ≡ [];
  room : (most : ℕ) → RoomLeft 0 most l.fn.members → RoomLeft 0 most l.members;
}

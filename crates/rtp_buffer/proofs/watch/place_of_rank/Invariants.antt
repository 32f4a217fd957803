use Rattle.std.proofs.Common.{◌≡◌, ◌+◌, drop}
use Rattle.rtp_buffer.specs.Watch.{place_of_rank}
use Rattle.rtp_buffer.proofs.watch.place_of_rank.Given as goal

abbrev pub invariant-loop-n : goal.invariant-loop-n
invariant-loop-n l = place_of_rank l.waits l.rank ≡ l.n + place_of_rank (drop l.n l.waits) l.left

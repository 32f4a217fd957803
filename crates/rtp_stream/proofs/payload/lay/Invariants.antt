use Rattle.std.proofs.Common.{◌≡◌, ℕ, ◌*◌, ◌≤◌, List, length}
use Rattle.rtp_buffer.specs.Store.{place}
use Rattle.rtp_buffer.specs.History.{Deed, Stands}
use Rattle.rtp_buffer.specs.Pace.{wait_of}
use Rattle.rtp_stream.specs.Payload.{octets_before, IsKeptBefore, with_periods, period_outcome, is_taken, pace_laid}
use Rattle.rtp_stream.proofs.Pieces.{Laying}
use Rattle.rtp_stream.proofs.Counted.{Counting}
use Rattle.rtp_stream.proofs.Past.{Told}
use Rattle.rtp_stream.proofs.payload.lay.Given as goal

abbrev pub invariant-loop-n : goal.invariant-loop-n
invariant-loop-n g l = record {
  at_is : l.at ≡ octets_before (l.n * g.row.N) l.part (length l.payload);
  shift : l.buffer.pace.shift ≡ l.initial.buffer.pace.shift;
  laid : Laying g.row.N l.first l.part l.n l.payload (λ (p : ℕ). wait_of l.initial.buffer.pace p l.tick)
      (λ m. is_taken (period_outcome l.initial.buffer l.tick l.first l.part (length l.payload) m)) (place l.initial.buffer.store.slots) (place l.buffer.store.slots);
  before : IsKeptBefore l.initial.buffer.store.slots l.buffer.store.slots l.first;
  most : l.n ≤ 51;
  stands : (deeds : List Deed) → Stands deeds l.initial.buffer.store.slots →
      Stands (with_periods g.row.N l.initial.buffer.pace l.tick l.first l.part l.payload l.n deeds) l.buffer.store.slots;
  counts : Counting l.n l.laid.late l.laid.doubled l.buffer.newest (λ m. period_outcome l.initial.buffer l.tick l.first l.part (length l.payload) m) l.first l.initial.buffer.newest;
  told : Told l.n (pace_laid l.initial.buffer l.tick l.first l.part (length l.payload) l.is_watched)
      l.initial.buffer.pace l.buffer.pace l.initial.buffer.newest l.buffer.newest;
}

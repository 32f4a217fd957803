use Rattle.std.proofs.Common.{◌≡◌, ◌<◌, ℕ, length}
use Rattle.std.specs.Prelude.{slice_index_or, slice_index}
use Rattle.rtp_buffer.specs.declared.octet.Octet.TheVariants.{Missing}
use Rattle.rtp_buffer.specs.Octets.{heard}
use Rattle.rtp_buffer.proofs.octet.look.Given as goal

abbrev pub invariant-loop-n : goal.invariant-loop-n
invariant-loop-n g l = record {
  sized : length l.period ≡ g.row.N;
  heard_is : (k : ℕ) → k < l.n → slice_index l.period k ≡ heard (slice_index_or l.row k Missing) l.filler;
}

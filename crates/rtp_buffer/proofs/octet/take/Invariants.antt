use Rattle.std.proofs.Common.{◌≡◌, ◌<◌, ℕ, length}
use Rattle.std.specs.Prelude.{slice_index_or, slice_index, nat_lt, if◌then◌else◌}
use Rattle.rtp_buffer.specs.declared.octet.Octet.TheVariants.{Missing}
use Rattle.rtp_buffer.specs.Octets.{after_taking, heard}
use Rattle.rtp_buffer.proofs.octet.take.Given as goal

abbrev pub invariant-loop-n : goal.invariant-loop-n
invariant-loop-n g l = record {
  sized : length l.period ≡ g.row.N;
  row : (k : ℕ) → slice_index_or l.row k Missing ≡ (if nat_lt k l.n then after_taking (slice_index_or l.initial.row k Missing) else slice_index_or l.initial.row k Missing);
  heard_is : (k : ℕ) → k < l.n → slice_index l.period k ≡ heard (slice_index_or l.initial.row k Missing) l.filler;
}

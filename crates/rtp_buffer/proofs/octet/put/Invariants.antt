use Rattle.std.proofs.Common.{◌≡◌, ℕ, length}
use Rattle.std.specs.Prelude.{slice_index_or}
use Rattle.rtp_buffer.specs.declared.octet.Octet.TheVariants.{Missing}
use Rattle.rtp_buffer.specs.Octets.{with_octet, came}
use Rattle.rtp_buffer.proofs.octet.put.Given as goal

abbrev pub invariant-loop-n : goal.invariant-loop-n
invariant-loop-n g l = record {
  sized : length l.row ≡ g.row.N;
  octets_are : (k : ℕ) → slice_index_or l.row k Missing ≡ with_octet (slice_index_or l.initial.row k Missing) (came l.part l.octets l.n k);
}

use Rattle.std.proofs.Common.{◌≡◌, ℕ}
use Rattle.std.specs.Prelude.{slice_index_or, nat_lt, if◌then◌else◌}
use Rattle.rtp_buffer.specs.declared.octet.Octet.TheVariants.{Missing}
use Rattle.rtp_buffer.specs.Octets.{after_leaving_out}
use Rattle.rtp_buffer.proofs.octet.leave_out.Given as goal

abbrev pub invariant-loop-n : goal.invariant-loop-n
invariant-loop-n g l = (k : ℕ) → slice_index_or l.row k Missing ≡ (if nat_lt k l.n then after_leaving_out (slice_index_or l.initial.row k Missing) else slice_index_or l.initial.row k Missing)

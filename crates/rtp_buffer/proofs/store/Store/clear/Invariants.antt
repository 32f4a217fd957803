use Rattle.std.proofs.Common.{◌≡◌, ◌<◌, ℕ}
use Rattle.std.specs.Prelude.{slice_index_or}
use Rattle.rtp_buffer.specs.declared.octet.Octet.TheVariants.{Missing}
use Rattle.rtp_buffer.specs.Store.{no_slot}
use Rattle.rtp_buffer.proofs.store.Store.clear.Given as goal

abbrev pub invariant-loop-n : goal.invariant-loop-n
invariant-loop-n g l = (j : ℕ) → j < l.n → (k : ℕ) → slice_index_or (slice_index_or l.self.slots j no_slot).octets k Missing ≡ Missing

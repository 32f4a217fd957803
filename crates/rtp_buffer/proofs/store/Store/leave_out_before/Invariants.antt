use Rattle.std.proofs.Common.{◌≡◌, ℕ}
use Rattle.std.specs.Prelude.{nat_lt, if◌then◌else◌, ◌&&◌}
use Rattle.rtp_buffer.specs.Octets.{after_leaving_out}
use Rattle.rtp_buffer.specs.Store.{place, slot_of, is_before}
use Rattle.rtp_buffer.proofs.store.Store.leave_out_before.Given as goal

abbrev pub invariant-loop-n : goal.invariant-loop-n
invariant-loop-n g l = (period k : ℕ) → place l.self.slots period k ≡
    (if nat_lt (slot_of period) l.n && is_before period l.first then after_leaving_out (place l.initial.self.slots period k) else place l.initial.self.slots period k)

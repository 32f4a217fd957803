use Rattle.std.proofs.Common.{ℕ, arith}
use Rattle.rtp_buffer.specs.Store.{is_before}
use Rattle.rtp_buffer.proofs.Slots.{left_out, not_left_out}
use Rattle.rtp_buffer.proofs.slot.Slot.leave_out_before.Goals as goal

pub returns-then-self-first-ge2147483648 : goal.returns-then-self-first-ge2147483648
returns-then-self-first-ge2147483648 g c period k =
    left_out (λ (p : ℕ). is_before p c.args.first) c.args.self.now c.leave_out.new.row period k (c.leave_out.ensures k) (grind arith)

pub returns-else-self-first-ge2147483648 : goal.returns-else-self-first-ge2147483648
returns-else-self-first-ge2147483648 g c period k = not_left_out (λ (p : ℕ). is_before p c.args.first) c.args.self.now period k (grind arith)

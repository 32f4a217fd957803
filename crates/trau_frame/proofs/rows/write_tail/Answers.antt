use Rattle.std.proofs.Common.{refl, arith}
use Rattle.trau_frame.proofs.WrittenRows.{written_one, written_last, written_high, written_time}
use Rattle.trau_frame.proofs.rows.write_tail.Goals as goal

pub loop-n-init : goal.loop-n-init
loop-n-init c = λ before.
    written_one c.args.control.now c.args.d.now c.args.bits.now 19 304 305 (omega arith) (omega arith) refl refl before

pub loop-n-preserved : goal.loop-n-preserved
loop-n-preserved c = λ before.
    written_last c.args.control.now c.args.d.now c.loop-n.bits c.loop-n.n (omega arith) (c.loop-n.invariant before)

pub loop-c-preserved : goal.loop-c-preserved
loop-c-preserved c = λ before.
    written_high c.args.control.now c.args.d.now c.loop-c.bits c.loop-c.c (omega arith) (c.loop-c.invariant before)

pub loop-t-preserved : goal.loop-t-preserved
loop-t-preserved c = λ before.
    written_time c.args.control.now c.args.d.now c.loop-t.bits c.loop-t.t (omega arith) (c.loop-t.invariant before)

use Rattle.std.proofs.Common.{◌+◌, refl, arith}
use Rattle.trau_frame.proofs.WrittenRows.{written_to, written_zero, written_one, written_low}
use Rattle.trau_frame.proofs.rows.write_head.Goals as goal

pub loop-i-preserved : goal.loop-i-preserved
loop-i-preserved c = λ d. written_zero c.args.control.now d c.loop-i.bits c.loop-i.i (omega arith) (c.loop-i.invariant d)

pub loop-c-init : goal.loop-c-init
loop-c-init c = λ d.
    written_one c.args.control.now d c.loop-i.bits 1 16 17 (omega arith) (omega arith) refl refl
    (written_to c.args.control.now d c.loop-i.bits c.loop-i.i 16 (omega arith) (c.loop-i.invariant d))

pub loop-c-preserved : goal.loop-c-preserved
loop-c-preserved c = λ d. written_low c.args.control.now d c.loop-c.bits c.loop-c.c (omega arith) (c.loop-c.invariant d)

pub returns : goal.returns
returns c = λ d. written_to c.args.control.now d c.loop-c.bits (17 + c.loop-c.c) 32 (omega arith) (c.loop-c.invariant d)

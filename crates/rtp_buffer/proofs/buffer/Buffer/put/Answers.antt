use Rattle.std.proofs.Common.{arith}
use Rattle.rtp_buffer.proofs.Known.{is_doubled, is_late_one, is_taken}
use Rattle.rtp_buffer.proofs.buffer.Buffer.put.Goals as goal

pub returns-then-have_come-clause-outcome : goal.returns-then-have_come-clause-outcome
returns-then-have_come-clause-outcome g c = is_doubled c.args.self.now _ _ _ _ (c.have_come.ensures.yes c.if-have_come.true)

pub returns-then-is_watched-clause-outcome : goal.returns-then-is_watched-clause-outcome
returns-then-is_watched-clause-outcome g c =
    is_late_one c.args.self.now _ _ _ _ (c.have_come.ensures.no c.if-have_come.false) (grind (arith, c.wait-wait.ensures, c.if-wait-ge-LATE.true))

pub returns-then-is_watched-clause-shift : goal.returns-then-is_watched-clause-shift
returns-then-is_watched-clause-shift g c = grind (arith, c.straggle.ensures.pace)

pub returns-else-is_watched-clause-outcome : goal.returns-else-is_watched-clause-outcome
returns-else-is_watched-clause-outcome g c =
    is_late_one c.args.self.now _ _ _ _ (c.have_come.ensures.no c.if-have_come.false) (grind (arith, c.wait-wait.ensures, c.if-wait-ge-LATE.true))

pub returns-clause-outcome : goal.returns-clause-outcome
returns-clause-outcome g c =
    is_taken c.args.self.now _ _ _ _ (c.have_come.ensures.no c.if-have_come.false) (grind (arith, c.wait-wait.ensures, c.if-wait-ge-LATE.false))

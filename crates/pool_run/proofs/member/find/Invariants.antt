use Rattle.std.proofs.Common.{None}
use Rattle.pool_run.specs.Member.{Moves}
use Rattle.pool_run.proofs.member.find.Given as goal

abbrev pub invariant-loop : goal.invariant-loop
invariant-loop g l = Moves g.W.Work.finish l.thieves l.fn.member None l.member None

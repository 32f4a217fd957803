use Rattle.std.proofs.Common.{◌≡◌}
use Rattle.trau_program.proofs.downlinks.first_pattern.Given as goal

abbrev pub invariant-loop : goal.invariant-loop
invariant-loop g l = l.search.periods ≡ l.counter

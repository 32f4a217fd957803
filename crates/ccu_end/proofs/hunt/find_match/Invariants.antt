use Rattle.ccu_end.specs.Window.{NoMatch}
use Rattle.ccu_end.proofs.hunt.find_match.Given as goal

abbrev pub invariant-loop-o : goal.invariant-loop-o
invariant-loop-o l = NoMatch l.window l.first l.o

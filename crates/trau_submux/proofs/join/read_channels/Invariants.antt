use Rattle.trau_submux.proofs.Reading.{ReadSoFar}
use Rattle.trau_submux.proofs.join.read_channels.Given as goal

abbrev pub invariant-loop-j : goal.invariant-loop-j
invariant-loop-j g l = ReadSoFar (g.T.Trunk.lines l.initial.trunk) (g.T.Trunk.lines l.trunk) l.call l.subs l.counts l.j

use Rattle.frame_sync.proofs.Scan.{Counted, Unmatched}
use Rattle.frame_sync.proofs.hunt.find_match.Given as goal

abbrev pub invariant-loop-end : goal.invariant-loop-end
invariant-loop-end l = record {
  counted : Counted l.window l.first l.end l.zeros;
  unmatched : Unmatched l.window l.first l.end;
}

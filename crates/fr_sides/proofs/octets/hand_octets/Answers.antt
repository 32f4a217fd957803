use Rattle.std.proofs.Common.{rules}
use Rattle.fr_sides.proofs.octets.hand_octets.Goals as goal

pub returns-clause-period : goal.returns-clause-period
returns-clause-period c = record {
  heard = _;
  brought = c.brought.ensures;
  effective = _;
  step = c.hand-e.ensures.step;
  carried = record { frame = c.handed.result; carried = (c.pack.ensures.carried, c.pack.ensures.shape); same = c.handed.ensures };
  answer = search rules;
  history = c.hand-e.ensures.history;
}

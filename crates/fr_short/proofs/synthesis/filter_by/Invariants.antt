use Rattle.std.proofs.Common.{reverse, map, to_z, w16}
use Rattle.trau_lanes.specs.Lanes.{EightWords}
use Rattle.fr_short.specs.Reflection.{coefficients_at, part_start}
use Rattle.fr_short.proofs.Runs.{Run}
use Rattle.fr_short.proofs.synthesis.filter_by.Given as goal

abbrev pub invariant-loop-part : goal.invariant-loop-part
invariant-loop-part g l = record {
  run : Run g.S.Step.next (coefficients_at l.old l.new) l.fn.sections l.d l.before (reverse (map (to_z w16) l.vs)) l.last l.made (part_start l.part);
  words : EightWords (map (to_z w16) l.vs);
}

abbrev pub invariant-loop-k : goal.invariant-loop-k
invariant-loop-k g l = record {
  run : Run g.S.Step.next (coefficients_at l.old l.new) l.fn.sections l.d l.before (reverse (map (to_z w16) l.vs)) l.last l.made l.k;
  words : EightWords (map (to_z w16) l.vs);
}

use Rattle.trau_io.specs.declared.line.Side.TheVariants.{Up, Out}
use Rattle.trau_submux.specs.Lines.{AllButFive, channel_lines}
use Rattle.trau_submux.proofs.Pieces.{MergeSoFar}
use Rattle.trau_submux.proofs.join.merge_slot.Given as goal

abbrev pub invariant-loop-block : goal.invariant-loop-block
invariant-loop-block g l = record {
  so_far : MergeSoFar (channel_lines (g.T.Trunk.lines l.initial.trunk) l.call Up) (channel_lines (g.T.Trunk.lines l.trunk) l.call Up)
      (g.T.Trunk.lines l.initial.trunk l.call Out) (g.T.Trunk.lines l.trunk l.call Out) l._block l.octets;
  others : AllButFive (g.T.Trunk.lines l.initial.trunk) (g.T.Trunk.lines l.trunk) l.call Out Up;
}

use Rattle.trau_io.specs.declared.line.Side.TheVariants.{Up, Down}
use Rattle.ccu_end.specs.Follows.{AllButTwo}
use Rattle.ccu_end.proofs.SoFar.{SoFar}
use Rattle.ccu_end.proofs.recording.follow_line.Given as goal

abbrev pub invariant-loop-period : goal.invariant-loop-period
invariant-loop-period g l = record {
  so_far : SoFar l.ccu l.want (g.T.Trunk.lines l.initial.trunk l.call Up) (g.T.Trunk.lines l.trunk l.call Up) (g.T.Trunk.lines l.initial.trunk l.call Down)
      (g.T.Trunk.lines l.trunk l.call Down) (g.D.Desk.desk l.initial.desk) (g.D.Desk.desk l.desk) l._period l.frames;
  others : AllButTwo (g.T.Trunk.lines l.initial.trunk) (g.T.Trunk.lines l.trunk) l.call Up Down;
}

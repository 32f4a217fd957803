use Rattle.std.proofs.Common.{subst, sym}
use Rattle.trau_files.specs.Contents.{IsAtStart}
use Rattle.trau_files.specs.Holds.{HoldsAtFirst}
use Rattle.trau_files.proofs.Knowing.{first_lines, known_at_first}
use Rattle.trau_files.proofs.contents.Contents.new.Goals as goal

pub invariant_of-result : goal.invariant_of-result
invariant_of-result g c = known_at_first g.D.Folder.honest g.K.AtStart.start c.in_ok-new.field-0
    (subst (λ (d : _). HoldsAtFirst g.D.Folder.does d c.in_ok-new.field-0) (sym c.in_ok-new.ensures.untouched) c.in_ok-new.ensures.honest)
    (subst (λ (d : _). IsAtStart g.D.Folder.honest g.K.AtStart.start d) (sym c.in_ok-new.ensures.untouched) c.requires) c.in_ok-new.ensures.unclaimed

pub returns-clause-lines : goal.returns-clause-lines
returns-clause-lines g c = first_lines g.D.Folder.honest g.K.AtStart.start c.in_ok-new.field-0
    (subst (λ (d : _). HoldsAtFirst g.D.Folder.does d c.in_ok-new.field-0) (sym c.in_ok-new.ensures.untouched) c.in_ok-new.ensures.honest)
    (subst (λ (d : _). IsAtStart g.D.Folder.honest g.K.AtStart.start d) (sym c.in_ok-new.ensures.untouched) c.requires) c.in_ok-new.ensures.each

use Rattle.std.proofs.Common.{sym, subst, ap, ◌∙◌}
use Rattle.call_leg.specs.Stands.{Stands}
use Rattle.call_leg.specs.Halves.{up_of, UpStands}
use Rattle.call_leg.specs.contracts.leg.Leg.{the_view}
use Rattle.call_leg.proofs.HalfSteps.{up_of-joined}
use Rattle.call_leg.proofs.leg.Leg.split.Goals as goal

pub returns-clause-up : goal.returns-clause-up
returns-clause-up c = sym (up_of-joined c.self.inside.up c.self.inside.down c.self.invariant) ∙ ap up_of c.self.view_is

pub returns-clause-history : goal.returns-clause-history
returns-clause-history c = λ who ts now given.
    let h : Stands who ts now (the_view c.self.inside) = subst (Stands who ts now) (sym c.self.view_is) given in
    (subst (UpStands who ts now) (up_of-joined c.self.inside.up c.self.inside.down c.self.invariant) h.up, h.down)

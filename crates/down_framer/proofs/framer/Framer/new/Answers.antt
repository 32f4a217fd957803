use Rattle.std.proofs.Common.{refl, sym, subst, []}
use Rattle.down_framer.specs.Memory.{IsBetweenPeriods}
use Rattle.down_framer.specs.Stands.{StandsBetween}
use Rattle.down_framer.proofs.History.{new-stands}
use Rattle.down_framer.proofs.Rings.{new-rings, new-view, new_between}
use Rattle.down_framer.proofs.framer.Framer.new.Goals as goal

pub invariant_of-result : goal.invariant_of-result
invariant_of-result c =
    new-rings c.in_ok-bits.bits c.fill_from_slice.new.self c.in_ok-octets.octets _ _
    c.in_ok-bits.ensures c.in_ok-octets.ensures refl c.fill_from_slice.ensures.count c.fill_from_slice.ensures.items

pub returns-clause-value : goal.returns-clause-value
returns-clause-value c =
    new-view c.in_ok-bits.bits c.fill_from_slice.new.self c.in_ok-octets.octets _ _
    c.in_ok-bits.ensures c.in_ok-octets.ensures refl c.fill_from_slice.ensures.count c.fill_from_slice.ensures.items

pub returns-clause-between : goal.returns-clause-between
returns-clause-between c = subst IsBetweenPeriods (sym (returns-clause-value c)) new_between

pub returns-clause-history : goal.returns-clause-history
returns-clause-history c = λ bits. subst (StandsBetween bits []) (sym (returns-clause-value c)) (new-stands bits)

use Rattle.std.proofs.Common.{refl, ◌∙◌, ◌+◌, ◌%◌, ◌^◌, arith}
use Rattle.std.proofs.lemmas.List.{length-set}
use Rattle.farm_rounds.proofs.Drain.Sums.{added_here, added_elsewhere}
use Rattle.farm_rounds.proofs.sums.Sums.add.Goals as goal

pub index-requires : goal.index-requires
index-requires c = omega (arith, c.line_index-at.ensures.within, c.self.invariant)

pub index_mut-requires : goal.index_mut-requires
index_mut-requires c = omega (arith, c.line_index-at.ensures.within, c.self.invariant)

pub invariant_of-self : goal.invariant_of-self
invariant_of-self c = length-set c.self.inside.sums.items c.line_index-at.result ((c.index.result.now + c.sum.result) % 2 ^ 32) ∙ c.self.invariant

pub returns-clause-this : goal.returns-clause-this
returns-clause-this c =
    added_here c.self.inside.sums.items c.args.self.now c.args.octets.now c.args.line.call c.line_index-at.result c.sum.result c.index.result.now
    ((c.index.result.now + c.sum.result) % 2 ^ 32) c.args.line.side c.self.view_is c.line_index-at.ensures.value
    (omega (arith, c.line_index-at.ensures.within, c.self.invariant)) c.sum.ensures c.index.ensures refl

pub returns-clause-others : goal.returns-clause-others
returns-clause-others c =
    added_elsewhere c.self.inside.sums.items c.args.self.now c.args.line.call c.line_index-at.result ((c.index.result.now + c.sum.result) % 2 ^ 32)
    c.args.line.side c.self.view_is c.line_index-at.ensures.value

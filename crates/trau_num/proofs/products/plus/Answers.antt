use Rattle.std.proofs.Common.{◌∙◌, ap, w16}
use Rattle.std.proofs.lemmas.Int.{to_z-of_z}
use Rattle.trau_num.specs.Num.{add_of}
use Rattle.trau_num.proofs.Fitting.{clamped_sum}
use Rattle.trau_num.proofs.products.plus.Goals as goal

pub returns : goal.returns
returns c =
    let product = rw (to_z-of_z w16 c.args.factor c.ranges.factor, to_z-of_z w16 c.args.value c.ranges.value) at c.scaled.ensures.value in
    clamped_sum c.args.base c.from.result c.scaled.result c.clamp.result c.ranges.base c.from.ensures c.scaled.ensures.bound
    (record { sfits = c.clamp.type_inv }) c.clamp.ensures ∙ ap (add_of c.args.base) product

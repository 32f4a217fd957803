use Rattle.std.proofs.Common.{◌≡◌, ◌≤◌, ◌∙◌, ap, unsigned_abs, arith, w16}
use Rattle.std.proofs.lemmas.Int.{to_z-of_z, ints}
use Rattle.trau_num.specs.Num.{sub_of}
use Rattle.trau_num.proofs.Fitting.{clamped_difference}
use Rattle.trau_num.proofs.words.sub.Goals as goal

pub returns : goal.returns
returns c =
    let b : c.from-2.result ≡ c.args.b = c.from-2.ensures ∙ to_z-of_z w16 c.args.b c.ranges.b in
    let small : unsigned_abs c.from-2.result ≤ 32768 = omega (arith, ints) in
    clamped_difference c.args.a c.from.result c.from-2.result c.clamp.result c.ranges.a c.from.ensures small
    (record { sfits = c.clamp.type_inv }) c.clamp.ensures ∙ ap (sub_of c.args.a) b

use Rattle.std.proofs.Common.{arith, pos, ap, ◌∙◌, ◌≤◌, ◌*ℤ◌, unsigned_abs, FitsSigned, w16, w32}
use Rattle.std.proofs.lemmas.Int.{ints, to_z-of_z, unsigned_abs-mul}
use Rattle.fr_long.proofs.Blocks.{doubled_small, is_product}
use Rattle.fr_long.proofs.sums.small_product.Goals as goal

pub returns-clause-doubled : goal.returns-clause-doubled
returns-clause-doubled c =
    let a : FitsSigned w16 c.args.a = c.ranges.a in
    let b : FitsSigned w16 c.args.b = c.ranges.b in
    let small : unsigned_abs (c.args.a *ℤ c.args.b) ≤ 16777216 = simp unsigned_abs-mul c.requires in
    let f : FitsSigned w32 (c.args.a *ℤ c.args.b) = omega (arith, ints) in
    let x = simp to_z-of_z at c.from.ensures in
    let y = simp to_z-of_z at c.from-2.ensures in
    ap (λ z. z *ℤ pos 2) (is_product c.from.result c.from-2.result c.args.a c.args.b a b f x y) ∙ doubled_small c.args.a c.args.b c.requires

pub returns-clause-bound : goal.returns-clause-bound
returns-clause-bound c =
    let a : FitsSigned w16 c.args.a = c.ranges.a in
    let b : FitsSigned w16 c.args.b = c.ranges.b in
    let small : unsigned_abs (c.args.a *ℤ c.args.b) ≤ 16777216 = simp unsigned_abs-mul c.requires in
    let f : FitsSigned w32 (c.args.a *ℤ c.args.b) = omega (arith, ints) in
    let x = simp to_z-of_z at c.from.ensures in
    let y = simp to_z-of_z at c.from-2.ensures in
    rw (is_product c.from.result c.from-2.result c.args.a c.args.b a b f x y) small

pub overflow_mul-result : goal.overflow_mul-result
overflow_mul-result c =
    let first : FitsSigned w32 c.from.result = record { sfits = c.from.type_inv } in
    let second : FitsSigned w32 c.from-2.result = record { sfits = c.from-2.type_inv } in
    let x = c.from.ensures ∙ to_z-of_z w16 c.args.a c.ranges.a in
    let y = c.from-2.ensures ∙ to_z-of_z w16 c.args.b c.ranges.b in
    let small : unsigned_abs (c.args.a *ℤ c.args.b) ≤ 16777216 = simp unsigned_abs-mul c.requires in
    let f : FitsSigned w32 (c.args.a *ℤ c.args.b) = omega (arith, ints) in
    rw (to_z-of_z w32 _ first, to_z-of_z w32 _ second, x, y) f

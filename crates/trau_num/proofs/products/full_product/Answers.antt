use Rattle.std.proofs.Common.{rules, arith, ◌≡◌, ◌∙◌, ◌≤◌, ◌*ℤ◌, unsigned_abs, FitsSigned, w32}
use Rattle.std.proofs.lemmas.Int.{ints}
use Rattle.trau_num.proofs.Fitting.{product_fits, product_is, product_bound}
use Rattle.trau_num.proofs.products.full_product.Goals as goal

pub overflow_mul-result : goal.overflow_mul-result
overflow_mul-result c =
    let fr : FitsSigned w32 c.from.result = search rules in
    let fv : FitsSigned w32 c.from-2.result = search rules in
    let lr : unsigned_abs c.from.result ≤ 32768 = omega (arith, ints) in
    let lv : unsigned_abs c.from-2.result ≤ 32768 = omega (arith, ints) in
    product_fits c.from.result c.from-2.result 32768 32768 fr fv lr lv (omega arith)

pub returns-clause-value : goal.returns-clause-value
returns-clause-value c =
    let fr : FitsSigned w32 c.from.result = search rules in
    let fv : FitsSigned w32 c.from-2.result = search rules in
    let er : c.from.result ≡ c.args.a = search rules in
    let ev : c.from-2.result ≡ c.args.b = search rules in
    let lr : unsigned_abs c.from.result ≤ 32768 = omega (arith, ints) in
    let lv : unsigned_abs c.from-2.result ≤ 32768 = omega (arith, ints) in
    let whole = product_is c.from.result c.from-2.result 32768 32768 fr fv lr lv (omega arith) in
    whole ∙ (λ i. er i *ℤ ev i)

pub returns-clause-bound : goal.returns-clause-bound
returns-clause-bound c =
    let fr : FitsSigned w32 c.from.result = search rules in
    let fv : FitsSigned w32 c.from-2.result = search rules in
    let lr : unsigned_abs c.from.result ≤ 32768 = omega (arith, ints) in
    let lv : unsigned_abs c.from-2.result ≤ 32768 = omega (arith, ints) in
    let whole = product_is c.from.result c.from-2.result 32768 32768 fr fv lr lv (omega arith) in
    simp whole (product_bound c.from.result c.from-2.result 32768 32768 lr lv)

use Rattle.std.proofs.Common.{FitsSigned, ◌≡◌, pos, ◌+ℤ◌, ◌≤ℤ◌, w16, w32, arith, rules, sym, subst}
use Rattle.std.proofs.lemmas.Int.{to_z-of_z, ints}
use Rattle.trau_num.specs.Num.{entry}
use Rattle.tx_dtx.specs.SilenceDescriptor.{total}
use Rattle.tx_dtx.proofs.Means.{two_sums, total-not_negative}
use Rattle.tx_dtx.proofs.sid.maxima.Goals as goal

sums : (c : goal.After-sum-2) → c.sum.result +ℤ c.sum-2.result ≡ total c.args.t.now.xmax
sums c =
    let f0 : FitsSigned w16 (entry c.args.t.now.xmax 0) = search rules in
    let f1 : FitsSigned w16 (entry c.args.t.now.xmax 1) = search rules in
    let f2 : FitsSigned w16 (entry c.args.t.now.xmax 2) = search rules in
    let f3 : FitsSigned w16 (entry c.args.t.now.xmax 3) = search rules in
    two_sums c.sum.result c.sum-2.result c.args.t.now.xmax (search rules) (simp to_z-of_z at c.sum.ensures.value) (simp to_z-of_z at c.sum-2.ensures.value)

pub returns-clause-value : goal.returns-clause-value
returns-clause-value c =
    let fa : FitsSigned w32 c.sum.result = record { sfits = c.sum.type_inv } in
    let fb : FitsSigned w32 c.sum-2.result = record { sfits = c.sum-2.type_inv } in
    let f : FitsSigned w32 (c.sum.result +ℤ c.sum-2.result) = search rules in
    simp to_z-of_z (sums c)

pub returns-clause-low : goal.returns-clause-low
returns-clause-low c =
    let fa : FitsSigned w32 c.sum.result = record { sfits = c.sum.type_inv } in
    let fb : FitsSigned w32 c.sum-2.result = record { sfits = c.sum-2.type_inv } in
    let f : FitsSigned w32 (c.sum.result +ℤ c.sum-2.result) = search rules in
    let e = sums c in
    let n = total-not_negative c.args.t.now.xmax c.args.t.now.xmax_not_negative in
    simp to_z-of_z (subst (λ z. pos 0 ≤ℤ z) (sym e) n)

pub returns-clause-high : goal.returns-clause-high
returns-clause-high c =
    let fa : FitsSigned w32 c.sum.result = record { sfits = c.sum.type_inv } in
    let fb : FitsSigned w32 c.sum-2.result = record { sfits = c.sum-2.type_inv } in
    let a = c.sum.ensures.high in
    let b = c.sum-2.ensures.high in
    let f : FitsSigned w32 (c.sum.result +ℤ c.sum-2.result) = search rules in
    simp to_z-of_z (omega (arith, ints))

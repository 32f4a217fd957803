use Rattle.std.proofs.Common.{◌≡◌, ◌<◌, ◌-◌, ◌^◌, pos, ◌-ℤ◌, ◌+ℤ◌, ◌≤ℤ◌, get_or, ℕ, ℤ, arith, rules, FitsSigned, w16}
use Rattle.std.proofs.lemmas.Int.{to_z-of_z, ints}
use Rattle.trau_num.specs.Num.{entry}
use Rattle.trau_params.specs.Ratios.{least_ratios}
use Rattle.trau_params.specs.Widths.{larc_widths}
use Rattle.fr_lpc.specs.Ratios.{most}
use Rattle.fr_lpc.proofs.Table.{least-most, span, width_bound}
use Rattle.fr_lpc.proofs.ratios.code_at.Goals as goal

within : (low high : ℤ) (n : ℕ) → high -ℤ low ≡ pos n → n < 64 → high ≤ℤ (low +ℤ pos 63)
within low high n e b = omega (arith, ints)

fits : (low high : ℤ) (n code : ℕ) → high -ℤ low ≡ pos (n - 1) → low ≤ℤ high → pos code ≤ℤ (high -ℤ low) → 0 < n → code < n
fits low high n code e o b p = omega (arith, ints)

pub code-requires-clause-order : goal.code-requires-clause-order
code-requires-clause-order c =
    let l : FitsSigned w16 (entry least_ratios c.args.i) = search rules in
    let m : FitsSigned w16 (entry most c.args.i) = search rules in
    simp to_z-of_z (least-most c.args.i c.requires)

pub code-requires-clause-width : goal.code-requires-clause-width
code-requires-clause-width c =
    let l : FitsSigned w16 (entry least_ratios c.args.i) = search rules in
    let m : FitsSigned w16 (entry most c.args.i) = search rules in
    simp to_z-of_z (within (entry least_ratios c.args.i) (entry most c.args.i) _ (span c.args.i c.requires) (width_bound c.args.i c.requires))

pub returns-clause-width : goal.returns-clause-width
returns-clause-width c =
    let l : FitsSigned w16 (entry least_ratios c.args.i) = search rules in
    let m : FitsSigned w16 (entry most c.args.i) = search rules in
    let b = simp to_z-of_z at c.code.ensures.bound in
    fits (entry least_ratios c.args.i) (entry most c.args.i) (2 ^ get_or larc_widths c.args.i 0) c.code.result (span c.args.i c.requires)
    (least-most c.args.i c.requires) b (search rules)

pub returns-clause-value : goal.returns-clause-value
returns-clause-value c = search rules

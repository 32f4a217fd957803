use Rattle.std.proofs.Common.{◌≡◌, ◌<◌, ◌≤◌, ℕ, ℤ, pos, refl, unsigned_abs, arith, ◌∙◌, FitsSigned, w32}
use Rattle.std.proofs.lemmas.Int.{to_z-of_z}
use Rattle.trau_num.proofs.Fill.{fill_none, fill_next, fill_all, each_next}
use Rattle.trau_num.specs.Num.{entry}
use Rattle.fr_lpc.specs.Autocorrelation.{autocorrelation_of, autocorrelations_of}
use Rattle.fr_lpc.proofs.Energy.{greatest_first, plainly}
use Rattle.fr_lpc.proofs.autocorrelation.autocorrelate.Goals as goal

pub loop-k-init : goal.loop-k-init
loop-k-init c = record { filled = fill_none (pos 0) _ _ 9 refl; bound = λ j l. absurd (omega arith) }

pub loop-k-preserved : goal.loop-k-preserved
loop-k-preserved c =
    let old = c.loop-k.invariant in
    let fits : FitsSigned w32 c.autocorrelation.result = record { sfits = c.autocorrelation.type_inv } in
    rw (to_z-of_z w32 _ fits) (record {
      filled = fill_next (pos 0) _ c.loop-k.acf 9 c.loop-k.k _ c.loop-k-test.true old.filled c.autocorrelation.ensures.value;
      bound = each_next (λ (j : ℕ) (x : ℤ). unsigned_abs x ≤ 1342177280) (pos 0) c.loop-k.acf c.loop-k.k c.autocorrelation.result
          (omega (arith, old.filled.count)) c.autocorrelation.ensures.bound old.bound;
    })

pub returns-clause-value : goal.returns-clause-value
unfolding autocorrelations_of
returns-clause-value c = fill_all (pos 0) _ c.loop-k.acf 9 c.loop-k.k c.loop-k-test.false c.loop-k.invariant.filled

pub returns-clause-bound : goal.returns-clause-bound
returns-clause-bound c = λ j l. c.loop-k.invariant.bound j (omega (arith, c.loop-k.invariant.filled.count))

pub returns-clause-greatest_first : goal.returns-clause-greatest_first
returns-clause-greatest_first c =
    let filled = c.loop-k.invariant.filled in
    let count = filled.count in
    let first : entry c.loop-k.acf 0 ≡ autocorrelation_of c.args.s.now 0 = filled.each 0 (omega arith) in
    λ k h.
    let within : k < c.loop-k.k = omega arith in
    let here : entry c.loop-k.acf k ≡ autocorrelation_of c.args.s.now k = filled.each k within in
    let e = greatest_first c.args.s.now c.requires k (omega arith) in
    rw (here, first) e

pub returns-clause-sums : goal.returns-clause-sums
returns-clause-sums c = λ k l. c.loop-k.invariant.filled.each k (omega arith) ∙ plainly c.args.s.now c.requires k

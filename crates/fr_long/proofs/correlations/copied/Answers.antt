use Rattle.std.proofs.Common.{pos, get_or, rules, arith, refl, FitsSigned, w16, inl, inr, ◌∙◌}
use Rattle.std.proofs.lemmas.Int.{ints, to_z-of_z}
use Rattle.std.proofs.lemmas.Simd.{pick_l_whole}
use Rattle.std.proofs.lemmas.List.{get_or_past}
use Rattle.std.proofs.lemmas.Bool.{cases_lt}
use Rattle.trau_num.proofs.Fill.{fill_next, fill_all, each_next}
use Rattle.fr_long.proofs.correlations.copied.Goals as goal

pub loop-k-preserved : goal.loop-k-preserved
loop-k-preserved c =
    let fits : FitsSigned w16 (get_or c.args.past.now c.loop-k.k (pos 0)) = search rules in
    simp to_z-of_z (record {
      filled = fill_next (pos 0) _ c.loop-k.copy 120 c.loop-k.k _ c.loop-k-test.true c.loop-k.invariant.filled refl;
      words = each_next (λ k. FitsSigned w16) (pos 0) c.loop-k.copy c.loop-k.k _ (omega arith) fits c.loop-k.invariant.words;
    })

pub returns-clause-value : goal.returns-clause-value
returns-clause-value c =
    fill_all (pos 0) _ c.loop-k.copy 120 c.loop-k.k (omega arith) c.loop-k.invariant.filled ∙ pick_l_whole (pos 0) c.args.past.now 120 (omega arith)

pub returns-clause-words : goal.returns-clause-words
returns-clause-words c = λ k.
    elim (cases_lt k 120) [
      | inl b ↦ c.loop-k.invariant.words k (omega arith)
      | inr b ↦ let past = get_or_past c.loop-k.copy k (pos 0) (omega arith) in rw past (omega (arith, ints))
    ]

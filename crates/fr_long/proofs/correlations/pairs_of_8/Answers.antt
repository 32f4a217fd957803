use Rattle.std.proofs.Common.{pos, length, get_or, ap, sym, subst, ◌∙◌, arith, lit≤}
use Rattle.std.specs.Simd.Lanes.{Each1}
use Rattle.std.proofs.lemmas.Int.{ints}
use Rattle.std.proofs.lemmas.Simd.{Each1-weaker}
use Rattle.trau_lanes.specs.Lanes.{sums_of_pairs}
use Rattle.trau_lanes.proofs.LaneDots.{Within, lanes_passed}
use Rattle.fr_long.proofs.Lanes.{scaled_all, kept}
use Rattle.fr_long.proofs.Rows.{scaled_chunk, products_passed, products_small, products_length, pairs_small}
use Rattle.fr_long.proofs.correlations.pairs_of_8.Goals as goal

pub eight-factors-requires-clause-words : goal.eight-factors-requires-clause-words
eight-factors-requires-clause-words c = λ k. let small : Within 512 (get_or c.args.wt.now k (pos 0)) = scaled_all c.args.wt.now (omega arith) c.requires.scaled k in
    omega (arith, ints)

pub products-terms-requires-clause-words_a : goal.products-terms-requires-clause-words_a
products-terms-requires-clause-words_a c =
    let small = subst (Each1 (Within 512)) (sym c.eight-factors.ensures.value) (scaled_chunk c.args.wt.now c.args.i 8 (omega arith) c.requires.scaled) in
    Each1-weaker (Within 512) (Within 32767) (λ x h. omega arith) _ (subst (Each1 (Within 512)) (sym (kept 512 c.eight-factors.result (lit≤ tt) small)) small)

pub products-terms-requires-clause-words_b : goal.products-terms-requires-clause-words_b
products-terms-requires-clause-words_b c =
    subst (Each1 (Within 32768)) (sym (kept 32768 c.eight-values.result (lit≤ tt) c.eight-values.ensures.words)) c.eight-values.ensures.words

pub neighbours-requires-clause-length : goal.neighbours-requires-clause-length
neighbours-requires-clause-length c =
    ap length (products_passed c.args.wt.now c.args.earlier.now 8 c.args.i c.args.at c.eight-factors.result c.eight-values.result c.products-terms.result
    (omega arith) c.requires.scaled c.requires.words c.eight-factors.ensures.value c.eight-values.ensures.value c.products-terms.ensures) ∙
    products_length c.args.wt.now c.args.earlier.now 8 c.args.i c.args.at (omega arith) (omega arith)

pub neighbours-requires-clause-small : goal.neighbours-requires-clause-small
neighbours-requires-clause-small c =
    subst (Each1 (Within 1073741823))
    (sym (products_passed c.args.wt.now c.args.earlier.now 8 c.args.i c.args.at c.eight-factors.result c.eight-values.result c.products-terms.result
    (omega arith) c.requires.scaled c.requires.words c.eight-factors.ensures.value c.eight-values.ensures.value c.products-terms.ensures))
    (Each1-weaker (Within 16777216) (Within 1073741823) (λ x h. omega arith) _
    (products_small c.args.wt.now c.args.earlier.now 8 c.args.i c.args.at (omega arith) c.requires.scaled c.requires.words))

pub returns : goal.returns
returns c =
    lanes_passed 33554432 _ _ (lit≤ tt) (pairs_small c.args.wt.now c.args.earlier.now 8 c.args.i c.args.at (omega arith) c.requires.scaled c.requires.words)
    (c.neighbours.ensures ∙ ap sums_of_pairs
    (products_passed c.args.wt.now c.args.earlier.now 8 c.args.i c.args.at c.eight-factors.result c.eight-values.result c.products-terms.result
    (omega arith) c.requires.scaled c.requires.words c.eight-factors.ensures.value c.eight-values.ensures.value c.products-terms.ensures))

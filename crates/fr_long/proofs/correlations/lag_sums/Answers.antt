use Rattle.std.proofs.Common.{◌≡◌, ℕ, ◌+◌, ◌-◌, pos, ◌+ℤ◌, ◌*ℤ◌, get_or, fold, length, ap, sym, subst, refl, ◌∙◌, arith, lit≤}
use Rattle.std.specs.List.{range_with_len}
use Rattle.std.specs.Simd.Lanes.{Each1}
use Rattle.std.proofs.lemmas.List.{length-map}
use Rattle.trau_num.specs.Num.{l_mult_of, entry}
use Rattle.fr_long.specs.Synthesis.{sample_before}
use Rattle.fr_long.specs.Lag.{correlation_of}
use Rattle.trau_lanes.proofs.LaneDots.{Within, product_at, doubled_sum}
use Rattle.fr_long.proofs.Lanes.{doubled_term, kept}
use Rattle.fr_long.proofs.Rows.{row_of, added_of, folded_of, sums_of, passed_within, words_within}
use Rattle.fr_long.proofs.correlations.lag_sums.Goals as goal

pub pairs_of_16-front-requires : goal.pairs_of_16-front-requires
pairs_of_16-front-requires c = record { scaled = c.requires.scaled; words = c.requires.words; block = omega arith; room = omega arith }

pub pairs_of_16-middle-requires : goal.pairs_of_16-middle-requires
pairs_of_16-middle-requires c = record { scaled = c.requires.scaled; words = c.requires.words; block = omega arith; room = omega arith }

pub pairs_of_8-back-requires : goal.pairs_of_8-back-requires
pairs_of_8-back-requires c = record { scaled = c.requires.scaled; words = c.requires.words; block = omega arith; room = omega arith }

pub sums_of_8-added-requires-clause-small_a : goal.sums_of_8-added-requires-clause-small_a
sums_of_8-added-requires-clause-small_a c =
    let front = row_of c.args.wt.now c.args.earlier.now c.args.start 8 0 c.args.start c.pairs_of_16-front.result (omega arith) c.requires.scaled c.requires.words
    (omega arith) (omega arith) (omega arith) c.pairs_of_16-front.ensures in
    passed_within 33554432 1073741823 c.pairs_of_16-front.result (lit≤ tt) (lit≤ tt) front.within

pub sums_of_8-added-requires-clause-small_b : goal.sums_of_8-added-requires-clause-small_b
sums_of_8-added-requires-clause-small_b c =
    let middle = row_of c.args.wt.now c.args.earlier.now c.args.start 8 16 (c.args.start + 16) c.pairs_of_16-middle.result (omega arith) c.requires.scaled c.requires.words
    (omega arith) (omega arith) refl c.pairs_of_16-middle.ensures in
    passed_within 33554432 1073741823 c.pairs_of_16-middle.result (lit≤ tt) (lit≤ tt) middle.within

pub halves-folded-requires-clause-length : goal.halves-folded-requires-clause-length
halves-folded-requires-clause-length c =
    let front = row_of c.args.wt.now c.args.earlier.now c.args.start 8 0 c.args.start c.pairs_of_16-front.result (omega arith) c.requires.scaled c.requires.words
    (omega arith) (omega arith) (omega arith) c.pairs_of_16-front.ensures in
    let middle = row_of c.args.wt.now c.args.earlier.now c.args.start 8 16 (c.args.start + 16) c.pairs_of_16-middle.result (omega arith) c.requires.scaled c.requires.words
    (omega arith) (omega arith) refl c.pairs_of_16-middle.ensures in
    let added = added_of c.pairs_of_16-front.result c.pairs_of_16-middle.result c.sums_of_8-added.result front.long middle.long front.within middle.within
    c.sums_of_8-added.ensures in
    simp length-map added.long

pub halves-folded-requires-clause-small : goal.halves-folded-requires-clause-small
halves-folded-requires-clause-small c =
    let front = row_of c.args.wt.now c.args.earlier.now c.args.start 8 0 c.args.start c.pairs_of_16-front.result (omega arith) c.requires.scaled c.requires.words
    (omega arith) (omega arith) (omega arith) c.pairs_of_16-front.ensures in
    let middle = row_of c.args.wt.now c.args.earlier.now c.args.start 8 16 (c.args.start + 16) c.pairs_of_16-middle.result (omega arith) c.requires.scaled c.requires.words
    (omega arith) (omega arith) refl c.pairs_of_16-middle.ensures in
    let added = added_of c.pairs_of_16-front.result c.pairs_of_16-middle.result c.sums_of_8-added.result front.long middle.long front.within middle.within
    c.sums_of_8-added.ensures in
    passed_within 67108864 1073741823 c.sums_of_8-added.result (lit≤ tt) (lit≤ tt) added.within

pub sums-requires-clause-small_a : goal.sums-requires-clause-small_a
sums-requires-clause-small_a c =
    let front = row_of c.args.wt.now c.args.earlier.now c.args.start 8 0 c.args.start c.pairs_of_16-front.result (omega arith) c.requires.scaled c.requires.words
    (omega arith) (omega arith) (omega arith) c.pairs_of_16-front.ensures in
    let middle = row_of c.args.wt.now c.args.earlier.now c.args.start 8 16 (c.args.start + 16) c.pairs_of_16-middle.result (omega arith) c.requires.scaled c.requires.words
    (omega arith) (omega arith) refl c.pairs_of_16-middle.ensures in
    let added = added_of c.pairs_of_16-front.result c.pairs_of_16-middle.result c.sums_of_8-added.result front.long middle.long front.within middle.within
    c.sums_of_8-added.ensures in
    let folded = folded_of c.sums_of_8-added.result c.halves-folded.result added.long added.within c.halves-folded.ensures in
    passed_within 134217728 1073741823 c.halves-folded.result (lit≤ tt) (lit≤ tt) folded.within

pub sums-requires-clause-small_b : goal.sums-requires-clause-small_b
sums-requires-clause-small_b c =
    let back = row_of c.args.wt.now c.args.earlier.now c.args.start 4 32 (c.args.start + 32) c.pairs_of_8-back.result (omega arith) c.requires.scaled c.requires.words
    (omega arith) (omega arith) refl c.pairs_of_8-back.ensures in
    passed_within 33554432 1073741823 c.pairs_of_8-back.result (lit≤ tt) (lit≤ tt) back.within

pub returns : goal.returns
unfolding correlation_of
returns c =
    let front = row_of c.args.wt.now c.args.earlier.now c.args.start 8 0 c.args.start c.pairs_of_16-front.result (omega arith) c.requires.scaled c.requires.words
    (omega arith) (omega arith) (omega arith) c.pairs_of_16-front.ensures in
    let middle = row_of c.args.wt.now c.args.earlier.now c.args.start 8 16 (c.args.start + 16) c.pairs_of_16-middle.result (omega arith) c.requires.scaled c.requires.words
    (omega arith) (omega arith) refl c.pairs_of_16-middle.ensures in
    let back = row_of c.args.wt.now c.args.earlier.now c.args.start 4 32 (c.args.start + 32) c.pairs_of_8-back.result (omega arith) c.requires.scaled c.requires.words
    (omega arith) (omega arith) refl c.pairs_of_8-back.ensures in
    let added = added_of c.pairs_of_16-front.result c.pairs_of_16-middle.result c.sums_of_8-added.result front.long middle.long front.within middle.within
    c.sums_of_8-added.ensures in
    let folded = folded_of c.sums_of_8-added.result c.halves-folded.result added.long added.within c.halves-folded.ensures in
    let sums = sums_of c.args.wt.now c.args.earlier.now c.args.start c.pairs_of_16-front.result c.pairs_of_16-middle.result c.pairs_of_8-back.result c.sums_of_8-added.result
    c.halves-folded.result c.sums.result front middle back added folded c.sums.ensures in
    let lag : ℕ = 120 - c.args.start in
    let same : 120 - lag ≡ c.args.start = omega arith in
    let word = λ (j : ℕ). words_within (get_or c.args.earlier.now j (pos 0)) (c.requires.words j) in
    let terms = λ (k : ℕ). ap (λ s. product_at c.args.wt.now c.args.earlier.now s k *ℤ pos 2) (sym same) ∙
    doubled_term c.args.wt.now c.args.earlier.now lag k (omega arith) (omega arith) (omega arith) c.requires.scaled (λ b. word (120 - lag + k)) in
    let is = kept 167772160 c.sums.result (lit≤ tt) sums.within in
    record {
      length = ap length is ∙ sums.long;
      value = ap (λ z. z *ℤ pos 2) (ap (fold ◌+ℤ◌ (pos 0)) is ∙ sums.total) ∙
          doubled_sum (product_at c.args.wt.now c.args.earlier.now c.args.start)
          (λ k. l_mult_of (entry c.args.wt.now k) (sample_before c.args.earlier.now lag k)) terms (range_with_len 0 40) (pos 0) (pos 0) refl;
      small = subst (Each1 (Within 167772160)) (sym is) sums.within;
    }

use Rattle.std.proofs.Common.{◌≡◌, ℕ, ◌+◌, ◌-◌, ◌*◌, ◌<◌, ◌≤◌, ℤ, List, pos, ◌+ℤ◌, ◌*ℤ◌, unsigned_abs, length, get_or, fold, map, ap, sym, subst, ◌∙◌, arith}
use Rattle.std.proofs.Common.{lit≤, lit<, FitsSigned, w32, to_z, of_z}
use Rattle.std.specs.List.{range_with_len}
use Rattle.std.specs.Simd.Lanes.{Each1, chunk, zip2}
use Rattle.std.proofs.lemmas.Int.{ints}
use Rattle.std.proofs.lemmas.Simd.{Each1-weaker, Each1-get_or, length-zip2}
use Rattle.std.proofs.lemmas.List.{length-map}
use Rattle.trau_lanes.specs.Lanes.{sums_of_pairs}
use Rattle.trau_lanes.proofs.LaneDots.{Within, row, row_length, length_pairs, pairs_within, product_at, lanes_passed, eight_more}
use Rattle.fr_lpc.proofs.Energy.{plain_doubled}
use Rattle.fr_lpc.proofs.Dots.{AreSmall, samples_small, past_small, passed_within, row_within, row_passed, next_within, next_passed, is_plain, four_sum}
use Rattle.fr_lpc.proofs.autocorrelation.autocorrelation.Goals as goal

pub eight-requires-in-loop-block-clause-scaled : goal.eight-requires-in-loop-block-clause-scaled
eight-requires-in-loop-block-clause-scaled c = past_small c.args.s.now c.args.past.now c.told-past c.requires.scaled c.requires.zeros c.requires.samples

pub products-products-requires-clause-words_a : goal.products-products-requires-clause-words_a
products-products-requires-clause-words_a c =
    passed_within 32767 c.eight.result c.args.s.now (8 * c.loop-block.block) (omega arith) (samples_small c.args.s.now c.requires.scaled) c.eight.ensures

pub products-products-requires-clause-words_b : goal.products-products-requires-clause-words_b
products-products-requires-clause-words_b c =
    let past = past_small c.args.s.now c.args.past.now c.told-past c.requires.scaled c.requires.zeros c.requires.samples in
    passed_within 32768 c.eight-in-loop-block.result c.args.past.now (8 - c.args.k + 8 * c.loop-block.block) (omega arith) past c.eight-in-loop-block.ensures

pub neighbours-requires-clause-length : goal.neighbours-requires-clause-length
neighbours-requires-clause-length c =
    let small = samples_small c.args.s.now c.requires.scaled in
    let past = past_small c.args.s.now c.args.past.now c.told-past c.requires.scaled c.requires.zeros c.requires.samples in
    let i : ℕ = 8 * c.loop-block.block in
    let at : ℕ = 8 - c.args.k + 8 * c.loop-block.block in
    let is = row_passed c.args.s.now c.args.past.now c.eight.result c.eight-in-loop-block.result c.products-products.result i at small past c.eight.ensures
    c.eight-in-loop-block.ensures c.products-products.ensures in
    ap length is ∙ row_length c.args.s.now c.args.past.now i at (omega arith) (omega arith)

pub neighbours-requires-clause-small : goal.neighbours-requires-clause-small
neighbours-requires-clause-small c =
    let small = samples_small c.args.s.now c.requires.scaled in
    let past = past_small c.args.s.now c.args.past.now c.told-past c.requires.scaled c.requires.zeros c.requires.samples in
    let i : ℕ = 8 * c.loop-block.block in
    let at : ℕ = 8 - c.args.k + 8 * c.loop-block.block in
    let is = row_passed c.args.s.now c.args.past.now c.eight.result c.eight-in-loop-block.result c.products-products.result i at small past c.eight.ensures
    c.eight-in-loop-block.ensures c.products-products.ensures in
    subst (Each1 (Within 1073741823)) (sym is)
    (Each1-weaker (Within 4194304) (Within 1073741823) (λ x h. omega arith) _ (row_within c.args.s.now c.args.past.now i at small past))

pub sums-halves-requires-clause-small_a : goal.sums-halves-requires-clause-small_a
sums-halves-requires-clause-small_a c =
    Each1-weaker (Within (8388608 * c.loop-block.block)) (Within 1073741823) (λ x h. omega arith) _ c.loop-block.invariant.small

-- the sums of pairs of eight products, as they are passed
pairs_given : (s past xs ys ps qs : List ℤ) (i at : ℕ) → AreSmall s → AreSmall past → xs ≡ chunk i 8 s → ys ≡ chunk at 8 past →
    ps ≡ zip2 ◌*ℤ◌ (map (to_z w32) (map (of_z w32) xs)) (map (to_z w32) (map (of_z w32) ys)) → qs ≡ sums_of_pairs (map (to_z w32) (map (of_z w32) ps)) →
    (map (to_z w32) (map (of_z w32) qs) ≡ sums_of_pairs (row s past i at)) × Each1 (Within 8388608) (sums_of_pairs (row s past i at))
pairs_given s past xs ys ps qs i at a b ex ey ep eq =
    let within = pairs_within 4194304 _ (row_within s past i at a b) in
    (lanes_passed 8388608 qs (sums_of_pairs (row s past i at)) (lit≤ tt) within (eq ∙ ap sums_of_pairs (row_passed s past xs ys ps i at a b ex ey ep)), within)

pub sums-halves-requires-clause-small_b : goal.sums-halves-requires-clause-small_b
sums-halves-requires-clause-small_b c =
    let small = samples_small c.args.s.now c.requires.scaled in
    let past = past_small c.args.s.now c.args.past.now c.told-past c.requires.scaled c.requires.zeros c.requires.samples in
    let given = pairs_given c.args.s.now c.args.past.now c.eight.result c.eight-in-loop-block.result c.products-products.result c.neighbours.result
    (8 * c.loop-block.block) (8 - c.args.k + 8 * c.loop-block.block)
    small past c.eight.ensures c.eight-in-loop-block.ensures c.products-products.ensures c.neighbours.ensures in
    subst (Each1 (Within 1073741823)) (sym given.0) (Each1-weaker (Within 8388608) (Within 1073741823) (λ x h. omega arith) _ given.1)

pub loop-block-preserved : goal.loop-block-preserved
loop-block-preserved c =
    let small = samples_small c.args.s.now c.requires.scaled in
    let past = past_small c.args.s.now c.args.past.now c.told-past c.requires.scaled c.requires.zeros c.requires.samples in
    let i : ℕ = 8 * c.loop-block.block in
    let at : ℕ = 8 - c.args.k + 8 * c.loop-block.block in
    let given = pairs_given c.args.s.now c.args.past.now c.eight.result c.eight-in-loop-block.result c.products-products.result c.neighbours.result i at
    small past c.eight.ensures c.eight-in-loop-block.ensures c.products-products.ensures c.neighbours.ensures in
    let sums = map (to_z w32) c.loop-block.halves in
    let added = sums_of_pairs (row c.args.s.now c.args.past.now i at) in
    let long = length_pairs (row c.args.s.now c.args.past.now i at) (row_length c.args.s.now c.args.past.now i at (omega arith) (omega arith)) in
    let next = next_passed c.loop-block.block sums added _ c.sums-halves.result c.loop-block-test.true c.loop-block.invariant.small given.1 given.0
    c.sums-halves.ensures in
    let four : length sums ≡ 4 = simp length-map c.loop-block.invariant.length_is in
    let place : 8 * c.loop-block.block + 8 ≡ 8 * (c.loop-block.block + 1) = omega arith in
    record {
      length_is = simp length-map (simp length-map at (ap length next) ∙ length-zip2 ◌+ℤ◌ sums added (four ∙ sym long) ∙ four);
      value = ap (fold ◌+ℤ◌ (pos 0)) next ∙
          eight_more c.args.s.now c.args.past.now sums (8 - c.args.k) i four (omega arith) (omega arith) c.loop-block.invariant.value ∙
          ap (λ n. fold ◌+ℤ◌ (pos 0) (map (product_at c.args.s.now c.args.past.now (8 - c.args.k)) (range_with_len 0 n))) place;
      small = subst (Each1 (Within (8388608 * (c.loop-block.block + 1)))) (sym next)
          (next_within c.loop-block.block sums added c.loop-block.invariant.small given.1);
    }

-- a lane of the sums
lane : (halves : List ℕ) (n : ℕ) (j : ℕ) → n ≤ 20 → length halves ≡ 4 → j < 4 → Each1 (Within (8388608 * n)) (map (to_z w32) halves) →
    Within 167772160 (get_or (map (to_z w32) halves) j (pos 0))
lane halves n j l e b h =
    let long = length-map halves (to_z w32) ∙ e in
    let at = Each1-get_or (Within (8388608 * n)) (map (to_z w32) halves) j (pos 0) (omega arith) h in
    omega arith

-- four lanes, added one after the other
abbrev kept : ℤ → ℤ
kept x = to_z w32 (of_z w32 x)

three : (a b d : ℤ) → Within 167772160 a → Within 167772160 b → Within 167772160 d → FitsSigned w32 (kept (kept a +ℤ kept b) +ℤ kept d)
three a b d la lb ld = omega (arith, ints)

four : (a b d e : ℤ) → Within 167772160 a → Within 167772160 b → Within 167772160 d → Within 167772160 e →
    FitsSigned w32 (kept (kept (kept a +ℤ kept b) +ℤ kept d) +ℤ kept e)
four a b d e la lb ld le = omega (arith, ints)

twice : (a b d e : ℤ) → Within 167772160 a → Within 167772160 b → Within 167772160 d → Within 167772160 e →
    FitsSigned w32 (kept (kept (kept (kept a +ℤ kept b) +ℤ kept d) +ℤ kept e) *ℤ pos 2)
twice a b d e la lb ld le = omega (arith, ints)

whole : (a b d e : ℤ) → Within 167772160 a → Within 167772160 b → Within 167772160 d → Within 167772160 e →
    kept (kept (kept (kept (kept a +ℤ kept b) +ℤ kept d) +ℤ kept e) *ℤ pos 2) ≡ (a +ℤ b +ℤ d +ℤ e) *ℤ pos 2
whole a b d e la lb ld le =
    let one : kept a +ℤ kept b ≡ a +ℤ b = omega (arith, ints) in
    let two : kept (a +ℤ b) +ℤ kept d ≡ a +ℤ b +ℤ d = omega (arith, ints) in
    let last : kept (a +ℤ b +ℤ d) +ℤ kept e ≡ a +ℤ b +ℤ d +ℤ e = omega (arith, ints) in
    let double : kept (kept (a +ℤ b +ℤ d +ℤ e) *ℤ pos 2) ≡ (a +ℤ b +ℤ d +ℤ e) *ℤ pos 2 = omega (arith, ints) in
    ap (λ x. kept (kept (kept (kept x +ℤ kept d) +ℤ kept e) *ℤ pos 2)) one ∙ ap (λ x. kept (kept (kept x +ℤ kept e) *ℤ pos 2)) two ∙
    ap (λ x. kept (kept x *ℤ pos 2)) last ∙ double

small_whole : (a b d e : ℤ) → Within 167772160 a → Within 167772160 b → Within 167772160 d → Within 167772160 e →
    unsigned_abs ((a +ℤ b +ℤ d +ℤ e) *ℤ pos 2) ≤ 1342177280
small_whole a b d e la lb ld le = omega (arith, ints)

pub overflow_add-result-2 : goal.overflow_add-result-2
overflow_add-result-2 c =
    let l = lane c.loop-block.halves c.loop-block.block in
    let s = c.loop-block.invariant.small in
    let n = c.loop-block.invariant.length_is in
    three (get_or (map (to_z w32) c.loop-block.halves) 0 (pos 0)) (get_or (map (to_z w32) c.loop-block.halves) 1 (pos 0))
    (get_or (map (to_z w32) c.loop-block.halves) 2 (pos 0)) (l 0 (omega arith) n (lit< tt) s) (l 1 (omega arith) n (lit< tt) s)
    (l 2 (omega arith) n (lit< tt) s)

pub overflow_add-result-3 : goal.overflow_add-result-3
overflow_add-result-3 c =
    let l = lane c.loop-block.halves c.loop-block.block in
    let s = c.loop-block.invariant.small in
    let n = c.loop-block.invariant.length_is in
    four (get_or (map (to_z w32) c.loop-block.halves) 0 (pos 0)) (get_or (map (to_z w32) c.loop-block.halves) 1 (pos 0))
    (get_or (map (to_z w32) c.loop-block.halves) 2 (pos 0)) (get_or (map (to_z w32) c.loop-block.halves) 3 (pos 0)) (l 0 (omega arith) n (lit< tt) s)
    (l 1 (omega arith) n (lit< tt) s) (l 2 (omega arith) n (lit< tt) s) (l 3 (omega arith) n (lit< tt) s)

pub overflow_mul-result : goal.overflow_mul-result
overflow_mul-result c =
    let l = lane c.loop-block.halves c.loop-block.block in
    let s = c.loop-block.invariant.small in
    let n = c.loop-block.invariant.length_is in
    twice (get_or (map (to_z w32) c.loop-block.halves) 0 (pos 0)) (get_or (map (to_z w32) c.loop-block.halves) 1 (pos 0))
    (get_or (map (to_z w32) c.loop-block.halves) 2 (pos 0)) (get_or (map (to_z w32) c.loop-block.halves) 3 (pos 0)) (l 0 (omega arith) n (lit< tt) s)
    (l 1 (omega arith) n (lit< tt) s) (l 2 (omega arith) n (lit< tt) s) (l 3 (omega arith) n (lit< tt) s)

pub returns-clause-value : goal.returns-clause-value
returns-clause-value c =
    let l = lane c.loop-block.halves c.loop-block.block in
    let s = c.loop-block.invariant.small in
    let n = c.loop-block.invariant.length_is in
    let p = map (to_z w32) c.loop-block.halves in
    let last : 8 * c.loop-block.block ≡ 160 = omega arith in
    whole (get_or p 0 (pos 0)) (get_or p 1 (pos 0)) (get_or p 2 (pos 0)) (get_or p 3 (pos 0)) (l 0 (omega arith) n (lit< tt) s)
    (l 1 (omega arith) n (lit< tt) s) (l 2 (omega arith) n (lit< tt) s) (l 3 (omega arith) n (lit< tt) s) ∙
    ap (λ z. z *ℤ pos 2) (four_sum p (length-map c.loop-block.halves (to_z w32) ∙ n) ∙ c.loop-block.invariant.value ∙
    ap (λ m. fold ◌+ℤ◌ (pos 0) (map (product_at c.args.s.now c.args.past.now (8 - c.args.k)) (range_with_len 0 m))) last ∙
    is_plain c.args.s.now c.args.past.now c.args.k c.requires.lag c.requires.zeros c.requires.samples) ∙
    sym (plain_doubled c.args.s.now c.requires.scaled c.args.k)

pub returns-clause-bound : goal.returns-clause-bound
returns-clause-bound c =
    let l = lane c.loop-block.halves c.loop-block.block in
    let s = c.loop-block.invariant.small in
    let n = c.loop-block.invariant.length_is in
    let p = map (to_z w32) c.loop-block.halves in
    let is = whole (get_or p 0 (pos 0)) (get_or p 1 (pos 0)) (get_or p 2 (pos 0)) (get_or p 3 (pos 0)) (l 0 (omega arith) n (lit< tt) s)
    (l 1 (omega arith) n (lit< tt) s) (l 2 (omega arith) n (lit< tt) s) (l 3 (omega arith) n (lit< tt) s) in
    subst (λ z. unsigned_abs z ≤ 1342177280) (sym is)
    (small_whole (get_or p 0 (pos 0)) (get_or p 1 (pos 0)) (get_or p 2 (pos 0)) (get_or p 3 (pos 0)) (l 0 (omega arith) n (lit< tt) s)
    (l 1 (omega arith) n (lit< tt) s) (l 2 (omega arith) n (lit< tt) s) (l 3 (omega arith) n (lit< tt) s))

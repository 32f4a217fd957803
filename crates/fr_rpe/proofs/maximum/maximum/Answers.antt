use Rattle.std.proofs.Common.{◌≡◌, ℕ, ℤ, pos, List, fold, map, take, length, get_or, ap, sym, ◌∙◌, ◌+◌, ◌<◌, ◌≤◌, arith, rules, ◌≤ℤ◌, FitsSigned, to_z, w16}
use Rattle.std.specs.Int.{int_max}
use Rattle.std.specs.List.{All}
use Rattle.std.proofs.lemmas.Int.{ints, clamps, fold-int_max_bounds, to_z-of_z}
use Rattle.std.proofs.lemmas.List.{take_all, take-map, get_or-map, length-map}
use Rattle.std.proofs.lemmas.List.Sums.{fold_more}
use Rattle.trau_num.specs.Num.{abs_of}
use Rattle.fr_rpe.specs.Quantisation.{maximum_of}
use Rattle.fr_rpe.proofs.maximum.maximum.Goals as goal

whole : (m : ℤ) (xs : List ℤ) (i : ℕ) → length xs ≡ 13 → 13 ≤ i → m ≡ fold int_max (pos 0) (map abs_of (take i xs)) →
    m ≡ fold int_max (pos 0) (map abs_of xs)
whole m xs i l h e = e ∙ ap (λ ys. fold int_max (pos 0) (map abs_of ys)) (take_all i xs (omega arith))

none_greater : (m : ℤ) (xs : List ℤ) → m ≡ fold int_max (pos 0) (map abs_of xs) → All (λ x. abs_of x ≤ℤ m) xs
none_greater m xs e k d l =
    let h = (fold-int_max_bounds (pos 0) (map abs_of xs) m e).1 k (pos 0) (rw (length-map xs abs_of) l) in
    rw (get_or-map abs_of xs k d (pos 0) l) at h

pub returns-clause-value : goal.returns-clause-value
unfolding maximum_of
returns-clause-value c = whole _ c.args.pulses.now c.loop-i.i c.told-pulses c.loop-i-test.false c.loop-i.invariant

pub returns-clause-not_negative : goal.returns-clause-not_negative
returns-clause-not_negative c =
    (fold-int_max_bounds (pos 0) (map abs_of c.args.pulses.now) _
    (whole _ c.args.pulses.now c.loop-i.i c.told-pulses c.loop-i-test.false c.loop-i.invariant)).0

pub returns-clause-greatest : goal.returns-clause-greatest
returns-clause-greatest c =
    none_greater _ c.args.pulses.now (whole _ c.args.pulses.now c.loop-i.i c.told-pulses c.loop-i-test.false c.loop-i.invariant)

more : (m n : ℤ) (xs : List ℤ) (i : ℕ) → i < length xs → m ≡ fold int_max (pos 0) (map abs_of (take i xs)) → n ≡ int_max (abs_of (get_or xs i (pos 0))) m →
    n ≡ fold int_max (pos 0) (map abs_of (take (i + 1) xs))
more m n xs i l h e =
    let step = rw (take-map abs_of (i + 1) xs, take-map abs_of i xs, get_or-map abs_of xs i (pos 0) (pos 0) l)
    at (fold_more int_max (pos 0) (map abs_of xs) i (pos 0) (rw (length-map xs abs_of) l)) in
    let swapped : int_max (abs_of (get_or xs i (pos 0))) m ≡ int_max m (abs_of (get_or xs i (pos 0))) = omega (arith, ints, clamps) in
    e ∙ swapped ∙ ap (λ (a : ℤ). int_max a (abs_of (get_or xs i (pos 0)))) h ∙ sym step

pub loop-i-preserved : goal.loop-i-preserved
loop-i-preserved c =
    let most : FitsSigned w16 c.max-most.result = record { sfits = c.max-most.type_inv } in
    let magnitude : FitsSigned w16 c.abs16.result = record { sfits = c.abs16.type_inv } in
    let sample : FitsSigned w16 (get_or c.args.pulses.now c.loop-i.i (pos 0)) = search rules in
    let before = to_z w16 c.loop-i.most-bits in
    let absolute = simp to_z-of_z at c.abs16.ensures.value in
    let value = rw (to_z-of_z w16 _ magnitude, absolute) at c.max-most.ensures.value in
    rw (to_z-of_z w16 _ most) (more before _ c.args.pulses.now c.loop-i.i (omega arith) c.loop-i.invariant value)

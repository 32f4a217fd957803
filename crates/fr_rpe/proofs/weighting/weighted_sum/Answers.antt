use Rattle.std.proofs.Common.{◌≡◌, ℕ, ℤ, ◌+◌, pos, neg_ℤ, ◌+ℤ◌, ◌*ℤ◌, List, get_or, arith, FitsSigned, w32}
use Rattle.std.proofs.lemmas.Int.{to_z-of_z, ints}
use Rattle.fr_rpe.specs.Weighting.{weighted_sum}
use Rattle.fr_rpe.proofs.weighting.weighted_sum.Goals as goal

-- a tap of weight 0
no_tap : (a x : ℤ) → a +ℤ pos 0 *ℤ x ≡ a
no_tap a x = omega (arith, ints)

-- the nine taps, four and five
is_sum : (k : ℕ) (xs : List ℤ) (s r : ℤ) →
    s ≡ pos 4096 +ℤ neg_ℤ (pos 134) *ℤ get_or xs k (pos 0) +ℤ neg_ℤ (pos 374) *ℤ get_or xs (k + 1) (pos 0)
    +ℤ pos 2054 *ℤ get_or xs (k + 3) (pos 0) +ℤ pos 5741 *ℤ get_or xs (k + 4) (pos 0) →
    r ≡ s +ℤ pos 8192 *ℤ get_or xs (k + 5) (pos 0) +ℤ pos 5741 *ℤ get_or xs (k + 6) (pos 0) +ℤ pos 2054 *ℤ get_or xs (k + 7) (pos 0)
    +ℤ neg_ℤ (pos 374) *ℤ get_or xs (k + 9) (pos 0) +ℤ neg_ℤ (pos 134) *ℤ get_or xs (k + 10) (pos 0) →
    r ≡ weighted_sum xs k
unfolding weighted_sum
is_sum k xs s r four five =
    let z : k + 0 ≡ k = omega arith in
    let low = no_tap (pos 4096 +ℤ neg_ℤ (pos 134) *ℤ get_or xs k (pos 0) +ℤ neg_ℤ (pos 374) *ℤ get_or xs (k + 1) (pos 0)) (get_or xs (k + 2) (pos 0)) in
    let high = no_tap (s +ℤ pos 8192 *ℤ get_or xs (k + 5) (pos 0) +ℤ pos 5741 *ℤ get_or xs (k + 6) (pos 0) +ℤ pos 2054 *ℤ get_or xs (k + 7) (pos 0))
    (get_or xs (k + 8) (pos 0)) in
    cc

pub plus_last_five-requires-clause-room : goal.plus_last_five-requires-clause-room
plus_last_five-requires-clause-room c =
    let f : FitsSigned w32 c.first_four.result = record { sfits = c.first_four.type_inv } in
    simp to_z-of_z c.first_four.ensures.bound

pub returns-clause-value : goal.returns-clause-value
returns-clause-value c =
    let f : FitsSigned w32 c.first_four.result = record { sfits = c.first_four.type_inv } in
    let g : FitsSigned w32 c.plus_last_five.result = record { sfits = c.plus_last_five.type_inv } in
    let five = simp to_z-of_z at c.plus_last_five.ensures.value in
    simp to_z-of_z (is_sum c.args.k c.args.padded.now _ _ c.first_four.ensures.value five)

use Rattle.std.proofs.Common.{◌≡◌, ℕ, ℤ, ◌+◌, ◌-◌, ◌≤◌, List, length, get_or, pos, ap, ◌∙◌, arith, rules, FitsSigned, w16}
use Rattle.std.proofs.lemmas.Int.{to_z-of_z}
use Rattle.trau_num.specs.Num.{add_of, mult_r_of}
use Rattle.trau_num.proofs.Fill.{fill_next, fill_all}
use Rattle.fr_long.specs.Gain.{gain_of}
use Rattle.fr_long.specs.Synthesis.{sample_before, residual_after}
use Rattle.fr_long.proofs.decoder.reconstructed.Goals as goal

-- what the code computes for sample k
is_sample : (earlier erp : List ℤ) (lag bc k : ℕ) (gain x : ℤ) → length earlier ≡ 120 → lag ≤ 120 → gain ≡ gain_of bc →
    x ≡ add_of (get_or erp k (pos 0)) (mult_r_of gain (get_or earlier (120 - lag + k) (pos 0))) →
    x ≡ add_of (get_or erp k (pos 0)) (mult_r_of (gain_of bc) (sample_before earlier lag k))
is_sample earlier erp lag bc k gain x l h g e =
    let place : 120 - lag + k ≡ length earlier + k - lag = omega arith in
    e ∙ ap (λ a. add_of (get_or erp k (pos 0)) (mult_r_of a (get_or earlier (120 - lag + k) (pos 0)))) g ∙
    ap (λ i. add_of (get_or erp k (pos 0)) (mult_r_of (gain_of bc) (get_or earlier i (pos 0)))) place

pub loop-k-preserved : goal.loop-k-preserved
loop-k-preserved c =
    let new : FitsSigned w16 c.plus.result = search rules in
    let gain : FitsSigned w16 c.quantised_gain-gain.result = search rules in
    let pulse : FitsSigned w16 (get_or c.args.erp.now c.loop-k.k (pos 0)) = search rules in
    let before : FitsSigned w16 (get_or c.args.earlier.now (120 - c.args.lag + c.loop-k.k) (pos 0)) = search rules in
    let e = simp to_z-of_z at c.plus.ensures in
    fill_next (pos 0) _ c.loop-k.drp 40 c.loop-k.k _ c.loop-k-test.true c.loop-k.invariant
    (simp to_z-of_z
    (is_sample c.args.earlier.now c.args.erp.now c.args.lag c.args.bc c.loop-k.k c.quantised_gain-gain.result c.plus.result c.told-earlier
    c.requires.at_most c.quantised_gain-gain.ensures.value e))

pub returns : goal.returns
unfolding residual_after
returns c = fill_all (pos 0) _ c.loop-k.drp 40 c.loop-k.k (omega arith) c.loop-k.invariant

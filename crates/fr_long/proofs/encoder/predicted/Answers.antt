use Rattle.std.proofs.Common.{◌≡◌, ◌+◌, ◌-◌, pos, arith, get_or, FitsSigned, w16, rules, length, ◌∙◌}
use Rattle.std.proofs.lemmas.Int.{to_z-of_z}
use Rattle.trau_num.specs.Num.{mult_r_of}
use Rattle.trau_num.proofs.Fill.{fill_all, fill_next}
use Rattle.fr_long.specs.Prediction.{predicted_of}
use Rattle.fr_long.proofs.encoder.predicted.Goals as goal

pub returns : goal.returns
unfolding predicted_of
returns c = fill_all (pos 0) _ c.loop-k.dpp 40 c.loop-k.k (omega arith) c.loop-k.invariant

pub loop-k-preserved : goal.loop-k-preserved
loop-k-preserved c =
    let fm : FitsSigned w16 c.mult_r.result = record { sfits = c.mult_r.type_inv } in
    let fg : FitsSigned w16 c.quantised_gain-gain.result = record { sfits = c.quantised_gain-gain.type_inv } in
    let n : length c.args.earlier.now ≡ 120 = c.told-earlier in
    let fe : FitsSigned w16 (get_or c.args.earlier.now (120 - c.args.nc + c.loop-k.k) (pos 0)) = search rules in
    let gain = c.quantised_gain-gain.ensures.value in
    let same = simp to_z-of_z at c.mult_r.ensures in
    let place : 120 - c.args.nc + c.loop-k.k ≡ length c.args.earlier.now + c.loop-k.k - c.args.nc = omega arith in
    fill_next (pos 0) _ c.loop-k.dpp 40 c.loop-k.k _ (omega arith) c.loop-k.invariant
    (simp to_z-of_z (same ∙ (λ i. mult_r_of (gain i) (get_or c.args.earlier.now (place i) (pos 0)))))

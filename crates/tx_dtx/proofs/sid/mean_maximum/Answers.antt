use Rattle.std.proofs.Common.{FitsSigned, ◌+ℤ◌, w16, w32, rules, ap, ◌∙◌}
use Rattle.std.proofs.lemmas.Int.{to_z-of_z}
use Rattle.trau_num.specs.Num.{floor_shr}
use Rattle.tx_dtx.specs.SilenceDescriptor.{mean_maximum}
use Rattle.tx_dtx.proofs.Means.{four_sums}
use Rattle.tx_dtx.proofs.sid.mean_maximum.Goals as goal

pub returns-clause-value : goal.returns-clause-value
unfolding mean_maximum
returns-clause-value c =
    let fa : FitsSigned w32 c.maxima.result = search rules in
    let fb : FitsSigned w32 c.maxima-2.result = search rules in
    let fc : FitsSigned w32 c.maxima-3.result = search rules in
    let fd : FitsSigned w32 c.maxima-4.result = search rules in
    let fx : FitsSigned w32 (c.maxima.result +ℤ c.maxima-2.result) = search rules in
    let fy : FitsSigned w32 (c.maxima-3.result +ℤ c.maxima-4.result) = search rules in
    let f : FitsSigned w32 ((c.maxima.result +ℤ c.maxima-2.result) +ℤ (c.maxima-3.result +ℤ c.maxima-4.result)) = search rules in
    let fq : FitsSigned w16 c.sixteenth.result = search rules in
    let q = simp to_z-of_z at c.sixteenth.ensures.value in
    to_z-of_z w16 _ fq ∙ q ∙
    ap (λ z. floor_shr z 4) (four_sums _ _ _ _ _ _ _ _ c.maxima.ensures.value c.maxima-2.ensures.value c.maxima-3.ensures.value c.maxima-4.ensures.value)

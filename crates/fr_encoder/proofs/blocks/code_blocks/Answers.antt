use Rattle.std.proofs.Common.{rules, sym, ap, ◌≡◌, ℤ, pos, ◌≤ℤ◌, ◌∷◌, [], FitsSigned, w16, to_z, of_z}
use Rattle.std.proofs.lemmas.Int.{to_z-of_z}
use Rattle.trau_params.proofs.Four.{all_four}
use Rattle.fr_encoder.specs.Blocks.{block_fields}
use Rattle.fr_encoder.specs.Coded.{codes_of}
use Rattle.fr_encoder.specs.Step.{next_blocks}
use Rattle.fr_encoder.proofs.Coding.{four_steps, four_histories}
use Rattle.fr_encoder.proofs.blocks.code_blocks.Goals as goal

steps : (c : goal.After-struct_told-4-1) →
    next_blocks c.args.history.now c.args.d.now ≡ (
      codes_of c.code_block-first.result ∷ codes_of c.code_block-second.result ∷ codes_of c.code_block-third.result ∷ codes_of c.code_block-fourth.result ∷ [],
      c.code_block-fourth.new.history,
    )
steps c =
    four_steps c.args.d.now _ _ _ _ _ _ _ _ _ _ _ _ _ c.block_at.ensures c.block_at-2.ensures c.block_at-3.ensures c.block_at-4.ensures
    c.code_block-first.ensures.step c.code_block-second.ensures.step c.code_block-third.ensures.step c.code_block-fourth.ensures.step

pub returns-clause-fields : goal.returns-clause-fields
returns-clause-fields c =
    let f0 : FitsSigned w16 c.code_block-first.result.xmax = search rules in
    let f1 : FitsSigned w16 c.code_block-second.result.xmax = search rules in
    let f2 : FitsSigned w16 c.code_block-third.result.xmax = search rules in
    let f3 : FitsSigned w16 c.code_block-fourth.result.xmax = search rules in
    let p = c.of_blocks-params.ensures in
    simp to_z-of_z (rw (p.nc, p.bc, p.mc, p.xmaxc, p.xmc) (ap (λ x. block_fields x.0) (sym (steps c))))

pub returns-clause-step : goal.returns-clause-step
returns-clause-step c = ap (λ x. x.1) (sym (steps c))

pub returns-clause-history : goal.returns-clause-history
returns-clause-history c =
    let f0 : FitsSigned w16 c.code_block-first.result.xmax = search rules in
    let f1 : FitsSigned w16 c.code_block-second.result.xmax = search rules in
    let f2 : FitsSigned w16 c.code_block-third.result.xmax = search rules in
    let f3 : FitsSigned w16 c.code_block-fourth.result.xmax = search rules in
    let p = c.of_blocks-params.ensures in
    simp to_z-of_z (rw (p.nc, p.bc, p.mc, p.xmaxc, p.xmc)
    (λ past stands.
    let all = four_histories c.args.d.now _ _ _ _ _ _ _ _ _ _ _ _ _ c.block_at.ensures c.block_at-2.ensures c.block_at-3.ensures c.block_at-4.ensures
    c.code_block-first.ensures.history c.code_block-second.ensures.history c.code_block-third.ensures.history c.code_block-fourth.ensures.history past stands in
    (all.0, ap block_fields all.1)))

kept : (x : ℤ) → FitsSigned w16 x → pos 0 ≤ℤ x → pos 0 ≤ℤ to_z w16 (of_z w16 x)
kept x f h = rw (to_z-of_z w16 x f) h

pub returns-clause-maxima : goal.returns-clause-maxima
returns-clause-maxima c =
    let f0 : FitsSigned w16 c.code_block-first.result.xmax = search rules in
    let f1 : FitsSigned w16 c.code_block-second.result.xmax = search rules in
    let f2 : FitsSigned w16 c.code_block-third.result.xmax = search rules in
    let f3 : FitsSigned w16 c.code_block-fourth.result.xmax = search rules in
    all_four (λ x. pos 0 ≤ℤ x) _ _ _ _ (kept _ f0 c.code_block-first.result.xmax_not_negative) (kept _ f1 c.code_block-second.result.xmax_not_negative)
    (kept _ f2 c.code_block-third.result.xmax_not_negative) (kept _ f3 c.code_block-fourth.result.xmax_not_negative)

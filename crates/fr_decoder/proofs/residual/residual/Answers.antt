use Rattle.std.proofs.Common.{◌∙◌, sym, ap}
use Rattle.trau_params.specs.Fields.{fields_of}
use Rattle.fr_decoder.proofs.Frames.{four_put, four_steps, four_histories}
use Rattle.fr_decoder.proofs.residual.residual.Goals as goal

pub returns-clause-step : goal.returns-clause-step
returns-clause-step c =
    let whole = four_put c.put.new.frame c.put-2.new.frame c.put-3.new.frame c.put-4.new.frame _ _ _ _ c.put-4.array_long c.put.ensures c.put-2.ensures
    c.put-3.ensures c.put-4.ensures in
    let steps = four_steps (fields_of c.args.p.now) _ _ _ _ _ _ _ _ _ c.block_residual.ensures.step c.block_residual-2.ensures.step
    c.block_residual-3.ensures.step c.block_residual-4.ensures.step in
    steps ∙ ap (λ l. (l, c.block_residual-4.new.long_term)) (sym whole)

pub returns-clause-history : goal.returns-clause-history
returns-clause-history c = λ past stands.
    let whole = four_put c.put.new.frame c.put-2.new.frame c.put-3.new.frame c.put-4.new.frame _ _ _ _ c.put-4.array_long c.put.ensures c.put-2.ensures
    c.put-3.ensures c.put-4.ensures in
    let all = four_histories (fields_of c.args.p.now) _ _ _ _ _ _ _ _ _ c.block_residual.ensures.history c.block_residual-2.ensures.history
    c.block_residual-3.ensures.history c.block_residual-4.ensures.history past stands in
    (all.0, whole ∙ all.1)

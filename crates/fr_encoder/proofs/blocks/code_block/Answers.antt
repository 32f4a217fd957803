use Rattle.std.proofs.Common.{rules, FitsSigned, w16}
use Rattle.std.proofs.lemmas.Int.{to_z-of_z}
use Rattle.fr_long.specs.Prediction.{fields_of_ltp}
use Rattle.fr_encoder.proofs.Coding.{one_step, one_history}
use Rattle.fr_encoder.proofs.blocks.code_block.Goals as goal

pub returns-clause-step : goal.returns-clause-step
returns-clause-step c =
    let f : FitsSigned w16 c.encode_block-rpe.result.xmax = search rules in
    let rpe = c.encode_block-rpe.ensures in
    simp to_z-of_z (one_step c.args.d.now c.args.history.now c.update.new.self
    (fields_of_ltp c.predict-ltp.result) c.encode_block-rpe.result.mc c.encode_block-rpe.result.xmaxc c.encode_block-rpe.result.xmc
    c.encode_block-rpe.result.xmax
    c.encode_block-rpe.result.ep c.predict-ltp.ensures.step rpe.mc rpe.xmaxc rpe.xmc rpe.xmax rpe.ep c.update.ensures.step)

pub returns-clause-history : goal.returns-clause-history
returns-clause-history c =
    let f : FitsSigned w16 c.encode_block-rpe.result.xmax = search rules in
    let rpe = c.encode_block-rpe.ensures in
    simp to_z-of_z (λ past stands. one_history c.args.d.now past c.update.new.self
    (fields_of_ltp c.predict-ltp.result) c.encode_block-rpe.result.mc c.encode_block-rpe.result.xmaxc c.encode_block-rpe.result.xmc
    c.encode_block-rpe.result.xmax
    c.encode_block-rpe.result.ep ((c.predict-ltp.ensures.history past stands).0) rpe.mc rpe.xmaxc rpe.xmc rpe.xmax rpe.ep
    (c.update.ensures.history past stands))

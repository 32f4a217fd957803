use Rattle.std.proofs.Common.{rules, FitsSigned, w16}
use Rattle.std.proofs.lemmas.Int.{to_z-of_z}
use Rattle.fr_encoder.specs.Coded.{fields_of_blocks}
use Rattle.fr_encoder.specs.Encoded.{sample_frames, reconstructed}
use Rattle.fr_encoder.proofs.Frames.{one_step, one_history}
use Rattle.fr_encoder.proofs.encoder.Encoder.encode.Goals as goal

pub returns-clause-step : goal.returns-clause-step
returns-clause-step c =
    let f : FitsSigned w16 c.peak-peak.result = search rules in
    let blocks = c.code_blocks.ensures in
    let lpc = c.analyse-lpc.ensures in
    simp to_z-of_z (rw (← c.self.view_is, blocks.larc)
    (one_step _ c.args.x.now c.preprocess.new.s c.analyse-lpc.new.s c.analyse_frame.new.s _ _ _ c.analyse-lpc.result.larc c.analyse-lpc.result.lar
    (fields_of_blocks c.code_blocks.result.0 c.code_blocks.result.1) c.peak-peak.result c.preprocess.ensures.step c.peak-peak.ensures.value lpc.samples lpc.lar
    lpc.larc
    c.analyse_frame.ensures.residual c.analyse_frame.ensures.memory blocks.fields blocks.step))

pub returns-clause-history : goal.returns-clause-history
returns-clause-history c =
    let f : FitsSigned w16 c.peak-peak.result = search rules in
    let blocks = c.code_blocks.ensures in
    let lpc = c.analyse-lpc.ensures in
    simp to_z-of_z (rw (← c.self.view_is, blocks.larc)
    (λ past stands. one_history c.args.x.now c.preprocess.new.s c.analyse-lpc.new.s c.analyse_frame.new.s past _ _ _ c.analyse-lpc.result.larc
    c.analyse-lpc.result.lar (fields_of_blocks c.code_blocks.result.0 c.code_blocks.result.1) c.peak-peak.result
    (c.preprocess.ensures.history past stands.preprocessing)
    c.peak-peak.ensures.value lpc.samples lpc.lar lpc.larc (c.analyse_frame.ensures.history (sample_frames past) stands.short_term)
    (blocks.history (reconstructed past) stands.long_term)))

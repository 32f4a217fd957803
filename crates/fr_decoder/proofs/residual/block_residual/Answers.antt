use Rattle.fr_decoder.specs.Blocks.{ltp_block}
use Rattle.fr_decoder.proofs.residual.block_residual.Goals as goal

pub returns-clause-step : goal.returns-clause-step
unfolding ltp_block
returns-clause-step c = rw (← c.decode_block-erp.ensures) c.synth.ensures.step

pub returns-clause-history : goal.returns-clause-history
unfolding ltp_block
returns-clause-history c = rw (← c.decode_block-erp.ensures) c.synth.ensures.history

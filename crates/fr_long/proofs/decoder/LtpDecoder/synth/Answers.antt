use Rattle.fr_long.specs.Synthesis.{block}
use Rattle.fr_long.proofs.Histories.{one_more}
use Rattle.fr_long.proofs.decoder.LtpDecoder.synth.Goals as goal

pub returns-clause-history : goal.returns-clause-history
returns-clause-history c =
    rw (← c.self.view_is, c.remember.ensures)
    (λ past h. one_more past (block c.args.nc c.args.bc c.args.erp.now) _ c.usable_lag-self-inside.result c.reconstructed-residual.result h
    c.usable_lag-self-inside.ensures.value c.reconstructed-residual.ensures)

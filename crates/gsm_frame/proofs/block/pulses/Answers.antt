use Rattle.gsm_frame.proofs.Fit.{fit_thirteen}
use Rattle.gsm_frame.proofs.block.pulses.Goals as goal

pub returns-clause-fit : goal.returns-clause-fit
returns-clause-fit c = fit_thirteen _ _ _ _ _ _ _ _ _ _ _ _ _
    c.split-rest-13.ensures.digit c.split-rest-12.ensures.digit c.split-rest-11.ensures.digit c.split-rest-10.ensures.digit
    c.split-rest-9.ensures.digit c.split-rest-8.ensures.digit c.split-rest-7.ensures.digit c.split-rest-6.ensures.digit
    c.split-rest-5.ensures.digit c.split-rest-4.ensures.digit c.split-rest-3.ensures.digit c.split-rest-2.ensures.digit
    c.split-rest.ensures.digit

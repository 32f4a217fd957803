use Rattle.std.proofs.Common.{◌∙◌, arith}
use Rattle.std.proofs.lemmas.List.{length-set}
use Rattle.farm_rounds.specs.declared.tally.Tally.{Tally}
use Rattle.farm_run.specs.Facts.{kept_in}
use Rattle.farm_run.proofs.Reported.Reporting.{kept_value, table_more}
use Rattle.farm_run.proofs.report.sent_by_all.Goals as goal

pub loop-call-preserved : goal.loop-call-preserved
loop-call-preserved c =
    let farm = c.args.farm.now in
    let xs = c.loop-call.sent.items in
    let i = c.loop-call.call in
    let inv = c.loop-call.invariant in
    record {
      long = length-set xs i c.sent.result ∙ inv.long;
      sent = λ h g.
          table_more (λ d. (kept_in farm.tallies h d).sent) xs i c.sent.result (omega (arith, inv.long, c.loop-call-test.true, c.loop-call.auto.call-end))
          (kept_value (λ (t : Tally). t.sent) h farm.calls farm.tallies i c.sent.result g (λ x. c.sent.ensures.live h x g) c.sent.ensures.ended) (inv.sent h g);
    }

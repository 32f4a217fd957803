use Rattle.std.proofs.Common.{refl, ap, ℕ, length}
use Rattle.trau_io.specs.declared.line.Side.{Side}
use Rattle.trau_io.specs.Lines.{LineState}
use Rattle.farm_run.specs.declared.outgoing.Outgoing.TheVariants.{Written}
use Rattle.farm_run.proofs.Lines.Cutting.{on_err, cut_first}
use Rattle.farm_run.proofs.Clocks.Reaching.{gone_first, gone_more, wrote_first}
use Rattle.farm_run.proofs.Marked.Resumption.{part_cut}
use Rattle.farm_run.proofs.Marked.Parts.{ok_then, err_then}
use Rattle.farm_run.proofs.Lines.Telling.{runs_told}
use Rattle.farm_run.proofs.running.run.Goals as goal

pub returns-in_err-first-clause-cut : goal.returns-in_err-first-clause-cut
returns-in_err-first-clause-cut g c = on_err _ (cut_first c.args.orders c.args.pace.now.batch c.args.pace.now.periods (g.T.Trunk.lines c.args.trunk.now))

pub returns-clause-runs : goal.returns-clause-runs
returns-clause-runs g c =
    let os = c.args.orders in
    let batch = c.args.pace.now.batch in
    let first : ℕ → Side → LineState = g.T.Trunk.lines c.args.trunk.now in
    let now : ℕ → Side → LineState = g.T.Trunk.lines c.run_to_end.new.trunk in
    let s = c.in_ok-first.first in
    let f = c.in_ok-first.ensures in
    ok_then c.run_to_end.result c.run_to_end.ensures.ends (λ report x.
    runs_told os c.args.pace.now first now x.last _ report (gone_more os batch first first now s x.last (gone_first os batch Written s first f) x.reaches) x.clock
    (wrote_first os batch Written s x.last first now f refl x.reaches) x.failed (ap length c.list-count.ensures.value) x.reports)

pub returns-clause-cut : goal.returns-clause-cut
returns-clause-cut g c =
    err_then c.run_to_end.result c.run_to_end.ensures.cut
    (part_cut c.args.orders c.args.pace.now.batch c.args.pace.now.periods Written c.in_ok-first.first (g.T.Trunk.lines c.args.trunk.now)
    (g.T.Trunk.lines c.run_to_end.new.trunk) c.in_ok-first.ensures refl)

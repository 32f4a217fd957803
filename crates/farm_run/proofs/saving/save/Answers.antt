use Rattle.std.proofs.Common.{refl, ap, ℕ, ◌≤◌, arith}
use Rattle.trau_io.specs.declared.line.Side.{Side}
use Rattle.trau_io.specs.Lines.{LineState}
use Rattle.farm_run.specs.declared.outgoing.Outgoing.TheVariants.{Summed}
use Rattle.farm_run.specs.declared.stage.Stage.{Stage}
use Rattle.farm_run.specs.Stages.{Reaches}
use Rattle.farm_run.proofs.Lines.Cutting.{on_err, cut_first}
use Rattle.farm_run.proofs.Clocks.Reaching.{gone_first, gone_more, wrote_first, summed_first}
use Rattle.farm_run.proofs.Marked.Resumption.{part_cut}
use Rattle.farm_run.proofs.Marked.Parts.{ok_then, part_short}
use Rattle.farm_run.proofs.Lines.Telling.{saves_told}
use Rattle.farm_run.proofs.Noted.Openings.{opened_none}
use Rattle.farm_run.proofs.saving.save.Goals as goal

pub returns-in_err-new-clause-cut : goal.returns-in_err-new-clause-cut
returns-in_err-new-clause-cut g c = on_err _ (cut_first c.args.orders c.args.pace.now.batch c.args.pace.now.periods (g.T.Trunk.lines c.args.trunk.now))

pub returns-in_err-last-clause-cut : goal.returns-in_err-last-clause-cut
returns-in_err-last-clause-cut g c =
    on_err _ (part_short c.args.orders c.args.pace.now.batch c.args.pace.now.periods (Summed c.in_ok-new.field-0) (g.T.Trunk.lines c.args.trunk.now)
    (g.T.Trunk.lines c.run_to.new.trunk) refl c.in_err-last.ensures.cut)

pub returns-clause-saves : goal.returns-clause-saves
returns-clause-saves g c =
    let os = c.args.orders in
    let batch = c.args.pace.now.batch in
    let first : ℕ → Side → LineState = g.T.Trunk.lines c.args.trunk.now in
    let now : ℕ → Side → LineState = g.T.Trunk.lines c.run_to.new.trunk in
    let u = c.in_ok-last.last in
    let x = c.in_ok-last.ensures.comes in
    let s = x.first in
    let f = x.is_first in
    let h = x.reaches in
    ok_then c.keep.result c.keep.ensures (λ saved kept.
    saves_told os c.args.pace.now first now u saved (gone_more os batch first first now s u (gone_first os batch (Summed c.in_ok-new.field-0) s first f) h)
    x.clock
    (wrote_first os batch (Summed c.in_ok-new.field-0) s u first now f refl h)
    (summed_first os batch (Summed c.in_ok-new.field-0) s u first now f refl (λ d side. ap (λ (sums : ℕ → Side → ℕ). sums d side) c.in_ok-new.ensures) h)
    kept.failed kept.period kept.calls kept.live kept.rising
    (h.openings c.args.pace.now.periods (omega (arith, x.clock))
    (opened_none c.args.pace.now.periods s.board.done f.none_done c.requires.periods)))

pub returns-clause-cut : goal.returns-clause-cut
returns-clause-cut g c =
    let x = c.in_ok-last.ensures.comes in
    let after : (after : Stage) × (after.clock ≤ c.args.pace.now.periods)
    × Reaches c.args.pace.now.batch x.first after (g.T.Trunk.lines c.args.trunk.now) (g.T.Trunk.lines c.run_to.new.trunk) =
    (c.in_ok-last.last, omega (arith, x.clock), x.reaches) in
    on_err _ (part_cut c.args.orders c.args.pace.now.batch c.args.pace.now.periods (Summed c.in_ok-new.field-0) x.first
    (g.T.Trunk.lines c.args.trunk.now) (g.T.Trunk.lines c.run_to.new.trunk) x.is_first refl after)

pub returns-clause-sides : goal.returns-clause-sides
returns-clause-sides g c = c.run_to.ensures.sides

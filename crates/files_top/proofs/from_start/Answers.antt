use Rattle.std.proofs.Common.{ap, sym}
use Rattle.trau_files.specs.Contents.{contents_if, first_if}
use Rattle.trau_files.specs.Trunk.{TrunkFiles}
use Rattle.farm_top.specs.Words.{spelled}
use Rattle.files_top.proofs.Leaving.{of_lines, on_disk}
use Rattle.files_top.proofs.from_start.Goals as goal

pub returns-clause-top : goal.returns-clause-top
returns-clause-top g c =
    let top = c.farm_top-status.ensures in
    of_lines (spelled c.args.words.now) (contents_if g.D.Folder.honest g.K.AtStart.start c.in_ok-lines.lines) (first_if g.D.Folder.honest g.K.AtStart.start)
    (contents_if g.D.Folder.honest g.K.AtStart.start c.farm_top-status.new.trunk) (contents_if g.D.Folder.honest g.K.AtStart.start c.into_trunk.result)
    (g.S.Desk.desk c.args.desk.now) (g.S.Desk.desk c.farm_top-status.new.desk) c.farm_top-status.result c.in_ok-lines.ensures.lines
    (ap (λ (t : TrunkFiles _ _). contents_if g.D.Folder.honest g.K.AtStart.start t) (sym c.into_trunk.ensures.same))
    (record {
      usage = top.usage;
      usage_only = top.usage_only;
      usage_text = top.usage_text;
      unused = top.unused;
      run = top.run;
      save = top.save;
      resume = top.resume;
      drill = top.drill;
      live = top.live;
      lines = top.lines;
    })

pub returns-clause-files : goal.returns-clause-files
returns-clause-files g c = on_disk g.D.Folder.honest g.K.AtStart.start c.into_trunk.result (spelled c.args.words.now) (g.S.Desk.desk c.args.desk.now)
    (g.S.Desk.desk c.farm_top-status.new.desk) c.farm_top-status.result c.into_trunk.ensures.knows (returns-clause-top g c)

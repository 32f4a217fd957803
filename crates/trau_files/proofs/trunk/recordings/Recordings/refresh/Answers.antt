use Rattle.std.proofs.Common.{List, Option, subst}
use Rattle.trau_files.specs.declared.trunk.claims.FileIdentity.{FileIdentity}
use Rattle.trau_files.specs.Recordings.{AreRecordings}
use Rattle.trau_files.proofs.Searching.{were_led}
use Rattle.trau_files.proofs.trunk.recordings.Recordings.refresh.Goals as goal

pub returns-then-not-self-clause-led : goal.returns-then-not-self-clause-led
returns-then-not-self-clause-led g c =
    were_led g.D.Folder.does c.args.folder.now c.args.is_new c.search-then-not-self.new.self c.if-is_new.false c.search-then-not-self.ensures.recordings

pub returns-else-not-self-clause-led : goal.returns-else-not-self-clause-led
returns-else-not-self-clause-led g c = were_led g.D.Folder.does c.args.folder.now c.args.is_new c.args.self.now c.if-is_new.false
    (subst (λ (files : List (Option FileIdentity)). AreRecordings g.D.Folder.does files) c.self.view_is c.self.invariant.1)

use Rattle.std.proofs.Common.{◌≡◌, ◌≢◌, ◌∙◌, ℕ, List, Option, Some, length, arith, subst, sym}
use Rattle.trau_files.specs.declared.trunk.claims.FileIdentity.{FileIdentity}
use Rattle.trau_files.specs.Recordings.{noted_at}
use Rattle.trau_files.proofs.Searching.{noted_nowhere}
use Rattle.trau_files.proofs.trunk.recordings.Recordings.position.Goals as goal

pub returns-clause-none : goal.returns-clause-none
returns-clause-none g c = λ none.
    let files = c.self.inside.of_lines.items in
    let size : length files ≡ 16388 = sym c.self.inside.of_lines.ok.0 ∙ c.self.invariant.0 in
    subst (λ (fs : List (Option FileIdentity)). (k : ℕ) → noted_at fs k ≢ Some c.args.file) c.self.view_is
    (noted_nowhere g.D.Folder.does files c.args.file c.loop-place.place (omega (arith, size, c.loop-place-test.false, c.loop-place.auto.place-end))
    c.loop-place.invariant)

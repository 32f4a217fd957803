use Rattle.std.proofs.Common.{◌≡◌, ◌∙◌, length, List, Option, None, IfSome, IsSome, arith, slice_set, sym, subst}
use Rattle.std.proofs.lemmas.List.{get_or_read_under}
use Rattle.trau_files.specs.Files.{OpenLine, OpenAfter, FileAfter, FileGives, in_bay}
use Rattle.trau_files.proofs.BayLaws.{in_its_bay, moved_after, bayed_moved}
use Rattle.trau_files.proofs.trunk.bays.Bays.read.Given as Given
use Rattle.trau_files.proofs.trunk.bays.Bays.read.Goals as goal
use Rattle.trau_files.proofs.trunk.bays.Bays.read.Goals.{After-index_mut}

count : (g : Given.Over) (c : After-index_mut g) → length c.self.inside.files.items ≡ 256
count g c = sym c.self.inside.files.ok.0 ∙ c.self.invariant.0

here : (g : Given.Over) (c : After-index_mut g) → in_bay c.self.inside.files.items c.args.bay ≡ c.index_mut.result.now
here g c =
    sym (get_or_read_under c.self.inside.files.items c.args.bay 256 c.index_mut.result.now None c.index_mut.ensures.value (omega (arith, c.ranges.bay.fits))
    (sym (count g c)))

pub invariant_of-self : goal.invariant_of-self
invariant_of-self g c =
    let before = (goal.at.invariant_of-self g c).After-index_mut in
    let files = c.self.inside.files.items in
    let some = subst (λ (bays : List (Option (OpenLine _))). IsSome (in_bay bays c.args.bay)) (sym c.self.view_is) c.requires in (
      c.self.invariant.0,
      c.self.invariant.1,
      bayed_moved files c.self.inside.bay_of.items c.args.bay c.index_mut.result.now c.read_in.new.bay c.read_in.result (here g before) some
          c.self.invariant.2 c.read_in.ensures.after,
    )

pub returns-clause-open : goal.returns-clause-open
returns-clause-open g c =
    let before = (goal.at.returns-clause-open g c).After-index_mut in
    let files = c.self.inside.files.items in
    let bay = c.args.bay in
    let moved = moved_after files c.self.inside.bay_of.items bay c.index_mut.result.now c.read_in.new.bay (here g before)
    (omega (arith, c.ranges.bay.fits, count g before)) c.self.invariant.2 in
    subst (λ (bays : List (Option (OpenLine _))). IfSome (in_bay bays bay)
    (λ o. OpenAfter bays (slice_set files bay c.read_in.new.bay) o.call o.side (in_bay (slice_set files bay c.read_in.new.bay) bay))) c.self.view_is moved

pub returns-clause-after : goal.returns-clause-after
returns-clause-after g c =
    let before = (goal.at.returns-clause-after g c).After-index_mut in
    let files = c.self.inside.files.items in
    let bay = c.args.bay in
    let P : OpenLine _ → Option (OpenLine _) → Type 0 = λ o file. FileAfter o c.read_in.result file in
    subst (λ (bays : List (Option (OpenLine _))). IfSome (in_bay bays bay)
    (λ o. FileAfter o c.read_in.result (in_bay (slice_set files bay c.read_in.new.bay) bay))) c.self.view_is
    (in_its_bay P files bay c.index_mut.result.now c.read_in.new.bay (here g before) (omega (arith, c.ranges.bay.fits, count g before)) c.read_in.ensures.after)

pub returns-clause-once : goal.returns-clause-once
returns-clause-once g c =
    let before = (goal.at.returns-clause-once g c).After-index_mut in
    let files = c.self.inside.files.items in
    let bay = c.args.bay in
    let P : OpenLine _ → Option (OpenLine _) → Type 0 = λ o file. FileGives g.D.Folder.does c.args.folder.now o file c.read_in.result c.read_in.new.buf in
    subst (λ (bays : List (Option (OpenLine _))). IfSome (in_bay bays bay)
    (λ o. FileGives g.D.Folder.does c.args.folder.now o (in_bay (slice_set files bay c.read_in.new.bay) bay) c.read_in.result c.read_in.new.buf)) c.self.view_is
    (in_its_bay P files bay c.index_mut.result.now c.read_in.new.bay (here g before) (omega (arith, c.ranges.bay.fits, count g before)) c.read_in.ensures.once)

use Rattle.std.proofs.Common.{◌≡◌, ◌∙◌, ap, length, List, Option, None, Some, arith, sym, subst, slice_set}
use Rattle.trau_io.specs.Indices.{index_of_line}
use Rattle.trau_files.specs.Files.{OpenLine, IsFileOf, OpenAfter, AreBayed, OthersSit, in_bay}
use Rattle.trau_files.proofs.BayLaws.{given_and_put, others_sit}
use Rattle.trau_files.proofs.trunk.bays.Bays.put.Given as Given
use Rattle.trau_files.proofs.trunk.bays.Bays.put.Goals as goal
use Rattle.trau_files.proofs.trunk.bays.Bays.put.Goals.{After-index_mut-2}

-- what putting the file gives
put : (g : Given.Over) (c : After-index_mut-2 g) → AreBayed (slice_set c.self.inside.files.items c.args.bay (Some c.args.file))
    (slice_set c.self.inside.bay_of.items c.line_index.result c.args.bay)
    × OpenAfter c.self.inside.files.items (slice_set c.self.inside.files.items c.args.bay (Some c.args.file)) c.args.file.call c.args.file.side
    (Some c.args.file)
    × (in_bay (slice_set c.self.inside.files.items c.args.bay (Some c.args.file)) c.args.bay ≡ Some c.args.file)
put g c =
    let files = c.self.inside.files.items in
    let bay_of = c.self.inside.bay_of.items in
    let file = c.args.file in
    let place : c.line_index.result ≡ index_of_line file.call file.side = c.line_index.ensures.value ∙ ap (λ (o : OpenLine _). index_of_line o.call o.side) c.file.view_is in
    let closed = subst (λ (bays : List (Option (OpenLine _))). IsFileOf bays file.call file.side None) (sym c.self.view_is) c.requires in
    let bays : length files ≡ 256 = sym c.self.inside.files.ok.0 ∙ c.self.invariant.0 in
    let places : length bay_of ≡ 16388 = sym c.self.inside.bay_of.ok.0 ∙ c.self.invariant.1 in
    given_and_put files bay_of file c.line_index.result c.args.bay place (omega (arith, places, c.line_index.ensures.within))
    (omega (arith, bays, c.ranges.bay.fits)) closed c.self.invariant.2

pub invariant_of-self : goal.invariant_of-self
invariant_of-self g c = (c.self.invariant.0, c.self.invariant.1, (put g (goal.at.invariant_of-self g c).After-index_mut-2).0)

pub returns : goal.returns
returns g c = record {
  there = (put g (goal.at.returns g c).After-index_mut-2).2;
  kept = subst (λ (bays : List (Option (OpenLine _))). OthersSit bays (slice_set c.self.inside.files.items c.args.bay (Some c.args.file)) c.args.bay) c.self.view_is
      (others_sit c.self.inside.files.items c.args.bay (Some c.args.file));
  «open» = subst (λ (bays : List (Option (OpenLine _))). OpenAfter bays
      (slice_set c.self.inside.files.items c.args.bay (Some c.args.file)) c.args.file.call c.args.file.side (Some c.args.file)) c.self.view_is
      (put g (goal.at.returns g c).After-index_mut-2).1;
}

use Rattle.std.proofs.Common.{◌≡◌, ◌∙◌, List, Option, None, ap, arith, inr, length, length-set, refl, slice_set, subst, sym}
use Rattle.trau_files.specs.Files.{OpenLine, OnlyCloses, OthersSit}
use Rattle.trau_files.proofs.BayLaws.{only_closes, others_sit, bayed_still, set_there}
use Rattle.trau_files.proofs.trunk.bays.Bays.free.Goals as goal

pub invariant_of-self : goal.invariant_of-self
invariant_of-self g c = (
  c.self.invariant.0,
  c.self.invariant.1,
  bayed_still c.self.inside.files.items c.args.bay None (inr refl) c.self.inside.bay_of.items c.self.invariant.2,
)

pub returns : goal.returns
returns g c =
    let files = c.self.inside.files.items in
    let next = c.args.bay in
    let count : length files ≡ 256 = sym c.self.inside.files.ok.0 ∙ c.self.invariant.0 in
    record {
      closed = set_there files next None None (omega (arith, count, c.ranges.bay.fits));
      freed = subst (λ (bays : List (Option (OpenLine _))). OthersSit bays (slice_set files next None) next) c.self.view_is (others_sit files next None);
      others = subst (λ (bays : List (Option (OpenLine _))). OnlyCloses bays (slice_set files next None)) c.self.view_is (only_closes files next None (inr refl));
      number = length-set files next None ∙ ap length c.self.view_is;
    }

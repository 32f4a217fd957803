-- For crates above: what is printed follows from all bits of the periods (`prints_all`).
use Rattle.std.proofs.Common.{◌++◌, length, ap}
use Rattle.std.specs.Prelude.{codes, decimal}
use Rattle.std.specs.List.{flat_map}
use Rattle.frame_sync.proofs.Order.{all_yields-are}
use Rattle.frame_sync.proofs.Unique.{same_yields}
use Rattle.frame_listing.specs.Machine.{PrintsAllYields}
use Rattle.frame_listing.specs.Texts.{line_of}

pub prints_all : PrintsAllYields
prints_all periods ys whole are =
    let same = same_yields _ _ _ (all_yields-are periods whole) are in
    record {
      lines = λ rest. ap (flat_map line_of) same;
      number = λ rest. ap (λ l. codes "frames " ++ (decimal (length l) ++ (codes " left " ++ (decimal (length rest) ++ codes "\n")))) same;
    }

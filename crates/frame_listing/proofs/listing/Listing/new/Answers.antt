use Rattle.std.proofs.Common.{arith}
use Rattle.frame_listing.proofs.Periods.{no_yields}
use Rattle.frame_listing.proofs.listing.Listing.new.Goals as goal

pub returns : goal.returns
returns c = record { search = c.new.ensures.history; yields_are = no_yields; at_most = omega arith }

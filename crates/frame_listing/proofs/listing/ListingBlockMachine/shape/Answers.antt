use Rattle.frame_listing.proofs.Periods.{frames_lawful}
use Rattle.frame_listing.proofs.listing.ListingBlockMachine.shape.Goals as goal

pub returns-clause-law : goal.returns-clause-law
returns-clause-law c = frames_lawful

use Rattle.frame_listing.proofs.Whole.{prints_all}
use Rattle.farm_tools.proofs.listing.frames.Goals as goal

pub returns-clause-never_refused : goal.returns-clause-never_refused
returns-clause-never_refused g c = c.run_command.ensures.never_refused (record { takes = λ block whole. tt; left = λ rest less. tt })

pub returns-clause-yields : goal.returns-clause-yields
returns-clause-yields g c = prints_all

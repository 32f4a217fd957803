use Rattle.trau_frame.proofs.UpAgain.{synced-up_bits, says-up_bits, same-up_bits}
use Rattle.trau_frame.proofs.laws.written_uplink_is_read.Goals as goal

pub returns-clause-synced : goal.returns-clause-synced
returns-clause-synced c = synced-up_bits

pub returns-clause-says : goal.returns-clause-says
returns-clause-says c = says-up_bits

pub returns-clause-same : goal.returns-clause-same
returns-clause-same c = same-up_bits

use Rattle.rtp_buffer.proofs.Pacing.{first_waits, follow_waits}
use Rattle.rtp_buffer.proofs.laws.depth_is_waited.Goals as goal

pub returns-clause-first : goal.returns-clause-first
returns-clause-first c = first_waits

pub returns-clause-followed : goal.returns-clause-followed
returns-clause-followed c = follow_waits

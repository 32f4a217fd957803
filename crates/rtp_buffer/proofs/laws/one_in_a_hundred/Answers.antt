use Rattle.rtp_buffer.proofs.Pacing.{rank_before, rank_within}
use Rattle.rtp_buffer.proofs.laws.one_in_a_hundred.Goals as goal

pub returns-clause-before : goal.returns-clause-before
returns-clause-before c = rank_before

pub returns-clause-within : goal.returns-clause-within
returns-clause-within c = rank_within

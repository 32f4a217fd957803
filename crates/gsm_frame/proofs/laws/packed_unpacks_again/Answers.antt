use Rattle.gsm_frame.proofs.laws.packed_unpacks_again.Goals as goal

pub returns-clause-same : goal.returns-clause-same
returns-clause-same c = c.one_frame.ensures c.pack-octets.result c.pack-octets.ensures.carried c.in_ok-again.ensures.carried

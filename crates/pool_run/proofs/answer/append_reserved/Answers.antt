use Rattle.pool_run.proofs.answer.append_reserved.Goals as goal

pub returns : goal.returns
returns g c = let e = c.in-Ok.ensures in record { items = e.items; len = e.len; room = e.capacity }

use Rattle.live_run.proofs.posters.run_poster.Goals as goal

pub returns : goal.returns
returns g c = record { each = c.post_all.ensures }

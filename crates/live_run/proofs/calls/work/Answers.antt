use Rattle.farm_live.specs.Turns.{HasTurned}
use Rattle.live_run.specs.Posts.{KeepsPosts}
use Rattle.live_run.proofs.Moving.{by_index, moves_map, turned_stays}
use Rattle.live_run.proofs.calls.work.Goals as goal

pub returns-clause-stays : goal.returns-clause-stays
returns-clause-stays g c =
    let k = c.args.k in
    let before = c.args.caller.now in
    let after = c.work-turn.new.caller in
    moves_map (λ v w. HasTurned v w c.work-turn.result) KeepsPosts k before after (turned_stays c.work-turn.result)
    (by_index (λ v w. HasTurned v w c.work-turn.result) k before after c.work-turn.ensures.answer)

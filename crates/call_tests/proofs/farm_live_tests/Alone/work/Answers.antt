use Rattle.std.proofs.Common.{◌≡◌, Result, Ok, Err, ap, append-nil, ◌∙◌}
use Rattle.farm_live.specs.declared.slot.View.{View}
use Rattle.farm_live.specs.declared.turns.Turn.{Turn}
use Rattle.farm_live.specs.declared.turns.Turn.TheVariants as turn
use Rattle.farm_live.specs.Turns.{HasTurned}
use Rattle.call_tests.proofs.farm_live_tests.Alone.work.Goals as goal

-- nothing is posted
same_posts : {E : Type 0} (v w : View) (r : Result Turn E) → HasTurned v w r → w.made ≡ v.made
same_posts v w (Ok (turn.Did caller number place)) h = h.1.turned.made ∙ append-nil v.made
same_posts v w (Ok turn.Idle) h = h.0.made ∙ append-nil v.made
same_posts v w (Ok turn.Busy) h = ap (λ (u : View). u.made) h.counted
same_posts v w (Err e) h = h.made ∙ append-nil v.made

pub returns : goal.returns
returns g c = λ s. same_posts _ _ c.work-answer.result (c.work-answer.ensures.answer.this s)

use Rattle.std.proofs.Common.{ℕ, ◌+◌, ◌≤◌, length, [], ◌∷◌, Result, Ok, Err, ap, arith}
use Rattle.std.proofs.lemmas.List.{length-append}
use Rattle.farm_live.specs.declared.post.Post.{Post}
use Rattle.farm_live.specs.declared.slot.View.{View}
use Rattle.farm_live.specs.declared.live.PostFault.{PostFault}
use Rattle.farm_live.specs.declared.live.PostFault.TheVariants as fault
use Rattle.farm_live.specs.Live.{HasAnswered}
use Rattle.call_tests.proofs.farm_live_tests.Alone.post.Goals as goal

-- one more at most
one_more : (x : Post) (v w : View) (r : Result ℕ PostFault) → HasAnswered x v w r → length w.made ≤ length v.made + 1
one_more x v w (Ok n) h = omega (arith, ap length h.0.0.made, length-append v.made (x ∷ []))
one_more x v w (Err (fault.Full p)) h = omega (arith, ap length h.0.0.made, length-append v.made [])
one_more x v w (Err fault.Busy) h = omega (arith, ap (λ (u : View). length u.made) h.counted)

pub returns : goal.returns
returns g c = λ s.
    omega (arith, c.requires.posts s, one_more _ _ _ c.post-answer.result (c.post-answer.ensures.answer.this s))

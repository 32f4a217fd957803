use Rattle.std.proofs.Common.{◌≡◌, subst, ◌+◌, ◌*◌, ◌<◌, ◌≤◌, Some, ◌∷◌, ◌++◌, length}
use Rattle.call_spec.specs.Call.{periods}
use Rattle.call_spec.specs.Down.{frame_by_number, made_among, frames_of_call, HasItem}
use Rattle.call_spec.specs.Whole.{periods_of_call}
use Rattle.call_spec.proofs.Whole.{history-whole, call-whole}
use Rattle.call_spec.proofs.Frames.{item-carried, enough}
use Rattle.call_spec.proofs.laws.frames_of_a_call.Goals as goal

pub returns-clause-items : goal.returns-clause-items
returns-clause-items c = λ call before after span j i h.
    subst (λ call. call.spans ≡ before ++ span ∷ after → j < length (frames_of_call call) → HasItem call span j i → (frame_by_number call j).carries ≡ Some
    (span.from + i)) (call-whole call h)
    (item-carried call.who (periods_of_call call) before after span j i (history-whole call h))

pub returns-clause-enough : goal.returns-clause-enough
returns-clause-enough c = λ call m h.
    subst (λ call. 2 * periods call ≤ m → made_among call m ≡ made_among call (2 * periods call)) (call-whole call h)
    (enough call.who (periods_of_call call) m (history-whole call h))

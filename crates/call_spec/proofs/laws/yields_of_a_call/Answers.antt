use Rattle.std.proofs.Common.{◌≡◌, subst, ◌<◌, filter, option_to_list}
use Rattle.trau_bits.specs.Bits.{bits_of}
use Rattle.frame_sync.specs.Yields.{Yields}
use Rattle.frame_sync.specs.Periods.{ends_in}
use Rattle.call_spec.specs.Call.{periods, yield_at}
use Rattle.call_spec.specs.Whole.{periods_of_call}
use Rattle.call_spec.proofs.Whole.{history-whole, call-whole}
use Rattle.call_spec.proofs.Yields.{yield-ends}
use Rattle.call_spec.proofs.laws.yields_of_a_call.Goals as goal

pub returns : goal.returns
returns c = λ call ys k h.
    subst (λ call. Yields (bits_of call.up) ys → k < periods call → filter (ends_in k) ys ≡ option_to_list (yield_at call k)) (call-whole call h)
    (yield-ends call.who (periods_of_call call) ys k (history-whole call h))

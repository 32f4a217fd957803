-- The periods of a whole call, as its leg gets them.
use Rattle.std.specs.Prelude.{◌≡◌, ◌≤◌, ◌<◌, ℕ, ◌+◌, ◌*◌, zero, suc, List, [], ◌∷◌, length, take, drop}
use Rattle.call_leg.specs.Periods.{CallPeriod}
use Rattle.call_spec.specs.Call.{Call, Span, periods, setting_at, item_at, starts_at}

-- Spans in order, the first at period `low` or later. Each starts within the n periods of the call, has an item for
-- each of its periods, and leaves at least one period before the next.
abbrev pub AreSpans : ℕ → ℕ → List Span → Type 0
AreSpans low n [] = Unit {0}
AreSpans low n (span ∷ spans) =
    (low ≤ span.from) × (span.from < n) × (span.to ≤ n) × (span.from + length span.items ≡ span.to) × AreSpans (span.to + 1) n spans

-- the lines have 40 and 160 octets for each period, and the spans are in order
pub record IsWhole (call : Call) : Type 0 where
  pub up : length call.up ≡ 40 * periods call
  pub pcm : length call.pcm ≡ 160 * periods call
  pub spans : AreSpans 0 (periods call) call.spans

-- period k
abbrev pub call_period : Call → ℕ → CallPeriod
call_period call k = record {
  up = take 40 (drop (40 * k) call.up);
  pcm = take 160 (drop (160 * k) call.pcm);
  level = (setting_at call k).level;
  mode = (setting_at call k).mode;
  starts = starts_at call.spans k;
  handed = item_at call.spans k;
}

-- the first k periods, the newest first, and all of them
abbrev pub first_periods : Call → ℕ → List CallPeriod
first_periods call zero = []
first_periods call (suc k) = call_period call k ∷ first_periods call k

abbrev pub periods_of_call : Call → List CallPeriod
periods_of_call call = first_periods call (periods call)

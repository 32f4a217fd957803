-- The handed frames that wait: from the next one due to the last one handed over.
use Rattle.std.specs.Prelude.{◌≡◌, ℕ, ◌+◌, if◌then◌else◌, Option, Some, None, List, slice_get}
use Rattle.down_framer.specs.Made.{Period, MadeFrame, latest_start, made_from, hands_at}
use Rattle.call_leg.specs.Periods.{CallPeriod, handed_in}
use Rattle.call_leg.specs.Down.{CallFrame, down_periods}

-- the number of the period whose handed frame goes out n frames after the next one; `None` if none was handed over in
-- it, or before any bridge
abbrev pub place_at : {A : Type 0} → List (Period A) → List (MadeFrame A) → ℕ → Option ℕ → Option ℕ
place_at ps fs n None = None
place_at ps fs n (Some s) = if hands_at (s + made_from s fs + n) ps then Some (s + made_from s fs + n) else None

abbrev pub due_at : {A : Type 0} → List (Period A) → List (MadeFrame A) → ℕ → Option ℕ
due_at ps fs n = place_at ps fs n (latest_start ps)

-- the bits that were handed over in a period
abbrev pub bits_in : List CallPeriod → Option ℕ → Option (List ℕ)
bits_in ts None = None
bits_in ts (Some h) = Some (handed_in h ts)

-- `waiting` has exactly the bits of the handed frames that wait, the next one due first
pub record Waits (ts : List CallPeriod) (fs : List CallFrame) (waiting : List (List ℕ)) : Type 0 where
  pub each : (n : ℕ) → slice_get waiting n ≡ bits_in ts (due_at (down_periods ts) fs n)

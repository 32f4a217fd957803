-- How the board and the farm of a run agree.
use Rattle.std.specs.Prelude.{◌≡◌, ◌≤◌, ℕ, ◌-◌, Bool, true, false, Option, Some, None, is_some, IfSome, List}
use Rattle.trau_alaw.specs.declared.Law.{Law}
use Rattle.trau_orders.specs.Lists.{AreOrders}
use Rattle.call_leg.specs.Periods.{CallPeriod}
use Rattle.call_leg.specs.Settings.{Settings}
use Rattle.switchboard.specs.Calls.{Done, is_open, gone_at}
use Rattle.switchboard.specs.declared.act.Act.{Act}
use Rattle.switchboard.specs.declared.act.Act.TheVariants as act
use Rattle.switchboard.specs.State.{State, EndBefore, first_stamp, last_stamp, orders_of}
use Rattle.switchboard.specs.Runs.{TellsEnds}
use Rattle.switchboard.specs.Ends.{start_of}
use Rattle.switchboard.specs.Open.{open_now, partner_now}
use Rattle.run_spec.specs.Run.{Run, whole_in, periods_to, law_in}
use Rattle.run_spec.specs.Now.{IsSoFar, settings_now}
use Rattle.call_number.specs.CallNumber.{IsCallNumber}
use Rattle.farm_rounds.specs.Calls.{Kept, call_in, partner_in}
use Rattle.farm_rounds.specs.Histories.{CallHistory, CallsStand}

-- the same calls are open, each has the same partner, and their numbers are those of calls
pub record Matches (b : State) (calls : List Kept) : Type 0 where
  pub is_open : (c : ℕ) → is_some (call_in calls c) ≡ open_now b c
  pub partner : (c : ℕ) → partner_in calls c ≡ partner_now b c
  pub number : (c : ℕ) → open_now b c ≡ true → IsCallNumber c

-- if the act bridges two calls, they have numbers of calls
abbrev pub AreNumbers : Act → Type 0
AreNumbers (act.Bridged a b) = IsCallNumber a × IsCallNumber b
AreNumbers _ = Unit {0}

-- At the clock t, no remaining order has a smaller stamp, no executed order has a greater one, and all ends that the
-- board knows are before the clock.
pub record AtClock (t : ℕ) (b : State) (calls : List Kept) : Type 0 where
  pub orders : AreOrders (orders_of b)
  pub ahead : IfSome (first_stamp b.left) (λ s. t ≤ s)
  pub past : last_stamp b.done ≤ t
  pub ends : EndBefore t b
  pub matches : Matches b calls

-- ---- how they agree with the run that the definition gives

-- the history of a call with this law, if it is open
abbrev pub past_if : Bool → Law → List CallPeriod → Settings → Option CallHistory
past_if true law ts now = Some (record { law = law; periods = ts; now = now })
past_if false law ts now = None

-- the history of each open call at the clock t, after these orders
abbrev pub histories_at : Run → List Done → ℕ → ℕ → Option CallHistory
histories_at r ds t c = past_if (is_open (gone_at (whole_in r) t ds) ds c) (law_in r c)
    (periods_to r c (t - start_of ds c)) (settings_now r ds t c)

pub record FollowsRun (r : Run) (t : ℕ) (b : State) (calls : List Kept) : Type 0 where
  pub so_far : IsSoFar r t b.done b.left
  pub tells : TellsEnds (whole_in r) t b
  pub stands : CallsStand (histories_at r b.done t) calls

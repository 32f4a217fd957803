-- The mark of a checkpoint (this project's profile).
use Rattle.std.specs.Prelude.{ℕ, ◌<◌, ◌≤◌, List}
use Rattle.std.specs.List.{All, AllPairs}
use Rattle.call_number.specs.CallNumber.{IsCallNumber}
use Rattle.farm_checkpoint.specs.declared.mark.MarkCall.{MarkCall}

-- a mark as contracts see it
pub record MarkView : Type 0 where
  pub period : ℕ
  pub calls : List MarkCall

-- each call's number is below those of all later ones
abbrev pub NumbersRise : List MarkCall → Type 0
NumbersRise calls = AllPairs (λ earlier later. earlier.call < later.call) calls

-- a call that may be open at a mark's period: it has a call's number, and was opened before
pub record IsOpenAtMark (period : ℕ) (call : MarkCall) : Type 0 where
  pub number : IsCallNumber call.call
  pub opened : call.from < period

-- calls that may be open there, in rising order of their numbers
pub record AreOpenAtMark (period : ℕ) (calls : List MarkCall) : Type 0 where
  pub each : All (IsOpenAtMark period) calls
  pub rising : NumbersRise calls

-- its sums are below 2 ^ 32
abbrev pub HasSums : MarkCall → Type 0
HasSums call = (call.out ≤ 4294967295) × (call.down ≤ 4294967295)

-- a mark's period is from 1 to 2 ^ 32 - 1, its calls may be open there, and their sums are below 2 ^ 32
pub record IsMark (mark : MarkView) : Type 0 where
  pub at_least : 1 ≤ mark.period
  pub at_most : mark.period ≤ 4294967295
  pub are_open : AreOpenAtMark mark.period mark.calls
  pub sums : All HasSums mark.calls

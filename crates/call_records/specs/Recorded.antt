-- What a live call has after the turns that were recorded. Lists have the newest first.
use Rattle.std.specs.Prelude.{ℕ, ℤ, Bool, List, ◌∷◌}
use Rattle.fr_sides.specs.Memory.{receiver_memory, sender_memory}
use Rattle.call_leg.specs.Periods.{CallPeriod}
use Rattle.call_coders.specs.declared.coders.Record.{Record}
use Rattle.call_coders.specs.Replay.{CallStands, Replays, CanBeBridged, who_is, period_of, bridged_period, item_of}
use Rattle.call_coders.specs.Lines.{AreReplayed}
use Rattle.rtp_call.specs.declared.call.Call.{Call}
use Rattle.call_records.specs.Turns.{Turn, periods_of, outgoing}

-- **What a call with this number has after these turns:** its coders stand for all of their periods, and what each
-- turn recorded of Out and Down is what a call of `trau run` makes of the Up and Pcm that were recorded up to then.
pub record IsRecorded (number : ℕ) (past : List Turn) (call : Call) : Type 0 where
  pub stands : CallStands (who_is number call.law) (periods_of past) (receiver_memory call.coders.receiver) (sender_memory call.coders.sender)
  pub replayed : AreReplayed (who_is number call.law) (periods_of past) (outgoing past)

-- ---- one turn, by the clause `replay` of `turn` and `turn_pair` in `rtp_call`, and of the exports in `trau_calls`

abbrev pub StandsFor : ℕ → List CallPeriod → Call → Type 0
StandsFor number past call = CallStands (who_is number call.law) past (receiver_memory call.coders.receiver) (sender_memory call.coders.sender)

abbrev pub GoesOn : ℕ → List CallPeriod → Call → Call → Record → Type 0
GoesOn number ts old new recorded = Replays (who_is number old.law) ts (receiver_memory new.coders.receiver) (sender_memory new.coders.sender) recorded.out
    recorded.down

abbrev pub ReplaysTurn : Call → Call → ℤ → Bool → Record → Type 0
ReplaysTurn old new level dtx recorded = (number : ℕ) (past : List CallPeriod) → StandsFor number past old →
    GoesOn number (period_of recorded.up recorded.pcm level dtx ∷ past) old new recorded

abbrev pub ReplaysPair : Call → Call → Record → Call → Call → Record → Type 0
ReplaysPair old new recorded other_old other_new other_recorded =
    (number other_number : ℕ) (past other_past : List CallPeriod) (level other_level : ℤ) (dtx other_dtx starts other_starts : Bool) →
    StandsFor number past old → StandsFor other_number other_past other_old → CanBeBridged starts past → CanBeBridged other_starts other_past →
    GoesOn number (bridged_period recorded.up recorded.pcm level dtx starts (item_of other_number other_recorded.up other_past) ∷ past) old new recorded
    × GoesOn other_number
    (bridged_period other_recorded.up other_recorded.pcm other_level other_dtx other_starts (item_of number recorded.up past) ∷ other_past)
    other_old other_new other_recorded

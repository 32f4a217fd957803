-- What `trau run` makes of a period that was recorded.
use Rattle.std.specs.Prelude.{ℕ, ℤ, Bool, List, ◌∷◌}
use Rattle.fr_sides.specs.Memory.{receiver_memory, sender_memory}
use Rattle.call_leg.specs.Periods.{CallPeriod}
use Rattle.call_coders.specs.declared.coders.Record.{Record}
use Rattle.call_coders.specs.Replay.{CallStands, Replays, CanBeBridged, who_is, period_of, bridged_period, item_of}
use Rattle.rtp_call.specs.declared.call.Call.{Call}

-- the coders stand for these recorded periods
abbrev pub StandsFor : ℕ → List CallPeriod → Call → Type 0
StandsFor number past call = CallStands (who_is number call.law) past (receiver_memory call.coders.receiver) (sender_memory call.coders.sender)

-- with this period they stand for the next ones, and Out and Down are what `trau run` makes of them
abbrev pub Goes : ℕ → List CallPeriod → Call → Call → Record → Type 0
Goes number past old new recorded = Replays (who_is number old.law) past (receiver_memory new.coders.receiver) (sender_memory new.coders.sender) recorded.out recorded.down

-- outside of bridges
abbrev pub TurnReplays : Call → Call → ℤ → Bool → Record → Type 0
TurnReplays old new level dtx recorded = (number : ℕ) (past : List CallPeriod) → StandsFor number past old →
    Goes number (period_of recorded.up recorded.pcm level dtx ∷ past) old new recorded

-- in a bridge, in which the other call hands over what its recorded periods say
abbrev pub PairReplays : Call → Call → Record → Call → Call → Record → Type 0
PairReplays old new recorded other_old other_new other_recorded =
    (number other_number : ℕ) (past other_past : List CallPeriod) (level other_level : ℤ) (dtx other_dtx starts other_starts : Bool) →
    StandsFor number past old → StandsFor other_number other_past other_old → CanBeBridged starts past → CanBeBridged other_starts other_past →
    Goes number (bridged_period recorded.up recorded.pcm level dtx starts (item_of other_number other_recorded.up other_past) ∷ past) old new recorded
    × Goes other_number (bridged_period other_recorded.up other_recorded.pcm other_level other_dtx other_starts (item_of number recorded.up past) ∷ other_past)
    other_old other_new other_recorded

-- A recorded call has one turn more.
use Rattle.std.proofs.Common.{◌≡◌, sym, subst, ℕ, ℤ, Bool, List, [], ◌∷◌}
use Rattle.std.specs.Prelude.{not}
use Rattle.trau_alaw.specs.declared.Law.{Law}
use Rattle.fr_sides.specs.Memory.{receiver_memory, sender_memory}
use Rattle.call_coders.specs.declared.coders.Coders.{Coders}
use Rattle.call_coders.specs.declared.coders.Record.{Record}
use Rattle.call_coders.specs.Replay.{CallStands, Replays, who_is, bridged_period, item_of}
use Rattle.call_coders.specs.Lines.{AreReplayed}
use Rattle.rtp_call.specs.declared.call.Call.{Call}
use Rattle.call_records.specs.Turns.{Turn, paired, is_paired, periods_of, outgoing}
use Rattle.call_records.specs.Recorded.{IsRecorded}
use Rattle.call_records.specs.Runs.{RunsWriteRecorded}
use Rattle.call_records.proofs.Periods.{item-of-turns}

abbrev Stands : ℕ → List Turn → Law → Coders → Type 0
Stands number past law c = CallStands (who_is number law) (periods_of past) (receiver_memory c.receiver) (sender_memory c.sender)

abbrev AreOf : ℕ → List Turn → Law → Type 0
AreOf number past law = AreReplayed (who_is number law) (periods_of past) (outgoing past)

-- before the first turn
pub begun : (number : ℕ) (call : Call) → Stands number [] call.law call.coders → IsRecorded number [] call
begun number call stands = record { stands = stands; replayed = tt }

pub more : (number : ℕ) (t : Turn) (past : List Turn) (old new : Call) → new.law ≡ old.law → IsRecorded number past old →
    Replays (who_is number old.law) (periods_of (t ∷ past)) (receiver_memory new.coders.receiver) (sender_memory new.coders.sender) t.recorded.out t.recorded.down →
    IsRecorded number (t ∷ past) new
more number t past old new same was replays = record {
  stands = subst (λ (law : Law). Stands number (t ∷ past) law new.coders) (sym same) replays.stands;
  replayed = subst (λ (law : Law). AreOf number (t ∷ past) law) (sym same)
      (record { receiver = receiver_memory new.coders.receiver; sender = sender_memory new.coders.sender; replays = replays }, was.replayed);
}

pub unchanged : (number : ℕ) (past : List Turn) (old new : Call) → new.law ≡ old.law → new.coders ≡ old.coders → IsRecorded number past old → IsRecorded number past new
unchanged number past old new law coders was = record {
  stands = subst (λ (l : Law). Stands number past l new.coders) (sym law) (subst (λ (c : Coders). Stands number past old.law c) (sym coders) was.stands);
  replayed = subst (λ (l : Law). AreOf number past l) (sym law) was.replayed;
}

-- a turn of a pair
abbrev pub IsPairedTurn : ℕ → List Turn → ℤ → Bool → Record → ℕ → Record → List Turn → Call → Call → Type 0
IsPairedTurn number past level dtx recorded other_number other before old new = Replays (who_is number old.law)
    (bridged_period recorded.up recorded.pcm level dtx (not (is_paired past)) (item_of other_number other.up (periods_of before)) ∷ periods_of past)
    (receiver_memory new.coders.receiver) (sender_memory new.coders.sender) recorded.out recorded.down

pub more-paired : (number : ℕ) (past : List Turn) (level : ℤ) (dtx : Bool) (recorded : Record) (other_number : ℕ) (other : Record) (before : List Turn)
    (old new : Call) → new.law ≡ old.law → IsRecorded number past old → IsPairedTurn number past level dtx recorded other_number other before old new →
    IsRecorded number (paired recorded level dtx other_number other before ∷ past) new
more-paired number past level dtx recorded other_number other before old new same was replays =
    more number (paired recorded level dtx other_number other before) past old new same was
    (subst (λ (item : List ℕ). Replays (who_is number old.law)
    (bridged_period recorded.up recorded.pcm level dtx (not (is_paired past)) item ∷ periods_of past)
    (receiver_memory new.coders.receiver) (sender_memory new.coders.sender) recorded.out recorded.down)
    (sym (item-of-turns other_number other.up before)) replays)

-- the runs of what is recorded now
pub runs-write : ((number : ℕ) (past : List Turn) (call : Call) → IsRecorded number past call → RunsWriteRecorded number call.law past) →
    (number : ℕ) (past : List Turn) (law : Law) (new : Call) → new.law ≡ law → IsRecorded number past new → RunsWriteRecorded number law past
runs-write law-of number past law new same was = subst (λ (l : Law). RunsWriteRecorded number l past) same (law-of number past new was)

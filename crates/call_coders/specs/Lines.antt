-- A recorded call as whole lines. Lists have the newest period first.
use Rattle.std.specs.Prelude.{ℕ, ⊤, List, [], ◌∷◌, ◌++◌}
use Rattle.trau_bits.specs.Bits.{bits_of}
use Rattle.fr_sides.specs.Memory.{ReceiverMemory, SenderMemory}
use Rattle.call_leg.specs.Who.{Who}
use Rattle.call_leg.specs.Periods.{CallPeriod}
use Rattle.call_coders.specs.Replay.{Replays}

-- what is recorded of the outgoing lines in a period: the octets of Out, and the frame that Down has in the next one
pub record OutAndDown : Type 0 where
  pub out : List ℕ
  pub down : List ℕ

-- the newest period was replayed, as `period` and `bridged` say
pub record IsReplayed (who : Who) (ts : List CallPeriod) (recorded : OutAndDown) : Type 0 where
  pub receiver : ReceiverMemory
  pub sender : SenderMemory
  pub replays : Replays who ts receiver sender recorded.out recorded.down

-- each period was
abbrev pub AreReplayed : Who → List CallPeriod → List OutAndDown → Type 0
AreReplayed who [] [] = ⊤
AreReplayed who [] (r ∷ rs) = ⊥
AreReplayed who (t ∷ past) [] = ⊥
AreReplayed who (t ∷ past) (r ∷ rs) = IsReplayed who (t ∷ past) r × AreReplayed who past rs

-- all recorded octets of Out, and the bits of all recorded frames, the first one first
abbrev pub recorded_out : List OutAndDown → List ℕ
recorded_out [] = []
recorded_out (r ∷ rs) = recorded_out rs ++ r.out

abbrev pub recorded_down : List OutAndDown → List ℕ
recorded_down [] = []
recorded_down (r ∷ rs) = recorded_down rs ++ bits_of r.down

-- Many calls in a round: their portions are in rising order of the calls' numbers (this project's profile).
use Rattle.std.specs.Prelude.{◌≡◌, ℕ, ◌+◌, ◌^◌, ◌<◌, List, [], length, slice_index_or, false, Option}
use Rattle.trau_io.specs.declared.line.Side.{Side}
use Rattle.trau_io.specs.declared.line.Side.TheVariants.{Up, Pcm, Down, Out}
use Rattle.trau_io.specs.declared.ends.CallEnd.{CallEnd}
use Rattle.trau_io.specs.Lines.{LineState}
use Rattle.round_lines.specs.Memory.{fresh_lines, end_in_round}
use Rattle.round_lines.specs.Portions.{PortionMemory}

-- Up and Pcm are read
abbrev pub IsIncoming : Side → Type 0
IsIncoming Up = Unit {0}
IsIncoming Pcm = Unit {0}
IsIncoming _ = ⊥

-- Down and Out are written
abbrev pub IsOutgoing : Side → Type 0
IsOutgoing Down = Unit {0}
IsOutgoing Out = Unit {0}
IsOutgoing _ = ⊥

-- every line is unchanged, except the touched ones of this call
abbrev pub KeepsBut : (Side → Type 0) → (ℕ → Side → LineState) → (ℕ → Side → LineState) → ℕ → Type 0
KeepsBut Touched before now call = (c : ℕ) (side : Side) →
    (c ≡ call → Touched side → ⊥) → now c side ≡ before c side

-- the value of `portion_at` for an index after the last portion
abbrev pub no_portion : PortionMemory
no_portion = record { lines = fresh_lines 0 0 false false; up = []; pcm = []; down = []; out = [] }

abbrev pub portion_at : List PortionMemory → ℕ → PortionMemory
portion_at portions k = slice_index_or portions k no_portion

abbrev pub call_at : List PortionMemory → ℕ → ℕ
call_at portions k = (portion_at portions k).lines.call

-- the calls' numbers rise from portion to portion, so no call has two portions
abbrev pub Rising : List PortionMemory → Type 0
Rising portions = (i j : ℕ) → i < j → j < length portions → call_at portions i < call_at portions j

-- for each of the first n portions, the portions before and after are related over the lines of the portion's call
-- before and after
abbrev pub Each : ((Side → LineState) → (Side → LineState) → PortionMemory → PortionMemory → Type 0) →
    (ℕ → Side → LineState) → (ℕ → Side → LineState) → List PortionMemory → List PortionMemory → ℕ → Type 0
Each Relates before now portions portions' n = (k : ℕ) → k < n →
    Relates (before (call_at portions k)) (now (call_at portions k)) (portion_at portions k) (portion_at portions' k)

-- every line is unchanged, except the touched ones of the calls of the first n portions
abbrev pub KeepsButEach : (Side → Type 0) → (ℕ → Side → LineState) → (ℕ → Side → LineState) →
    List PortionMemory → ℕ → Type 0
KeepsButEach Touched before now portions n = (c : ℕ) (side : Side) →
    ((k : ℕ) → k < n → c ≡ call_at portions k → Touched side → ⊥) → now c side ≡ before c side

-- the periods of a round from `start` on have numbers below 2 ^ 32
abbrev pub EndsWithin : ℕ → List PortionMemory → Type 0
EndsWithin start portions = (k : ℕ) → k < length portions →
    start + (portion_at portions k).lines.periods < 2 ^ 32

-- the end of a portion's call, if it ends in the round
abbrev pub portion_end : ℕ → PortionMemory → Option CallEnd
portion_end start s = end_in_round start s.lines

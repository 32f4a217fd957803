-- The sums of the octets of each line, modulo 2^32, and what a round adds to them (this project's profile).
use Rattle.std.specs.Prelude.{◌≡◌, ℕ, ◌+◌, ◌^◌, ◌%◌, ◌<◌, List, length, slice_index_or}
use Rattle.std.specs.List.{sum}
use Rattle.trau_io.specs.declared.line.Side.{Side}
use Rattle.trau_io.specs.declared.line.Side.TheVariants.{Down, Out}
use Rattle.trau_io.specs.Indices.{index_of_line}
use Rattle.round_lines.specs.Portions.{PortionMemory, down_given, out_given}
use Rattle.round_lines.specs.Rounds.{IsOutgoing, portion_at, call_at}

-- the sum of a line in a table of all lines; 0 if no line has this number
abbrev pub sum_in : List ℕ → ℕ → Side → ℕ
sum_in sums c s = slice_index_or sums (index_of_line c s) 0

-- before any round
abbrev pub no_sums : ℕ → Side → ℕ
no_sums c s = 0

-- The octets that go out of a call's portion are added to the sums of its outgoing lines; all other sums are unchanged.
pub record AddsPortion (portion : PortionMemory) (before now : ℕ → Side → ℕ) : Type 0 where
  pub down : now portion.lines.call Down
      ≡ (before portion.lines.call Down + sum (down_given portion)) % 2 ^ 32
  pub out : now portion.lines.call Out
      ≡ (before portion.lines.call Out + sum (out_given portion)) % 2 ^ 32
  pub others : (c : ℕ) (s : Side) → (c ≡ portion.lines.call → IsOutgoing s → ⊥) → now c s ≡ before c s

-- What all portions of a round give is added to the sums.
pub record Adds (portions : List PortionMemory) (before now : ℕ → Side → ℕ) : Type 0 where
  pub down : (k : ℕ) → k < length portions → now (call_at portions k) Down
      ≡ (before (call_at portions k) Down + sum (down_given (portion_at portions k))) % 2 ^ 32
  pub out : (k : ℕ) → k < length portions → now (call_at portions k) Out
      ≡ (before (call_at portions k) Out + sum (out_given (portion_at portions k))) % 2 ^ 32
  pub others : (c : ℕ) (s : Side) →
      ((k : ℕ) → k < length portions → c ≡ call_at portions k → IsOutgoing s → ⊥) → now c s ≡ before c s

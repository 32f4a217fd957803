-- What is known of a line, and what one operation does to it (this project's profile).
use Rattle.std.specs.Prelude.{◌≡◌, ℕ, ◌+◌, ◌-◌, ◌^◌, ◌<◌, ◌≤◌, min, List, length, Option, Result, IfOk, OnOk, OnErr}
use Rattle.std.specs.Io.{ReadsAtMost}
use Rattle.std.specs.Io.KnownBytes.{ReadConsumes, WriteAppends}
use Rattle.trau_io.specs.declared.line.Side.{Side}
use Rattle.trau_io.specs.declared.line.Failed.{Failed}

-- a line: the octets still to come and the octets written, if they are known, and its fault count
pub record LineState : Type 0 where
  pub to_come : Option (List ℕ)
  pub written : Option (List ℕ)
  pub faults : ℕ

-- a fault was counted, or the count is at its last value, 18,446,744,073,709,551,615
abbrev pub Rose : ℕ → ℕ → Type 0
Rose before now = min (before + 1) (2 ^ 64 - 1) ≤ now

-- no fault was counted, and the count is below its last value
abbrev pub NotRose : ℕ → ℕ → Type 0
NotRose before now = Rose before now → ⊥

-- a failed operation was counted as a fault; one that succeeds leaves the count as it was
pub record HasCause {T : Type 0} (before now : ℕ) (result : Result T Failed) : Type 0 where
  pub later : before ≤ now
  pub failed : OnErr result (Rose before now)
  pub ok : OnOk result (now ≡ before)

-- a read of a line: the next octets went to the start of the buffer; there are none only at the line's end
pub record Reads (before now : LineState) (result : Result ℕ Failed) (buf : List ℕ) : Type 0 where
  pub bound : ReadsAtMost result buf
  pub to_come : ReadConsumes before.to_come now.to_come result buf
  pub written : now.written ≡ before.written
  pub cause : HasCause before.faults now.faults result

-- a write of a line: it gained a prefix of the octets, at least one
pub record Writes (before now : LineState) (result : Result ℕ Failed) (bytes : List ℕ) : Type 0 where
  pub some : IfOk result (λ n. 0 < n)
  pub bound : IfOk result (λ n. n ≤ length bytes)
  pub written : WriteAppends before.written now.written result bytes
  pub to_come : now.to_come ≡ before.to_come
  pub cause : HasCause before.faults now.faults result

-- every other line is unchanged, its count included
abbrev pub OthersStay : (ℕ → Side → LineState) → (ℕ → Side → LineState) → ℕ → Side → Type 0
OthersStay before now call side = (c : ℕ) (s : Side) → (c ≡ call → s ≡ side → ⊥) → now c s ≡ before c s

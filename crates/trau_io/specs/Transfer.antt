-- What a whole transfer does, whatever the sizes of its single operations (this project's profile).
use Rattle.std.specs.Prelude.{◌≡◌, ℕ, ◌<◌, ◌≤◌, List, length, take, Result, OnOk, OnErr}
use Rattle.std.specs.Io.KnownBytes.{Consumes, Appends, IsAtEnd}
use Rattle.trau_io.specs.declared.line.Failed.{Failed}
use Rattle.trau_io.specs.declared.transfer.Filled.{Filled}
use Rattle.trau_io.specs.declared.transfer.Filled.TheVariants as filled
use Rattle.trau_io.specs.Lines.{LineState, HasCause, Rose}
use Rattle.trau_io.specs.Desks.{DeskState}

-- the octets that came into a block
abbrev pub given_of : Filled → List ℕ → List ℕ
given_of filled.Whole block = block
given_of (filled.Ended n) block = take n block
given_of (filled.Failed n) block = take n block

-- why the reads of a block stopped: it is full, or the line ended or failed before it was
abbrev pub StoppedBy : LineState → LineState → Filled → List ℕ → Type 0
StoppedBy before now filled.Whole block = now.faults ≡ before.faults
StoppedBy before now (filled.Ended n) block = (n < length block) × IsAtEnd now.to_come × (now.faults ≡ before.faults)
StoppedBy before now (filled.Failed n) block = (n < length block) × Rose before.faults now.faults

-- the next octets of a line went to the start of a block
pub record ReadsBlock (before now : LineState) (result : Filled) (block : List ℕ) : Type 0 where
  pub given : Consumes before.to_come now.to_come (given_of result block)
  pub stopped : StoppedBy before now result block
  pub written : now.written ≡ before.written
  pub later : before.faults ≤ now.faults

-- the same for a block that is filled from the desk
abbrev pub DeskStoppedBy : DeskState → DeskState → Filled → List ℕ → Type 0
DeskStoppedBy before now filled.Whole block = now.read_faults ≡ before.read_faults
DeskStoppedBy before now (filled.Ended n) block = (n < length block) × IsAtEnd now.to_come × (now.read_faults ≡ before.read_faults)
DeskStoppedBy before now (filled.Failed n) block = (n < length block) × Rose before.read_faults now.read_faults

-- the next octets of the desk went to the start of a block; its texts and their fault count are unchanged
pub record FillsBlock (before now : DeskState) (result : Filled) (block : List ℕ) : Type 0 where
  pub given : Consumes before.to_come now.to_come (given_of result block)
  pub stopped : DeskStoppedBy before now result block
  pub later : before.read_faults ≤ now.read_faults
  pub written : now.written ≡ before.written
  pub write_faults : now.write_faults ≡ before.write_faults

-- an incoming line gave these octets
pub record Gives (inc inc' : LineState) (given : List ℕ) : Type 0 where
  pub read : Consumes inc.to_come inc'.to_come given
  pub written : inc'.written ≡ inc.written
  pub later : inc.faults ≤ inc'.faults

-- a line gained all the octets, or failed after a proper prefix of them
pub record WritesAll (before now : LineState) (result : Result (Unit {0}) Failed) (bytes : List ℕ) : Type 0 where
  pub ok : OnOk result (Appends before.written now.written bytes)
  pub err : OnErr result ((n : ℕ) × (n < length bytes) × Appends before.written now.written (take n bytes))
  pub to_come : now.to_come ≡ before.to_come
  pub cause : HasCause before.faults now.faults result

-- the desk gained the whole text, or failed after a proper prefix of it
pub record Tells (before now : DeskState) (result : Result (Unit {0}) Failed) (text : List ℕ) : Type 0 where
  pub ok : OnOk result (Appends before.written now.written text)
  pub err : OnErr result ((n : ℕ) × (n < length text) × Appends before.written now.written (take n text))
  pub cause : HasCause before.write_faults now.write_faults result
  pub to_come : now.to_come ≡ before.to_come
  pub read_faults : now.read_faults ≡ before.read_faults

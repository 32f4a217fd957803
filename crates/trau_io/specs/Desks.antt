-- What is known of a desk, and what one operation does to it (this project's profile).
use Rattle.std.specs.Prelude.{◌≡◌, ℕ, ◌<◌, ◌≤◌, List, length, Option, Result, IfOk}
use Rattle.std.specs.Io.{ReadsAtMost}
use Rattle.std.specs.Io.KnownBytes.{ReadConsumes, WriteAppends}
use Rattle.trau_io.specs.declared.line.Failed.{Failed}
use Rattle.trau_io.specs.Lines.{HasCause}

-- a desk: the orders still to come and the texts written, if they are known, and the fault count of each direction
pub record DeskState : Type 0 where
  pub to_come : Option (List ℕ)
  pub read_faults : ℕ
  pub written : Option (List ℕ)
  pub write_faults : ℕ

-- a read changes neither the texts nor the fault count of writing
pub record DeskReads (before now : DeskState) (result : Result ℕ Failed) (buf : List ℕ) : Type 0 where
  pub bound : ReadsAtMost result buf
  pub to_come : ReadConsumes before.to_come now.to_come result buf
  pub cause : HasCause before.read_faults now.read_faults result
  pub written : now.written ≡ before.written
  pub write_faults : now.write_faults ≡ before.write_faults

-- a write changes neither the orders to come nor the fault count of reading
pub record DeskWrites (before now : DeskState) (result : Result ℕ Failed) (bytes : List ℕ) : Type 0 where
  pub some : IfOk result (λ n. 0 < n)
  pub bound : IfOk result (λ n. n ≤ length bytes)
  pub written : WriteAppends before.written now.written result bytes
  pub cause : HasCause before.write_faults now.write_faults result
  pub to_come : now.to_come ≡ before.to_come
  pub read_faults : now.read_faults ≡ before.read_faults

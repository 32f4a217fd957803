-- Operations that are made again if a signal interrupts them: which one gave the result (this project's profile).
use Rattle.std.specs.Prelude.{◌≡◌, ◌⊎◌, ℕ, zero, suc, ◌+◌, List, Result, Ok, Err, IsErrAnd}
use Rattle.std.specs.Io.KnownBytes.{ReadConsumes, WriteAppends}
use Rattle.std.specs.IoError.{error_kind}
use Rattle.std.specs.declared.io.Error.{Error}
use Rattle.std.specs.declared.io.ErrorKind.TheVariants.{Interrupted, WriteZero}
use Rattle.trau_files.specs.declared.retry.TheConstants.{TRIES}
use Rattle.trau_files.specs.Folder.{OneGive, OneRead, OneTake, OneWrite, Operations, ReadOperation, WriteOperation}

-- n operations, each interrupted, took the file from `old` to `new`
abbrev pub Interruptions : {F : Type 0} → (F → F → Result ℕ Error → List ℕ → Type 0) → ℕ → F → F → Type 0
Interruptions one zero old new = new ≡ old
Interruptions {F = F} one (suc n) old new =
    (mid : F) × (fault : Error) × (buf : List ℕ) × Interruptions one n old mid × one mid new (Err fault) buf × (error_kind fault ≡ Interrupted)

-- the operation was interrupted
abbrev pub WasInterrupted : Result ℕ Error → Type 0
WasInterrupted result = IsErrAnd result (λ e. error_kind e ≡ Interrupted)

-- The result is that of one operation of the file, and each one before it was interrupted. An operation that was
-- interrupted is made again: only the last of as many tries as are made gives that result
abbrev pub IsOfLastTry : {F : Type 0} → (F → F → Result ℕ Error → List ℕ → Type 0) → F → F → Result ℕ Error → List ℕ → Type 0
IsOfLastTry {F = F} one old new result buf =
    (n : ℕ) × (before : F) × Interruptions one n old before × one before new result buf × (WasInterrupted result → n + 1 ≡ TRIES)

-- a read, made again if it was interrupted: the result is the last one's own, and the octets are the file's next
pub record ReadsOnce {F : Type 0} (reading : ReadOperation F) (old new : F) (result : Result ℕ Error) (buf : List ℕ) : Type 0 where
  pub last : IsOfLastTry (OneRead reading) old new result buf
  pub octets : ReadConsumes (reading.to_come old) (reading.to_come new) result buf

-- a write, made again if it was interrupted: the result is the last one's own, or the error of a write that took
-- nothing; and the file has gained the octets that were taken
pub record WritesOnce {F : Type 0} (writing : WriteOperation F) (old new : F) (result : Result ℕ Error) (bytes : List ℕ) : Type 0 where
  pub last : IsOfLastTry (OneWrite writing) old new result bytes
      ⊎ (IsErrAnd result (λ e. error_kind e ≡ WriteZero) × IsOfLastTry (OneWrite writing) old new (Ok 0) bytes)
  pub octets : WriteAppends (writing.contents old) (writing.contents new) result bytes

-- a read of an open file of a folder, made again if it was interrupted: the result is the last one's own
abbrev pub GivesOnce : {D F : Type 0} → Operations D F → D → F → F → Result ℕ Error → List ℕ → Type 0
GivesOnce does folder old new result buf = IsOfLastTry (OneGive does folder) old new result buf

-- a write to an open file, made again if it was interrupted, took the folder from `before` to `after`: the result is
-- the last one's own, or the error of a write that took nothing
pub record TakesOnce {D F : Type 0} (does : Operations D F) (before after : D) (old new : F) (result : Result ℕ Error) (bytes : List ℕ) : Type 0 where
  pub last : IsOfLastTry (OneTake does) (before, old) (after, new) result bytes
      ⊎ (IsErrAnd result (λ e. error_kind e ≡ WriteZero) × IsOfLastTry (OneTake does) (before, old) (after, new) (Ok 0) bytes)

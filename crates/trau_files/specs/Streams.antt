-- The desk over two streams, whose answers it passes on (this project's profile).
use Rattle.std.specs.Prelude.{ℕ, List, Result, Ok, Err, MatchResult}
use Rattle.std.specs.declared.io.Error.{Error}
use Rattle.trau_io.specs.declared.line.Failed.{Failed}
use Rattle.trau_io.specs.Desks.{DeskState}
use Rattle.trau_files.specs.Folder.{ReadOperation, WriteOperation}
use Rattle.trau_files.specs.Tries.{ReadsOnce, WritesOnce}

-- a desk's two streams, and how often reading the one and writing the other failed
pub record Streams (R W : Type 0) : Type 0 where
  pub input : R
  pub output : W
  pub read_faults : ℕ
  pub write_faults : ℕ

-- what is known of a desk: what is known of its streams, and how often they failed
abbrev pub desk_of : {R W : Type 0} → ReadOperation R → WriteOperation W → Streams R W → DeskState
desk_of reading writing s = record {
  to_come = reading.to_come s.input;
  read_faults = s.read_faults;
  written = writing.contents s.output;
  write_faults = s.write_faults;
}

-- the result of a desk's read is that of its input, made again if it was interrupted; of an error it says only that
-- there was one
abbrev pub PassesRead : {R W : Type 0} → ReadOperation R → Streams R W → Streams R W → Result ℕ Failed → List ℕ → Type 0
PassesRead reading old new result buf =
    MatchResult result (λ n. ReadsOnce reading old.input new.input (Ok n) buf) (λ _. (e : Error) × ReadsOnce reading old.input new.input (Err e) buf)

-- the result of a desk's write is that of its output, made again if it was interrupted; of an error it says only that
-- there was one
abbrev pub PassesWrite : {R W : Type 0} → WriteOperation W → Streams R W → Streams R W → Result ℕ Failed → List ℕ → Type 0
PassesWrite writing old new result bytes =
    MatchResult result (λ n. WritesOnce writing old.output new.output (Ok n) bytes) (λ _. (e : Error) × WritesOnce writing old.output new.output (Err e) bytes)

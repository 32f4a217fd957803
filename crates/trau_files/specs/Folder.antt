-- The folder of the lines' files, by its operations (this project's profile). Each relation is abstract: only the
-- operation itself gives it. So a clause that has one says that this operation was made, with this result.
use Rattle.std.specs.Prelude.{ℕ, List, Option, Result}
use Rattle.std.specs.Io.{ReadsAtMost, WritesAtMost}
use Rattle.std.specs.Io.KnownBytes.{ReadConsumes, WriteAppends}
use Rattle.std.specs.declared.fs.attrs.Metadata.{Metadata}
use Rattle.std.specs.declared.fs.options.OpenOptions.{OpenOptions}
use Rattle.std.specs.declared.io.Error.{Error}
use Rattle.trau_files.specs.declared.trunk.claims.FileIdentity.{FileIdentity}

-- the operations of a folder of type D whose files have type F
pub record Operations (D F : Type 0) : Type 1 where
  -- opening this name with these options took the folder from the first state to the second
  pub opened : D → D → OpenOptions → List ℕ → Result F Error → Type 0
  -- removing the file that this name leads to took it from the first state to the second
  pub removed : D → D → List ℕ → Type 0
  -- asking an open file for its metadata gave this result
  pub told : F → Result Metadata Error → Type 0
  -- these metadata are of this file on a disk
  pub identified : Metadata → FileIdentity → Type 0
  -- a file with these metadata has so many names
  pub linked : Metadata → ℕ → Type 0
  -- asking the folder in this state for the metadata of the file that this name leads to gave this result
  pub described : D → List ℕ → Result Metadata Error → Type 0
  -- asking it for those of the name itself, also if it is a link, gave this result
  pub entry_described : D → List ℕ → Result Metadata Error → Type 0
  -- going to this octet took an open file from the first state to the second
  pub went : F → F → ℕ → Result ℕ Error → Type 0
  -- one read of an open file of the folder in this state took the file from the first state to the second, with this
  -- result and this buffer
  pub gave : D → F → F → Result ℕ Error → List ℕ → Type 0
  -- one write of these octets took the folder from the first state to the second, and the open file from the third to
  -- the fourth
  pub took : D → D → F → F → Result ℕ Error → List ℕ → Type 0
  -- emptying an open file took the folder from the first state to the second, and the file from the third to the fourth
  pub emptied : D → D → F → F → Result Unit Error → Type 0
  -- closing an open file in this state took the folder from the first state to the second
  pub closed : D → D → F → Type 0

-- reads of a file: the octets that they will give, where these are known, and what one read did
pub record ReadOperation (F : Type 0) : Type 1 where
  pub to_come : F → Option (List ℕ)
  pub gave : F → F → Result ℕ Error → List ℕ → Type 0

-- writes to a file: the octets that it has, where these are known, and what one write did
pub record WriteOperation (F : Type 0) : Type 1 where
  pub contents : F → Option (List ℕ)
  pub took : F → F → Result ℕ Error → List ℕ → Type 0

-- one read took the file from `old` to `new`, with this result and this buffer
pub record OneRead {F : Type 0} (reading : ReadOperation F) (old new : F) (result : Result ℕ Error) (buf : List ℕ) : Type 0 where
  pub gave : reading.gave old new result buf
  pub bound : ReadsAtMost result buf
  pub octets : ReadConsumes (reading.to_come old) (reading.to_come new) result buf

-- one write of these octets took the file from `old` to `new`, with this result
pub record OneWrite {F : Type 0} (writing : WriteOperation F) (old new : F) (result : Result ℕ Error) (bytes : List ℕ) : Type 0 where
  pub took : writing.took old new result bytes
  pub bound : WritesAtMost result bytes
  pub octets : WriteAppends (writing.contents old) (writing.contents new) result bytes

-- one read of an open file of a folder took the file from `old` to `new`, with this result and this buffer
pub record OneGive {D F : Type 0} (does : Operations D F) (folder : D) (old new : F) (result : Result ℕ Error) (buf : List ℕ) : Type 0 where
  pub gave : does.gave folder old new result buf
  pub bound : ReadsAtMost result buf

-- one write of these octets took a folder and an open file of it from `old` to `new`, with this result
pub record OneTake {D F : Type 0} (does : Operations D F) (old new : D × F) (result : Result ℕ Error) (bytes : List ℕ) : Type 0 where
  pub took : does.took old.0 new.0 old.1 new.1 result bytes
  pub bound : WritesAtMost result bytes

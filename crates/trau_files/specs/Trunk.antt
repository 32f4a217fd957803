-- The lines of a trunk as files: what a read and a write of a line do (this project's profile).
use Rattle.std.specs.Prelude.{◌≡◌, ◌⊎◌, ℕ, List, Option, Some, None, Result, Ok, Err, MatchResult, slice_set}
use Rattle.trau_io.specs.declared.line.Failed.{Failed}
use Rattle.trau_io.specs.declared.line.Side.{Side}
use Rattle.trau_io.specs.Indices.{index_of_line}
use Rattle.trau_files.specs.declared.trunk.claims.Claim.{Claim}
use Rattle.trau_files.specs.declared.trunk.fault.Fault.{Fault}
use Rattle.trau_files.specs.declared.trunk.bays.Access.{Access}
use Rattle.trau_files.specs.declared.trunk.bays.Access.TheVariants.{Reading, Writing}
use Rattle.trau_files.specs.Files.{FailsToGive, FailsToTake, FileLine, IsMovedBy, IsOpenAt, OpenAfter, OpenFiles, OpenLine, after_read, after_write, in_bay}
use Rattle.trau_files.specs.Folder.{Operations}
use Rattle.trau_files.specs.Opening.{Opens}
use Rattle.trau_files.specs.Bays.{FreesBays, NoneWasOpen}
use Rattle.trau_files.specs.Tries.{GivesOnce, TakesOnce}

-- the line had a file open at this octet, and nothing was opened
pub record WasOpen {D F : Type 0} (old : OpenFiles D F) (folder : D) (claims : List (Option Claim)) (call : ℕ) (side : Side) (access : Access) (at : ℕ) : Type 0 where
  pub bay : ℕ
  pub there : IsOpenAt (in_bay old.bays bay) call side access at
  pub same_folder : folder ≡ old.folder
  pub same_claims : claims ≡ old.claims

-- the line had no file open at this octet, and opening one gave this result
pub record IsNowOpened {D F : Type 0} (does : Operations D F) (old : OpenFiles D F) (folder : D) (claims : List (Option Claim)) (call : ℕ) (side : Side)
    (access : Access) (at : ℕ) (result : Result F Fault) : Type 0 where
  pub none : NoneWasOpen old.bays call side access at
  pub opens : Opens does old.folder folder old.claims claims call side access at result

-- a line's file at this octet: the one that was open there, or, if none was, one that was opened for it now
pub record IsFound {D F : Type 0} (does : Operations D F) (old : OpenFiles D F) (folder : D) (claims : List (Option Claim)) (call : ℕ) (side : Side)
    (access : Access) (at : ℕ) (o : OpenLine F) : Type 0 where
  pub stands : IsOpenAt (Some o) call side access at
  pub kept : (k : ℕ) → IsOpenAt (in_bay old.bays k) call side access at → in_bay old.bays k ≡ Some o
  pub from : WasOpen old folder claims call side access at ⊎ IsNowOpened does old folder claims call side access at (Ok o.file)

-- the line's file was found, which left the folder in this state; then an operation moved it on by n octets, and it is
-- open
pub record MovesFile {D F : Type 0} (does : Operations D F) (old new : OpenFiles D F) (folder : D) (call : ℕ) (side : Side) (access : Access) (at n : ℕ)
    (before now : OpenLine F) : Type 0 where
  pub found : IsFound does old folder new.claims call side access at before
  pub moved : IsMovedBy before n now
  pub still : OpenAfter old.bays new.bays call side (Some now)

-- a read of a line's file at this octet: the next octets of the file went to the start of the buffer, none only at its
-- end; a fault is that of the opening or of the read, and closes the file
abbrev pub ReadsFile : {D F : Type 0} → Operations D F → OpenFiles D F → OpenFiles D F → ℕ → Side → ℕ → Result ℕ Fault → List ℕ → Type 0
ReadsFile {F = F} does old new call side at result buf =
    MatchResult result
    (λ n. (before : OpenLine F) × (now : OpenLine F) × MovesFile does old new new.folder call side Reading at n before now
    × GivesOnce does new.folder before.file now.file (Ok n) buf)
    (λ fault. OpenAfter old.bays new.bays call side None
    × (IsNowOpened does old new.folder new.claims call side Reading at (Err fault)
    ⊎ ((before : OpenLine F) × IsFound does old new.folder new.claims call side Reading at before × FailsToGive does new.folder before.file fault buf)))

-- a write of a line's file at this octet: it gained a prefix of the octets; a fault is that of the opening or of the
-- write, and closes the file
abbrev pub WritesFile : {D F : Type 0} → Operations D F → OpenFiles D F → OpenFiles D F → ℕ → Side → ℕ → Result ℕ Fault → List ℕ → Type 0
WritesFile {D = D} {F = F} does old new call side at result bytes =
    MatchResult result
    (λ n. (folder : D) × (before : OpenLine F) × (now : OpenLine F) × MovesFile does old new folder call side Writing at n before now
    × TakesOnce does folder new.folder before.file now.file (Ok n) bytes)
    (λ fault. OpenAfter old.bays new.bays call side None
    × (IsNowOpened does old new.folder new.claims call side Writing at (Err fault)
    ⊎ ((folder : D) × (before : OpenLine F) × IsFound does old folder new.claims call side Writing at before
    × FailsToTake does folder new.folder before.file fault bytes)))

-- the line's result is that of its file; of a fault it says only that there was one
abbrev pub PassesOn : Result ℕ Failed → (Result ℕ Fault → Type 0) → Type 0
PassesOn result P = MatchResult result (λ n. P (Ok n)) (λ _. (fault : Fault) × P (Err fault))

-- all lines, and their files
pub record TrunkFiles (D F : Type 0) : Type 0 where
  pub lines : List FileLine
  pub files : OpenFiles D F

-- a read with this result of a line that was `l` before: it took the next octets of the line's file, and nothing else
pub record TrunkReads {D F : Type 0} (does : Operations D F) (old new : TrunkFiles D F) (call : ℕ) (side : Side) (l : FileLine)
    (result : Result ℕ Failed) (buf : List ℕ) : Type 0 where
  pub lines : new.lines ≡ slice_set old.lines (index_of_line call side) (after_read l result)
  pub files : PassesOn result (λ found. ReadsFile does old.files new.files call side l.read found buf)
  pub bays : FreesBays does old.files new.files call side Reading l.read

-- a write with this result of a line that was `l` before: the octets went to the line's file, after those written
-- before
pub record TrunkWrites {D F : Type 0} (does : Operations D F) (old new : TrunkFiles D F) (call : ℕ) (side : Side) (l : FileLine)
    (result : Result ℕ Failed) (bytes : List ℕ) : Type 0 where
  pub lines : new.lines ≡ slice_set old.lines (index_of_line call side) (after_write l result)
  pub files : PassesOn result (λ found. WritesFile does old.files new.files call side l.written found bytes)
  pub bays : FreesBays does old.files new.files call side Writing l.written

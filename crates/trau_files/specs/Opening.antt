-- Opening a line's file: which operations of the folder are made, in which order, and what they do (this project's
-- profile).
use Rattle.std.specs.Prelude.{◌≡◌, ◌⊎◌, ℕ, ◌<◌, pos, Bool, true, false, List, Option, Some, Result, Ok, Err, IfErr, MatchResult}
use Rattle.std.specs.Fs.{IsFile, file_type, metadata_len}
use Rattle.std.specs.IoError.{error_kind, raw_os_error}
use Rattle.std.specs.declared.fs.attrs.Metadata.{Metadata}
use Rattle.std.specs.declared.io.Error.{Error}
use Rattle.std.specs.declared.io.ErrorKind.TheVariants.{NotFound}
use Rattle.trau_io.specs.declared.line.Side.{Side}
use Rattle.trau_io.specs.Indices.{index_of_line}
use Rattle.trau_files.specs.declared.trunk.claims.Claim.{Claim}
use Rattle.trau_files.specs.declared.trunk.claims.FileIdentity.{FileIdentity}
use Rattle.trau_files.specs.declared.trunk.fault.Fault.{Fault}
use Rattle.trau_files.specs.declared.trunk.fault.Fault.TheVariants.{System, Shared}
use Rattle.trau_files.specs.declared.trunk.bays.Access.{Access}
use Rattle.trau_files.specs.declared.trunk.bays.Access.TheVariants.{Writing}
use Rattle.trau_files.specs.Claims.{AreApart, IsTaken, NotesFile}
use Rattle.trau_files.specs.Files.{file_name, options_for}
use Rattle.trau_files.specs.Folder.{Operations}
use Rattle.trau_files.specs.Recordings.{IsFree, IsRecording}

-- a file that wasn't opened for this reason is made: it is missing, and is to be written from its first octet on
abbrev pub IsToBeMade : Access → ℕ → Error → Type 0
IsToBeMade access at e = (access ≡ Writing) × (at ≡ 0) × (error_kind e ≡ NotFound)

-- a line's file was opened by its name, as it is; or it was missing, and was opened again so that it is made, unless
-- something else made it between
abbrev pub OpensOrMakes : {D F : Type 0} → Operations D F → D → D → ℕ → Side → Access → ℕ → Bool → Result F Error → Type 0
OpensOrMakes does old new call side access at false result =
    does.opened old new (options_for access false) (file_name call side) result × IfErr result (λ e. IsToBeMade access at e → ⊥)
OpensOrMakes {D = D} does old new call side access at true result =
    (mid : D) × (e : Error) × does.opened old mid (options_for access false) (file_name call side) (Err e) × IsToBeMade access at e
    × does.opened mid new (options_for access true) (file_name call side) result

-- A file that was just opened goes to its octet; a file of a disk that is to be written from its first octet on is
-- emptied; no other is. This takes the folder from `before` to `after`, and the file from `old` to `new`.
pub record Starts {D F : Type 0} (does : Operations D F) (access : Access) (at : ℕ) (metadata : Metadata) (before after : D) (old new : F)
    (result : Result Unit Error) : Type 0 where
  pub goes : 0 < at → (after ≡ before) × ((moved : Result ℕ Error) × does.went old new at moved
      × MatchResult moved (λ _. result ≡ Ok tt) (λ e. result ≡ Err e))
  pub empties : at ≡ 0 → access ≡ Writing → IsFile (file_type metadata) → does.emptied before after old new result
  pub stays : at ≡ 0 → (access ≡ Writing → IsFile (file_type metadata) → ⊥) → (after ≡ before) × (new ≡ old) × (result ≡ Ok tt)

-- a line's file was opened, made or not, and has these metadata
pub record IsSeen {D F : Type 0} (does : Operations D F) (old new : D) (call : ℕ) (side : Side) (access : Access) (at : ℕ) (file : F) (made : Bool)
    (metadata : Metadata) : Type 0 where
  pub opened : OpensOrMakes does old new call side access at made (Ok file)
  pub told : does.told file (Ok metadata)

-- a line's file was opened and has these metadata; one of a disk was noted for the line, and no other note changed; of
-- another file no note changed. No file that is written for one line is another line's; one that is to be written is no
-- recording by another name, also if it was made now
pub record IsClaimed {D F : Type 0} (does : Operations D F) (old new : D) (old_claims new_claims : List (Option Claim)) (call : ℕ) (side : Side)
    (access : Access) (at : ℕ) (file : F) (metadata : Metadata) : Type 0 where
  pub made : Bool
  pub seen : IsSeen does old new call side access at file made metadata
  pub identity : FileIdentity
  pub identified : does.identified metadata identity
  pub noted : NotesFile old_claims new_claims (index_of_line call side) metadata (record { file = identity; access = access })
  pub apart : AreApart new_claims
  pub free : access ≡ Writing → IsFile (file_type metadata) → IsFree does new call side metadata made identity

-- this open file is the line's: it was opened by the line's name, noted for the line if it is on a disk, and goes on at
-- this octet
pub record IsOpened {D F : Type 0} (does : Operations D F) (old new : D) (old_claims new_claims : List (Option Claim)) (call : ℕ) (side : Side)
    (access : Access) (at : ℕ) (file : F) : Type 0 where
  pub fresh : F
  pub metadata : Metadata
  pub mid : D
  pub claimed : IsClaimed does old mid old_claims new_claims call side access at fresh metadata
  pub started : Starts does access at metadata mid new fresh file (Ok tt)

-- an operation of the folder failed with this error; an open file was closed as that operation left it. Only if the
-- file was to go to its octet, or to be emptied, was it noted before
abbrev pub IsRefused : {D F : Type 0} → Operations D F → D → D → List (Option Claim) → List (Option Claim) → ℕ → Side → Access → ℕ → Error → Type 0
IsRefused {D = D} {F = F} does old new old_claims new_claims call side access at e =
    ((new_claims ≡ old_claims) × (made : Bool) × OpensOrMakes does old new call side access at made (Err e))
    ⊎ ((new_claims ≡ old_claims) × (file : F) × (made : Bool) × (mid : D) × OpensOrMakes does old mid call side access at made (Ok file)
    × does.told file (Err e) × does.closed mid new file)
    ⊎ ((fresh : F) × (metadata : Metadata) × (file : F) × (mid : D) × (started : D)
    × IsClaimed does old mid old_claims new_claims call side access at fresh metadata × Starts does access at metadata mid started fresh file (Err e)
    × does.closed started new file)

-- the file is one of a disk that another line has, one of the two to be written, or that is to be written and is the
-- recording of an incoming line; it is closed as it was opened, and what the name leads to is removed exactly if it was
-- made now and is empty; no note changes
pub record IsShared {D F : Type 0} (does : Operations D F) (old new : D) (old_claims new_claims : List (Option Claim)) (call : ℕ) (side : Side)
    (access : Access) (at : ℕ) (other : ℕ) : Type 0 where
  pub file : F
  pub made : Bool
  pub metadata : Metadata
  pub mid : D
  pub seen : IsSeen does old mid call side access at file made metadata
  pub disk : IsFile (file_type metadata)
  pub identity : FileIdentity
  pub identified : does.identified metadata identity
  pub same_claims : new_claims ≡ old_claims
  pub taken : IsTaken old_claims (index_of_line call side) (record { file = identity; access = access }) other
      ⊎ ((access ≡ Writing) × IsRecording does other identity)
  pub without : D
  pub closed : does.closed mid without file
  pub left : ((made ≡ true → metadata_len metadata ≡ 0 → ⊥) × (new ≡ without))
      ⊎ ((made ≡ true) × (metadata_len metadata ≡ 0) × does.removed without new (file_name call side))

-- why a line's file wasn't opened
abbrev pub FailsToOpen : {D F : Type 0} → Operations D F → D → D → List (Option Claim) → List (Option Claim) → ℕ → Side → Access → ℕ → Fault → Type 0
FailsToOpen does old new old_claims new_claims call side access at (System e) = IsRefused does old new old_claims new_claims call side access at e
FailsToOpen does old new old_claims new_claims call side access at (Shared other) = IsShared does old new old_claims new_claims call side access at other

-- one attempt to open a line's file
abbrev pub OpensOnce : {D F : Type 0} → Operations D F → D → D → List (Option Claim) → List (Option Claim) → ℕ → Side → Access → ℕ → Result F Fault → Type 0
OpensOnce does old new old_claims new_claims call side access at result =
    MatchResult result (λ file. IsOpened does old new old_claims new_claims call side access at file)
    (λ fault. FailsToOpen does old new old_claims new_claims call side access at fault)

-- the system had no descriptor left: in this process (EMFILE), or anywhere (ENFILE)
abbrev pub LacksDescriptor : Fault → Type 0
LacksDescriptor (System e) = (raw_os_error e ≡ Some (pos 23)) ⊎ (raw_os_error e ≡ Some (pos 24))
LacksDescriptor (Shared other) = ⊥

-- the first attempt failed since no descriptor was left, and may have noted its file; the second decides
pub record OpensAgain {D F : Type 0} (does : Operations D F) (old new : D) (old_claims new_claims : List (Option Claim)) (call : ℕ) (side : Side)
    (access : Access) (at : ℕ) (result : Result F Fault) : Type 0 where
  pub folder : D
  pub claims : List (Option Claim)
  pub fault : Fault
  pub first : FailsToOpen does old folder old_claims claims call side access at fault
  pub lacks : LacksDescriptor fault
  pub second : OpensOnce does folder new claims new_claims call side access at result

-- opening a line's file, with a second attempt only if no descriptor was left
abbrev pub Opens : {D F : Type 0} → Operations D F → D → D → List (Option Claim) → List (Option Claim) → ℕ → Side → Access → ℕ → Result F Fault → Type 0
Opens does old new old_claims new_claims call side access at result =
    (OpensOnce does old new old_claims new_claims call side access at result × IfErr result (λ fault. LacksDescriptor fault → ⊥))
    ⊎ OpensAgain does old new old_claims new_claims call side access at result

-- What an honest folder is: what each result of its operations means (this project's profile).
use Rattle.std.specs.Prelude.{◌≡◌, ℕ, ◌+◌, ◌<◌, ◌≤◌, ◌^◌, Bool, List, [], length, take, drop, None, Ok, Err}
use Rattle.std.specs.Fs.{IsFile, file_type}
use Rattle.std.specs.IoError.{error_kind}
use Rattle.std.specs.declared.fs.attrs.Metadata.{Metadata}
use Rattle.std.specs.declared.io.Error.{Error}
use Rattle.std.specs.declared.io.ErrorKind.TheVariants.{NotFound}
use Rattle.trau_files.specs.declared.trunk.claims.FileIdentity.{FileIdentity}
use Rattle.trau_files.specs.declared.trunk.bays.Access.{Access}
use Rattle.trau_files.specs.Files.{options_for}
use Rattle.trau_files.specs.Folder.{Operations}
use Rattle.trau_files.specs.Disk.{Changes, Disk, GivesOctets, OpensFile, Place, RemovesFile, Stays, written_at}

-- an honest folder: it has files, and each operation that didn't fail did what was asked; one that failed changed no
-- file
pub record IsHonest {D F : Type 0} (does : Operations D F) : Type 0 where
  -- the folder's files, and where an open file stands
  pub disk : D → Disk
  pub place : F → Place
  -- no file has 2^63 octets
  pub size : (d : D) (f : FileIdentity) → length ((disk d).octets f) < 2 ^ 63
  -- opening
  pub opens : (old new : D) (access : Access) (makes : Bool) (name : List ℕ) (file : F) → does.opened old new (options_for access makes) name (Ok file) →
      OpensFile (disk old) (disk new) name makes (place file)
  pub opens_none : (old new : D) (access : Access) (makes : Bool) (name : List ℕ) (e : Error) → does.opened old new (options_for access makes) name (Err e) →
      Stays (disk old) (disk new) × (error_kind e ≡ NotFound → (disk old).file_of name ≡ None)
  -- the metadata of an open file are those of a file on a disk, namely of this one
  pub tells : (file : F) (metadata : Metadata) → does.told file (Ok metadata) → IsFile (file_type metadata)
  pub identifies : (file : F) (metadata : Metadata) (f : FileIdentity) → does.told file (Ok metadata) → does.identified metadata f → f ≡ (place file).file
  -- going to an octet
  pub goes : (old new : F) (at n : ℕ) → does.went old new at (Ok n) → place new ≡ record { file = (place old).file; at = at }
  -- emptying
  pub empties : (before after : D) (old new : F) → does.emptied before after old new (Ok tt) →
      Changes (disk before) (disk after) (place old).file [] × (place new ≡ place old)
  pub empties_none : (before after : D) (old new : F) (e : Error) → does.emptied before after old new (Err e) →
      Stays (disk before) (disk after)
  -- a read gives the octets from the file's place on; none only at its end
  pub gives : (d : D) (old new : F) (n : ℕ) (buf : List ℕ) → does.gave d old new (Ok n) buf →
      GivesOctets (drop (place old).at ((disk d).octets (place old).file)) (drop ((place old).at + n) ((disk d).octets (place old).file)) n buf
      × (place new ≡ record { file = (place old).file; at = (place old).at + n })
  pub gives_none : (d : D) (old new : F) (e : Error) (buf : List ℕ) → does.gave d old new (Err e) buf → place new ≡ place old
  -- a write puts octets at the file's place, if that isn't past its end
  pub takes : (before after : D) (old new : F) (n : ℕ) (bytes : List ℕ) → does.took before after old new (Ok n) bytes →
      (place old).at ≤ length ((disk before).octets (place old).file) →
      Changes (disk before) (disk after) (place old).file (written_at ((disk before).octets (place old).file) (place old).at (take n bytes))
      × (place new ≡ record { file = (place old).file; at = (place old).at + n })
  pub takes_none : (before after : D) (old new : F) (e : Error) (bytes : List ℕ) → does.took before after old new (Err e) bytes →
      Stays (disk before) (disk after) × (place new ≡ place old)
  -- closing, and removing what a name leads to
  pub closes : (before after : D) (file : F) → does.closed before after file → Stays (disk before) (disk after)
  pub removes : (before after : D) (name : List ℕ) → does.removed before after name → RemovesFile (disk before) (disk after) name

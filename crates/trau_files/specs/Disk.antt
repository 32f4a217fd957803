-- The files of a folder: names, octets, and how operations change them (this project's profile).
use Rattle.std.specs.Prelude.{◌≡◌, ◌≢◌, ◌⊎◌, ℕ, ◌+◌, ◌<◌, Bool, true, List, [], ◌++◌, length, take, drop, Option, Some, None}
use Rattle.trau_files.specs.declared.trunk.claims.FileIdentity.{FileIdentity}

-- the files of a folder: which file on a disk each name leads to, if it leads to one, and the octets of each file
pub record Disk : Type 0 where
  pub file_of : List ℕ → Option FileIdentity
  pub octets : FileIdentity → List ℕ

-- where an open file stands: which file it is, and the octet of the next operation
pub record Place : Type 0 where
  pub file : FileIdentity
  pub at : ℕ

-- a file that no name leads to, and without octets
abbrev pub IsNew : Disk → FileIdentity → Type 0
IsNew disk f = ((name : List ℕ) → disk.file_of name ≢ Some f) × (disk.octets f ≡ [])

-- each name that led to a file leads to it still
abbrev pub KeepsNames : Disk → Disk → Type 0
KeepsNames old new = (name : List ℕ) (f : FileIdentity) → old.file_of name ≡ Some f → new.file_of name ≡ Some f

-- a name that leads to a file led to it before, or the file is a new one
abbrev pub LeadsOnToNew : Disk → Disk → Type 0
LeadsOnToNew old new = (name : List ℕ) (f : FileIdentity) → new.file_of name ≡ Some f → (old.file_of name ≡ Some f) ⊎ IsNew old f

-- each file has the octets that it had
abbrev pub KeepsOctets : Disk → Disk → Type 0
KeepsOctets old new = (f : FileIdentity) → new.octets f ≡ old.octets f

-- no file's octets and no name changed
abbrev pub Stays : Disk → Disk → Type 0
Stays old new = ((name : List ℕ) → new.file_of name ≡ old.file_of name) × KeepsOctets old new

-- this file has these octets now; no other file's octets and no name changed
pub record Changes (old new : Disk) (f : FileIdentity) (octets : List ℕ) : Type 0 where
  pub names : (name : List ℕ) → new.file_of name ≡ old.file_of name
  pub this : new.octets f ≡ octets
  pub others : (g : FileIdentity) → g ≢ f → new.octets g ≡ old.octets g

-- a file was opened at its first octet: the one that the name led to, or, if one may be made, a new one. Each name that
-- led to a file leads to it still, one that led to none leads at most to a new one, and no octet changed
pub record OpensFile (old new : Disk) (name : List ℕ) (makes : Bool) (place : Place) : Type 0 where
  pub start : place.at ≡ 0
  pub leads : new.file_of name ≡ Some place.file
  pub from : (old.file_of name ≡ Some place.file) ⊎ ((makes ≡ true) × IsNew old place.file)
  pub names : KeepsNames old new
  pub no_others : LeadsOnToNew old new
  pub octets : KeepsOctets old new

-- the file that this name led to may be gone, with its octets; no other file's name or octets changed, and no name
-- leads to a file to which it didn't lead before
pub record RemovesFile (old new : Disk) (name : List ℕ) : Type 0 where
  pub names : (other : List ℕ) (f : FileIdentity) → old.file_of other ≡ Some f → old.file_of name ≢ Some f → new.file_of other ≡ Some f
  pub no_others : (other : List ℕ) (f : FileIdentity) → new.file_of other ≡ Some f → old.file_of other ≡ Some f
  pub octets : (f : FileIdentity) → (new.octets f ≡ old.octets f) ⊎ ((old.file_of name ≡ Some f) × (new.octets f ≡ []))

-- octets with these written over them, or after them, from octet `at` on
abbrev pub written_at : List ℕ → ℕ → List ℕ → List ℕ
written_at octets at bytes = take at octets ++ (bytes ++ drop (at + length bytes) octets)

-- a read gave the first n of these octets, and left the rest; none only if there are none
abbrev pub GivesOctets : List ℕ → List ℕ → ℕ → List ℕ → Type 0
GivesOctets octets rest n buf = (octets ≡ take n buf ++ rest) × (n ≡ 0 → 0 < length buf → rest ≡ [])

-- the octets of the file that a name leads to; none if it leads to no file
abbrev pub octets_if : Disk → Option FileIdentity → List ℕ
octets_if disk None = []
octets_if disk (Some f) = disk.octets f

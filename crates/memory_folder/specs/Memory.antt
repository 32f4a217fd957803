-- The files of a folder in memory, and what each operation of it did (this project's profile).
use Rattle.std.specs.Prelude.{◌≡◌, ℕ, nat_eq, ◌+◌, ◌-◌, ◌^◌, zero, suc, Bool, true, List, [], take, drop, None, Result, Ok, Err, slice_index_or}
use Rattle.std.specs.List.{position}
use Rattle.std.specs.Cmp.Lexicographic.{pointwise}
use Rattle.std.specs.Option.{option_map}
use Rattle.std.specs.Fs.{IsFile, file_type, metadata_len}
use Rattle.std.specs.IoError.{error_kind}
use Rattle.std.specs.declared.fs.attrs.Metadata.{Metadata}
use Rattle.std.specs.declared.fs.options.OpenOptions.{OpenOptions}
use Rattle.std.specs.declared.io.Error.{Error}
use Rattle.std.specs.declared.io.ErrorKind.TheVariants.{NotFound}
use Rattle.trau_files.specs.declared.trunk.claims.FileIdentity.{FileIdentity}
use Rattle.trau_files.specs.Folder.{Operations}
use Rattle.trau_files.specs.Disk.{Changes, Disk, GivesOctets, OpensFile, Place, RemovesFile, Stays, written_at}
use Rattle.memory_folder.specs.declared.folder.OpenedFile.{OpenedFile}

-- a file: its name and its octets
pub record StoredFile : Type 0 where
  pub name : List ℕ
  pub octets : List ℕ

-- no file, as it is read past the list's end: it has no octets
abbrev pub no_file : StoredFile
no_file = record { name = []; octets = [] }

-- whether this name leads to the file
abbrev pub leads : List ℕ → StoredFile → Bool
leads name f = pointwise nat_eq f.name name

-- the file with this number, which is its place in the list
abbrev pub numbered : ℕ → FileIdentity
numbered number = record { device = 0; inode = number }

-- the octets of a file: at most 2^63 - 1, as no file has more
unfoldable pub bounded : List ℕ → List ℕ
bounded octets = take (2 ^ 63 - 1) octets

-- the octets of the file on this device with this number; there is one device
abbrev pub octets_on : List StoredFile → ℕ → ℕ → List ℕ
octets_on files zero number = bounded (slice_index_or files number no_file).octets
octets_on files (suc device) number = []

-- the files as names and octets
abbrev pub disk_of : List StoredFile → Disk
disk_of files = record { file_of = λ name. option_map numbered (position (leads name) files); octets = λ f. octets_on files f.device f.inode }

-- where an open file stands
abbrev pub place_of : OpenedFile → Place
place_of file = record { file = numbered file.number; at = file.at }

-- In its metadata a file's number stands as their length, since the standard library makes no metadata with a number of
-- their own.
abbrev pub identity_of : Metadata → FileIdentity
identity_of metadata = numbered (metadata_len metadata)

-- what each operation did, for each result
abbrev pub opens : List StoredFile → List StoredFile → OpenOptions → List ℕ → Result OpenedFile Error → Type 0
opens old new how name (Ok file) = OpensFile (disk_of old) (disk_of new) name how.create (place_of file)
opens old new how name (Err e) = Stays (disk_of old) (disk_of new) × (error_kind e ≡ NotFound → (disk_of old).file_of name ≡ None)

abbrev pub tells : OpenedFile → Result Metadata Error → Type 0
tells file (Ok metadata) = IsFile (file_type metadata) × (identity_of metadata ≡ (place_of file).file)
tells file (Err e) = Unit {0}

abbrev pub goes : OpenedFile → OpenedFile → ℕ → Result ℕ Error → Type 0
goes old new at (Ok n) = place_of new ≡ record { file = (place_of old).file; at = at }
goes old new at (Err e) = Unit {0}

abbrev pub gives : List StoredFile → OpenedFile → OpenedFile → Result ℕ Error → List ℕ → Type 0
gives files old new (Ok n) buf =
    GivesOctets (drop old.at ((disk_of files).octets (place_of old).file)) (drop (old.at + n) ((disk_of files).octets (place_of old).file)) n buf
    × (place_of new ≡ record { file = (place_of old).file; at = old.at + n })
gives files old new (Err e) buf = place_of new ≡ place_of old

abbrev pub takes : List StoredFile → List StoredFile → OpenedFile → OpenedFile → Result ℕ Error → List ℕ → Type 0
takes before after old new (Ok n) bytes =
    Changes (disk_of before) (disk_of after) (place_of old).file (written_at ((disk_of before).octets (place_of old).file) old.at (take n bytes))
    × (place_of new ≡ record { file = (place_of old).file; at = old.at + n })
takes before after old new (Err e) bytes = Stays (disk_of before) (disk_of after) × (place_of new ≡ place_of old)

abbrev pub empties : List StoredFile → List StoredFile → OpenedFile → OpenedFile → Result (Unit {0}) Error → Type 0
empties before after old new (Ok done) = Changes (disk_of before) (disk_of after) (place_of old).file [] × (place_of new ≡ place_of old)
empties before after old new (Err e) = Stays (disk_of before) (disk_of after)

abbrev pub in_memory : Operations (List StoredFile) OpenedFile
in_memory = record {
  opened = opens;
  removed = λ before after name. RemovesFile (disk_of before) (disk_of after) name;
  told = tells;
  identified = λ metadata f. f ≡ identity_of metadata;
  linked = λ metadata links. Unit {0};
  described = λ folder name result. Unit {0};
  entry_described = λ folder name result. Unit {0};
  went = goes;
  gave = gives;
  took = takes;
  emptied = empties;
  closed = λ before after file. Stays (disk_of before) (disk_of after);
}

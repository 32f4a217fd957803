-- An honest folder on paper (this project's profile).
use Rattle.std.specs.Prelude.{◌≡◌, ℕ, ◌+◌, ◌<◌, ◌^◌, List, [], length, take, drop, None, Result, Ok, Err}
use Rattle.std.specs.Fs.{IsFile, file_type, metadata_len}
use Rattle.std.specs.IoError.{error_kind}
use Rattle.std.specs.declared.fs.attrs.Metadata.{Metadata}
use Rattle.std.specs.declared.fs.options.OpenOptions.{OpenOptions}
use Rattle.std.specs.declared.io.Error.{Error}
use Rattle.std.specs.declared.io.ErrorKind.TheVariants.{NotFound}
use Rattle.trau_files.specs.declared.trunk.claims.FileIdentity.{FileIdentity}
use Rattle.trau_files.specs.Folder.{Operations}
use Rattle.trau_files.specs.Disk.{Changes, Disk, GivesOctets, OpensFile, Place, RemovesFile, Stays, written_at}

-- A folder that is one, on paper: what it does is what an honest folder does, and nothing else. Its state is its files,
-- an open file is its place
pub record Sized : Type 0 where
  pub disk : Disk
  pub size : (f : FileIdentity) → length (disk.octets f) < 2 ^ 63

-- on paper a file's number stands in its metadata as their length
abbrev pub identity_of : Metadata → FileIdentity
identity_of metadata = record { device = 0; inode = metadata_len metadata }

-- what each operation of it does, for each result
abbrev pub paper_opens : Sized → Sized → OpenOptions → List ℕ → Result Place Error → Type 0
paper_opens old new how name (Ok place) = OpensFile old.disk new.disk name how.create place
paper_opens old new how name (Err e) = Stays old.disk new.disk × (error_kind e ≡ NotFound → old.disk.file_of name ≡ None)

abbrev pub paper_tells : Place → Result Metadata Error → Type 0
paper_tells place (Ok metadata) = IsFile (file_type metadata) × (identity_of metadata ≡ place.file)
paper_tells place (Err e) = Unit {0}

abbrev pub paper_goes : Place → Place → ℕ → Result ℕ Error → Type 0
paper_goes old new at (Ok n) = new ≡ record { file = old.file; at = at }
paper_goes old new at (Err e) = Unit {0}

abbrev pub paper_gives : Sized → Place → Place → Result ℕ Error → List ℕ → Type 0
paper_gives d old new (Ok n) buf = GivesOctets (drop old.at (d.disk.octets old.file)) (drop (old.at + n) (d.disk.octets old.file)) n buf
    × (new ≡ record { file = old.file; at = old.at + n })
paper_gives d old new (Err e) buf = new ≡ old

abbrev pub paper_takes : Sized → Sized → Place → Place → Result ℕ Error → List ℕ → Type 0
paper_takes before after old new (Ok n) bytes =
    Changes before.disk after.disk old.file (written_at (before.disk.octets old.file) old.at (take n bytes)) × (new ≡ record { file = old.file; at = old.at + n })
paper_takes before after old new (Err e) bytes = Stays before.disk after.disk × (new ≡ old)

abbrev pub paper_empties : Sized → Sized → Place → Place → Result (Unit {0}) Error → Type 0
paper_empties before after old new (Ok done) = Changes before.disk after.disk old.file [] × (new ≡ old)
paper_empties before after old new (Err e) = Stays before.disk after.disk

abbrev pub on_paper : Operations Sized Place
on_paper = record {
  opened = paper_opens;
  removed = λ before after name. RemovesFile before.disk after.disk name;
  told = paper_tells;
  identified = λ metadata f. f ≡ identity_of metadata;
  linked = λ metadata links. Unit {0};
  described = λ folder name result. Unit {0};
  entry_described = λ folder name result. Unit {0};
  went = paper_goes;
  gave = paper_gives;
  took = paper_takes;
  emptied = paper_empties;
  closed = λ before after file. Stays before.disk after.disk;
}

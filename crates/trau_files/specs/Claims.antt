-- Which line has which file on a disk, so that no line is written to the file of another (this project's profile).
use Rattle.std.specs.Prelude.{◌≡◌, ◌≢◌, ◌⊎◌, ℕ, List, Option, None, Some, slice_index_or}
use Rattle.std.specs.Fs.{IsFile, file_type}
use Rattle.std.specs.declared.fs.attrs.Metadata.{Metadata}
use Rattle.trau_files.specs.declared.trunk.claims.Claim.{Claim}
use Rattle.trau_files.specs.declared.trunk.bays.Access.TheVariants.{Reading, Writing}

-- a line's note: the last file on a disk that the line with this index was opened with, if there is one
abbrev pub claim_at : List (Option Claim) → ℕ → Option Claim
claim_at claims k = slice_index_or claims k None

-- two lines may have the same file only if both are read
abbrev pub MayShare : Claim → Claim → Type 0
MayShare a b = a.file ≡ b.file → (a.access ≡ Reading) × (b.access ≡ Reading)

-- no file is written for one line and read or written for another
abbrev pub AreApart : List (Option Claim) → Type 0
AreApart claims = (i j : ℕ) (a b : Claim) → claim_at claims i ≡ Some a → claim_at claims j ≡ Some b → i ≢ j → MayShare a b

-- the line with this index may have this file beside those of the other lines
abbrev pub MayHave : List (Option Claim) → ℕ → Claim → Type 0
MayHave claims p c = (k : ℕ) (b : Claim) → claim_at claims k ≡ Some b → k ≢ p → MayShare c b

-- the line has this file, and has it for writing if it is claimed for that
abbrev pub Has : Option Claim → Claim → Type 0
Has None c = ⊥
Has (Some held) c = (held.file ≡ c.file) × (c.access ≡ Writing → held.access ≡ Writing)

-- which file any line but the one with this index has, and what for, is as before
abbrev pub OthersKeep : List (Option Claim) → List (Option Claim) → ℕ → Type 0
OthersKeep old new p = (k : ℕ) → k ≢ p → claim_at new k ≡ claim_at old k

-- the line gets this file of a disk for this access: if it has it for that already, no note changes;
-- else its note is now this one, and no other note changes
abbrev pub NotesDiskFile : List (Option Claim) → List (Option Claim) → ℕ → Claim → Type 0
NotesDiskFile old new p c =
    (Has (claim_at old p) c × (new ≡ old))
    ⊎ ((Has (claim_at old p) c → ⊥) × (claim_at new p ≡ Some c) × OthersKeep old new p)

-- the line gets a file that has these metadata: one of a disk is noted for the line; any other (a
-- pipe or a device, say) changes no note
abbrev pub NotesFile : List (Option Claim) → List (Option Claim) → ℕ → Metadata → Claim → Type 0
NotesFile old new p metadata c =
    (IsFile (file_type metadata) × NotesDiskFile old new p c)
    ⊎ ((IsFile (file_type metadata) → ⊥) × (new ≡ old))

-- another line has this file, and one of the two is written
pub record IsTaken (claims : List (Option Claim)) (p : ℕ) (c : Claim) (other : ℕ) : Type 0 where
  pub elsewhere : other ≢ p
  pub by : Claim
  pub there : claim_at claims other ≡ Some by
  pub file : by.file ≡ c.file
  pub written : (by.access ≡ Writing) ⊎ (c.access ≡ Writing)

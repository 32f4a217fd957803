-- Which files the incoming lines have, opened or not, so that no line is written to a recording by another name (this
-- project's profile).
use Rattle.std.specs.Prelude.{◌≡◌, ◌≢◌, ◌⊎◌, ℕ, ◌<◌, ◌≤◌, Bool, true, false, List, Option, None, Some, Ok, Err, slice_index_or}
use Rattle.std.specs.Fs.{IsSymlink, file_type}
use Rattle.std.specs.declared.fs.attrs.Metadata.{Metadata}
use Rattle.std.specs.declared.io.Error.{Error}
use Rattle.call_number.specs.declared.TheConstants.{LAST_CALL}
use Rattle.trau_io.specs.declared.line.Side.{Side}
use Rattle.trau_io.specs.declared.line.Side.TheVariants.{Up, Pcm}
use Rattle.trau_io.specs.Indices.{index_of_line}
use Rattle.trau_files.specs.declared.trunk.claims.FileIdentity.{FileIdentity}
use Rattle.trau_files.specs.Files.{file_name}
use Rattle.trau_files.specs.Folder.{Operations}

-- a line that is only read: of a call, with one of these sides
abbrev pub IsIncoming : ℕ → Side → Type 0
IsIncoming call side = (0 < call) × (call ≤ LAST_CALL) × ((side ≡ Up) ⊎ (side ≡ Pcm))

-- asked for the file that a name leads to, the folder named this one
pub record LedTo {D F : Type 0} (does : Operations D F) (name : List ℕ) (file : FileIdentity) : Type 0 where
  pub folder : D
  pub metadata : Metadata
  pub described : does.described folder name (Ok metadata)
  pub identified : does.identified metadata file

-- the same of the folder as it is
abbrev pub LeadsTo : {D F : Type 0} → Operations D F → D → List ℕ → FileIdentity → Type 0
LeadsTo does folder name file = (metadata : Metadata) × does.described folder name (Ok metadata) × does.identified metadata file

-- the line with this index is an incoming one, and its name led to this file
pub record IsRecording {D F : Type 0} (does : Operations D F) (index : ℕ) (file : FileIdentity) : Type 0 where
  pub call : ℕ
  pub side : Side
  pub incoming : IsIncoming call side
  pub place : index ≡ index_of_line call side
  pub led : LedTo does (file_name call side) file

-- asked for the file that a name leads to, the folder names none as it is
abbrev pub LeadsNowhere : {D F : Type 0} → Operations D F → D → List ℕ → Type 0
LeadsNowhere does folder name = (error : Error) × does.described folder name (Err error)

-- at some time it named none
abbrev pub LedNowhere : {D F : Type 0} → Operations D F → List ℕ → Type 0
LedNowhere {D = D} does name = (folder : D) × LeadsNowhere does folder name

-- how a name is known to lead to no file, or to this one: if a file was made just now, the folder was asked as it is
-- since, for the name may lead there; otherwise it was asked at some time
abbrev pub IsMissing : {D F : Type 0} → Operations D F → D → Bool → List ℕ → Type 0
IsMissing does folder true name = LeadsNowhere does folder name
IsMissing does folder false name = LedNowhere does name

abbrev pub IsLed : {D F : Type 0} → Operations D F → D → Bool → List ℕ → FileIdentity → Type 0
IsLed does folder true name file = LeadsTo does folder name file
IsLed does folder false name file = LedTo does name file

-- the name of each incoming line was looked up, and led to no file or to another than this one, which was made just now
-- or not
abbrev pub IsNoRecording : {D F : Type 0} → Operations D F → D → Bool → FileIdentity → Type 0
IsNoRecording does folder made file = (call : ℕ) (side : Side) → IsIncoming call side →
    IsMissing does folder made (file_name call side) ⊎ ((other : FileIdentity) × IsLed does folder made (file_name call side) other × (other ≢ file))

-- a line's file, which has these metadata, has no name beside the line's, which is no symbolic link
pub record HasOneName {D F : Type 0} (does : Operations D F) (folder : D) (call : ℕ) (side : Side) (metadata : Metadata) : Type 0 where
  pub links : ℕ
  pub linked : does.linked metadata links
  pub one : links ≤ 1
  pub entry : Metadata
  pub described : does.entry_described folder (file_name call side) (Ok entry)
  pub plain : IsSymlink (file_type entry) → ⊥

-- a file that a line is to write is no recording by another name: it has one name, or no incoming line's name led to it
abbrev pub IsFree : {D F : Type 0} → Operations D F → D → ℕ → Side → Metadata → Bool → FileIdentity → Type 0
IsFree does folder call side metadata made file = HasOneName does folder call side metadata ⊎ IsNoRecording does folder made file

-- the file that is noted for the line with this index, if one is
abbrev pub noted_at : List (Option FileIdentity) → ℕ → Option FileIdentity
noted_at files k = slice_index_or files k None

-- each file that is noted is a recording
abbrev pub AreRecordings : {D F : Type 0} → Operations D F → List (Option FileIdentity) → Type 0
AreRecordings does files = (k : ℕ) (file : FileIdentity) → noted_at files k ≡ Some file → IsRecording does k file

-- each file that is noted is one to which an incoming line's name is known to lead
abbrev pub AreLed : (List ℕ → FileIdentity → Type 0) → List (Option FileIdentity) → Type 0
AreLed Led files = (k : ℕ) (file : FileIdentity) → noted_at files k ≡ Some file →
    (call : ℕ) × (side : Side) × (k ≡ index_of_line call side) × Led (file_name call side) file

-- each incoming line of a call below this one was looked up: if no file is noted for it, its name is known to lead to
-- none
abbrev pub AreSearched : (List ℕ → Type 0) → List (Option FileIdentity) → ℕ → Type 0
AreSearched Missing files below = (call : ℕ) (side : Side) → IsIncoming call side → call < below → noted_at files (index_of_line call side) ≡ None →
    Missing (file_name call side)

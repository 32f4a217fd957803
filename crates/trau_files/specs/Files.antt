-- Lines as files: their names, and what is known of them (this project's profile).
use Rattle.std.specs.Prelude.{◌≡◌, ◌≢◌, ◌⊎◌, ℕ, ◌+◌, ◌-◌, ◌^◌, min, List, length, ◌++◌, Bool, true, Option, Some, None, IfSome, IsSomeAnd, Result, Ok, Err, MatchResult, codes, decimal}
use Rattle.std.specs.Prelude.{slice_get, slice_index_or}
use Rattle.std.specs.Fs.{new_options}
use Rattle.std.specs.declared.io.Error.{Error}
use Rattle.std.specs.declared.fs.options.OpenOptions.{OpenOptions}
use Rattle.trau_io.specs.declared.line.Failed.{Failed}
use Rattle.trau_io.specs.declared.line.Side.{Side}
use Rattle.trau_io.specs.Lines.{LineState}
use Rattle.trau_io.specs.Indices.{index_of_line}
use Rattle.trau_io.specs.Texts.{side_word}
use Rattle.trau_files.specs.declared.trunk.claims.Claim.{Claim}
use Rattle.trau_files.specs.declared.trunk.fault.Fault.{Fault}
use Rattle.trau_files.specs.declared.trunk.fault.Fault.TheVariants.{System}
use Rattle.trau_files.specs.declared.trunk.bays.Access.{Access}
use Rattle.trau_files.specs.declared.trunk.bays.Access.TheVariants.{Reading, Writing}
use Rattle.trau_files.specs.Folder.{Operations}
use Rattle.trau_files.specs.Tries.{GivesOnce, TakesOnce}

-- the name of a line's file: the call's number, a dot and the side's word
abbrev pub file_name : ℕ → Side → List ℕ
file_name call side = decimal call ++ (codes "." ++ side_word side)

-- a line in a file: how many octets were read and written, and how often it failed
pub record FileLine : Type 0 where
  pub read : ℕ
  pub written : ℕ
  pub faults : ℕ

-- a number raised by n, or its highest value
abbrev pub raised : ℕ → ℕ → ℕ
raised number n = min (number + n) (2 ^ 64 - 1)

-- the line after a read with this result
abbrev pub after_read : FileLine → Result ℕ Failed → FileLine
after_read l (Ok n) = record l { read = raised l.read n }
after_read l (Err e) = record l { faults = raised l.faults 1 }

-- the line after a write with this result
abbrev pub after_write : FileLine → Result ℕ Failed → FileLine
after_write l (Ok n) = record l { written = raised l.written n }
after_write l (Err e) = record l { faults = raised l.faults 1 }

-- what is known of a line in a file: how often it failed, and nothing of its octets
abbrev pub state_of : FileLine → LineState
state_of l = record { to_come = None; written = None; faults = l.faults }

-- what is known of each line of the list; a line past its end never failed
abbrev pub known_line : Option FileLine → LineState
known_line None = record { to_come = None; written = None; faults = 0 }
known_line (Some l) = state_of l

abbrev pub states_of : List FileLine → ℕ → Side → LineState
states_of lines call side = known_line (slice_get lines (index_of_line call side))

-- an open file of a line: what it is open for, its position in octets by the trunk's account, and the file itself
pub record OpenLine (F : Type 0) : Type 0 where
  pub call : ℕ
  pub side : Side
  pub access : Access
  pub at : ℕ
  pub file : F

-- an open file is this line's, open for this access and at this octet
abbrev pub IsOpenAt : {F : Type 0} → Option (OpenLine F) → ℕ → Side → Access → ℕ → Type 0
IsOpenAt file call side access at = IsSomeAnd file (λ o. (o.call ≡ call) × (o.side ≡ side) × (o.access ≡ access) × (o.at ≡ at))

-- an open file is still the line's, open for the same, and n octets further
abbrev pub IsMovedBy : {F : Type 0} → OpenLine F → ℕ → OpenLine F → Type 0
IsMovedBy o n now = (now.call ≡ o.call) × (now.side ≡ o.side) × (now.access ≡ o.access) × (now.at ≡ raised o.at n)

-- an open file after an operation with this result: it is further by the octets that were moved; a fault closes it
abbrev pub FileAfter : {F E : Type 0} → OpenLine F → Result ℕ E → Option (OpenLine F) → Type 0
FileAfter o result file = MatchResult result (λ n. IsSomeAnd file (IsMovedBy o n)) (λ _. file ≡ None)

-- the read of an open file failed with this fault, which is the file's own
abbrev pub FailsToGive : {D F : Type 0} → Operations D F → D → F → Fault → List ℕ → Type 0
FailsToGive {F = F} does folder old fault buf = (new : F) × (e : Error) × (fault ≡ System e) × GivesOnce does folder old new (Err e) buf

-- the write to an open file failed with this fault, which is the file's own; it took the folder from `before` to
-- `after`
abbrev pub FailsToTake : {D F : Type 0} → Operations D F → D → D → F → Fault → List ℕ → Type 0
FailsToTake {F = F} does before after old fault bytes = (new : F) × (e : Error) × (fault ≡ System e) × TakesOnce does before after old new (Err e) bytes

-- the read of an open file gave this result, which is the file's own; a file that failed is closed
abbrev pub FileGives : {D F : Type 0} → Operations D F → D → OpenLine F → Option (OpenLine F) → Result ℕ Fault → List ℕ → Type 0
FileGives does folder o file result buf =
    MatchResult result (λ n. IsSomeAnd file (λ now. GivesOnce does folder o.file now.file (Ok n) buf)) (λ fault. FailsToGive does folder o.file fault buf)

-- the write to an open file gave this result, which is the file's own, and took the folder from `before` to `after`; a
-- file that failed is closed
abbrev pub FileTakes : {D F : Type 0} → Operations D F → D → D → OpenLine F → Option (OpenLine F) → Result ℕ Fault → List ℕ → Type 0
FileTakes does before after o file result bytes =
    MatchResult result (λ n. IsSomeAnd file (λ now. TakesOnce does before after o.file now.file (Ok n) bytes))
    (λ fault. FailsToTake does before after o.file fault bytes)

-- How a line's file is opened: to read it, or to write it, where a missing file may be made. No opening empties a file,
-- since another line may have it.
abbrev pub options_for : Access → Bool → OpenOptions
options_for Reading makes = record new_options { read = true }
options_for Writing makes = record new_options { write = true; create = makes }

-- the open file in this bay, if there is one
abbrev pub in_bay : {F : Type 0} → List (Option (OpenLine F)) → ℕ → Option (OpenLine F)
in_bay bays k = slice_index_or bays k None

-- the open file of this line, or None if it has none
pub record IsFileOf {F : Type 0} (bays : List (Option (OpenLine F))) (call : ℕ) (side : Side) (file : Option (OpenLine F)) : Type 0 where
  pub only : (k : ℕ) (o : OpenLine F) → in_bay bays k ≡ Some o → o.call ≡ call → o.side ≡ side → file ≡ Some o
  pub there : IfSome file (λ o. (k : ℕ) × (in_bay bays k ≡ Some o))

-- nothing was opened: each bay has the file that it had, or none
abbrev pub OnlyCloses : {F : Type 0} → List (Option (OpenLine F)) → List (Option (OpenLine F)) → Type 0
OnlyCloses old new = (k : ℕ) → (in_bay new k ≡ in_bay old k) ⊎ (in_bay new k ≡ None)

-- each bay but this one has the file that it had, or none as before
abbrev pub OthersSit : {F : Type 0} → List (Option (OpenLine F)) → List (Option (OpenLine F)) → ℕ → Type 0
OthersSit old new bay = (k : ℕ) → k ≢ bay → in_bay new k ≡ in_bay old k

-- this line now has this open file, or none; no file of another line was opened
pub record OpenAfter {F : Type 0} (old new : List (Option (OpenLine F))) (call : ℕ) (side : Side) (file : Option (OpenLine F)) : Type 0 where
  pub this : IsFileOf new call side file
  pub others : (k : ℕ) → (in_bay new k ≡ in_bay old k) ⊎ (in_bay new k ≡ None) ⊎ (in_bay new k ≡ file)
  pub number : length new ≡ length old

-- a line's file is in the bay that the line's entry names
abbrev pub AreBayed : {F : Type 0} → List (Option (OpenLine F)) → List ℕ → Type 0
AreBayed {F = F} bays bay_of = (k : ℕ) (o : OpenLine F) → in_bay bays k ≡ Some o → slice_index_or bay_of (index_of_line o.call o.side) 0 ≡ k

-- the open files, each in a bay; which line has which file; the bay of the next file that is opened, and the last one
-- that is given; and the folder
pub record OpenFiles (D F : Type 0) : Type 0 where
  pub bays : List (Option (OpenLine F))
  pub claims : List (Option Claim)
  pub next : ℕ
  pub last : ℕ
  pub folder : D

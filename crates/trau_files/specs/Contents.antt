-- The lines over an honest folder, with the octets of their files (this project's profile).
use Rattle.std.specs.Prelude.{◌≡◌, ◌⊎◌, ◌<◌, ℕ, List, [], length, take, drop, Option, Some, None}
use Rattle.trau_io.specs.declared.line.Side.{Side}
use Rattle.trau_io.specs.declared.line.Side.TheVariants.{Up, Pcm, Down, Out}
use Rattle.trau_io.specs.Indices.{index_of_line}
use Rattle.trau_io.specs.Lines.{LineState}
use Rattle.trau_files.specs.declared.trunk.claims.Claim.{Claim}
use Rattle.trau_files.specs.declared.trunk.claims.FileIdentity.{FileIdentity}
use Rattle.trau_files.specs.declared.trunk.bays.Access.TheVariants.{Reading, Writing}
use Rattle.trau_files.specs.Claims.{claim_at}
use Rattle.trau_files.specs.Files.{FileLine, file_name, states_of}
use Rattle.trau_files.specs.Folder.{Operations}
use Rattle.trau_files.specs.Disk.{Disk, octets_if}
use Rattle.trau_files.specs.Honest.{IsHonest}
use Rattle.trau_files.specs.Holds.{Holds, line_at}
use Rattle.trau_files.specs.Trunk.{TrunkFiles}

-- a recorded line: the program reads it, and nothing writes it
abbrev pub IsRecorded : Side → Type 0
IsRecorded Up = Unit {0}
IsRecorded Pcm = Unit {0}
IsRecorded Down = ⊥
IsRecorded Out = ⊥

-- a line that the program writes
abbrev pub IsMade : Side → Type 0
IsMade Up = ⊥
IsMade Pcm = ⊥
IsMade Down = Unit {0}
IsMade Out = Unit {0}

-- the octets to come of a recorded line that gave n octets: those of its file at the start; none if there was no file
abbrev pub rest_of : Disk → Option FileIdentity → ℕ → List ℕ
rest_of start file n = drop n (octets_if start file)

-- a line by the file that its name led to at the start, how many octets it gave, which it took, and how often it
-- failed: of a recorded line the octets to come are known, of one that is made those that were written
abbrev pub line_of : Disk → Side → Option FileIdentity → ℕ → List ℕ → ℕ → LineState
line_of start Up file gave took faults = record { to_come = Some (rest_of start file gave); written = None; faults = faults }
line_of start Pcm file gave took faults = record { to_come = Some (rest_of start file gave); written = None; faults = faults }
line_of start Down file gave took faults = record { to_come = None; written = Some took; faults = faults }
line_of start Out file gave took faults = record { to_come = None; written = Some took; faults = faults }

-- the octets that a line took: those of the file that its name leads to now, if it took any
abbrev pub taken_of : Disk → List FileLine → ℕ → Side → List ℕ
taken_of now lines call side = take (line_at lines (index_of_line call side)).written (octets_if now (now.file_of (file_name call side)))

-- what is known of each line, from the folder's files at the start and now
abbrev pub contents_in : Disk → Disk → List FileLine → ℕ → Side → LineState
contents_in start now lines call side = line_of start side (start.file_of (file_name call side)) (line_at lines (index_of_line call side)).read
    (taken_of now lines call side) (states_of lines call side).faults

-- the line with this index has no file for writing
abbrev pub IsForReading : List (Option Claim) → ℕ → Type 0
IsForReading claims k = (c : Claim) → claim_at claims k ≡ Some c → c.access ≡ Reading

-- what the line with this index has for writing now, it had for writing before
abbrev pub NotesNoWriting : List (Option Claim) → List (Option Claim) → ℕ → Type 0
NotesNoWriting old new k = (c : Claim) → claim_at new k ≡ Some c → c.access ≡ Writing → claim_at old k ≡ Some c

-- each line that has a file for writing took octets, or failed
abbrev pub HaveUsedThem : List (Option Claim) → (ℕ → Side → List ℕ) → List FileLine → Type 0
HaveUsedThem claims put lines = (call : ℕ) (side : Side) (c : Claim) → claim_at claims (index_of_line call side) ≡ Some c → c.access ≡ Writing →
    (0 < length (put call side)) ⊎ (0 < (states_of lines call side).faults)

-- an honest folder that was `start` at first holds what its lines gave and took; no recorded line has a file for
-- writing, and each line that has one for writing used it
pub record Knows {D F : Type 0} {does : Operations D F} (honest : IsHonest does) (start : Disk) (t : TrunkFiles D F) : Type 0 where
  pub given : ℕ → Side → List ℕ
  pub put : ℕ → Side → List ℕ
  pub holds : Holds honest start given put t
  pub recorded : (call : ℕ) (side : Side) → IsRecorded side → IsForReading t.files.claims (index_of_line call side)
  pub used : HaveUsedThem t.files.claims put t.lines

-- what a trunk's lines are, and what is known of a trunk over a folder: nothing of octets if it isn't known to be
-- honest
abbrev pub contents_if : {D F : Type 0} {does : Operations D F} → Option (IsHonest does) → Disk → TrunkFiles D F → ℕ → Side → LineState
contents_if None start t call side = states_of t.lines call side
contents_if (Some honest) start t call side = contents_in start (honest.disk t.files.folder) t.lines call side

-- what the lines of a trunk are before its first operation: nothing was given or taken, and nothing failed
abbrev pub first_if : {D F : Type 0} {does : Operations D F} → Option (IsHonest does) → Disk → ℕ → Side → LineState
first_if None start call side = record { to_come = None; written = None; faults = 0 }
first_if (Some honest) start call side = line_of start side (start.file_of (file_name call side)) 0 [] 0

abbrev pub KnowsIf : {D F : Type 0} {does : Operations D F} → Option (IsHonest does) → Disk → TrunkFiles D F → Type 0
KnowsIf None start t = Unit {0}
KnowsIf (Some honest) start t = Knows honest start t

-- the files of a folder; none if it isn't known to be honest
abbrev pub disk_if : {D F : Type 0} {does : Operations D F} → Option (IsHonest does) → D → Disk
disk_if None folder = record { file_of = λ _. None; octets = λ _. [] }
disk_if (Some honest) folder = honest.disk folder

-- these are the files of the folder
abbrev pub IsAtStart : {D F : Type 0} {does : Operations D F} → Option (IsHonest does) → Disk → D → Type 0
IsAtStart honest start folder = disk_if honest folder ≡ start

-- no line's counts of octets changed
abbrev pub CountsStay : List FileLine → List FileLine → Type 0
CountsStay old new = (k : ℕ) → ((line_at new k).read ≡ (line_at old k).read) × ((line_at new k).written ≡ (line_at old k).written)

-- The file is that of a line that the program writes: it has exactly the octets that the line took, and the line took
-- some or failed.
pub record IsWrittenFor (now : Disk) (lines : List FileLine) (f : FileIdentity) (call : ℕ) (side : Side) : Type 0 where
  pub made : IsMade side
  pub leads : now.file_of (file_name call side) ≡ Some f
  pub has : now.octets f ≡ taken_of now lines call side
  pub used : (0 < length (taken_of now lines call side)) ⊎ (0 < (states_of lines call side).faults)

-- the name of the line's file leads to a file with exactly these octets
abbrev pub HasFile : Disk → ℕ → Side → List ℕ → Type 0
HasFile disk call side octets = (f : FileIdentity) × (disk.file_of (file_name call side) ≡ Some f) × (disk.octets f ≡ octets)

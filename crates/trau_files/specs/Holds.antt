-- What the files of an honest folder hold after reads and writes of lines (this project's profile).
use Rattle.std.specs.Prelude.{◌≡◌, ◌≢◌, ◌⊎◌, ℕ, ◌<◌, ◌^◌, List, [], ◌++◌, length, take, drop, Option, None, Some, Result, Ok, Err, IfSome, IsSomeAnd, slice_index_or}
use Rattle.trau_io.specs.declared.line.Failed.{Failed}
use Rattle.trau_io.specs.declared.line.Side.{Side}
use Rattle.trau_io.specs.Indices.{index_of_line}
use Rattle.trau_io.specs.Lines.{LineState, OthersStay, Reads, Writes}
use Rattle.trau_files.specs.declared.trunk.claims.Claim.{Claim}
use Rattle.trau_files.specs.declared.trunk.claims.FileIdentity.{FileIdentity}
use Rattle.trau_files.specs.declared.trunk.fault.Fault.{Fault}
use Rattle.trau_files.specs.declared.trunk.bays.Access.TheVariants.{Reading, Writing}
use Rattle.trau_files.specs.Claims.{claim_at}
use Rattle.trau_files.specs.Files.{FileLine, states_of, OpenLine, file_name, in_bay}
use Rattle.trau_files.specs.Folder.{Operations}
use Rattle.trau_files.specs.Trunk.{IsNowOpened, TrunkFiles}
use Rattle.trau_files.specs.Disk.{Disk, KeepsNames, octets_if, Place}
use Rattle.trau_files.specs.Honest.{IsHonest}

-- no line has this file for writing
abbrev pub IsUnwritten : List (Option Claim) → FileIdentity → Type 0
IsUnwritten claims f = (k : ℕ) (c : Claim) → claim_at claims k ≡ Some c → c.access ≡ Writing → c.file ≢ f

-- a file that is noted for writing has what its line took; or, where that is nothing, what it had at the start, since
-- it wasn't emptied yet
abbrev pub HasTaken : Disk → Disk → FileIdentity → List ℕ → Type 0
HasTaken start now f took = (now.octets f ≡ took) ⊎ ((took ≡ []) × (now.octets f ≡ start.octets f))

-- A line that gave and took these octets, each in order from the first on: its name leads to its file. If the line was
-- only read, what it gave is how its file began at the start; what it took is now the whole file
pub record IsLine (start now : Disk) (claim : Option Claim) (name gave took : List ℕ) : Type 0 where
  pub leads : IfSome claim (λ c. now.file_of name ≡ Some c.file)
  pub given : 0 < length gave → IsSomeAnd claim (λ c. c.access ≡ Reading → gave ≡ take (length gave) (start.octets c.file))
  pub put : 0 < length took → IsSomeAnd claim (λ c. (c.access ≡ Writing) × (now.octets c.file ≡ took))
  pub written : IfSome claim (λ c. c.access ≡ Writing → HasTaken start now c.file took)

-- the files of a folder that was `start` at first, after the lines gave and took these octets. A name that led to no
-- file then leads at most to one that had no octets then
pub record FilesHold (start now : Disk) (claims : List (Option Claim)) (given put : ℕ → Side → List ℕ) : Type 0 where
  pub names : KeepsNames start now
  pub newly_led : (name : List ℕ) (f : FileIdentity) → start.file_of name ≡ None → now.file_of name ≡ Some f → start.octets f ≡ []
  pub unwritten : (f : FileIdentity) → IsUnwritten claims f → now.octets f ≡ start.octets f
  pub lines : (call : ℕ) (side : Side) → IsLine start now (claim_at claims (index_of_line call side)) (file_name call side) (given call side) (put call side)

-- an open file is its line's, and stands where the line goes on
abbrev pub IsPlaced : {F : Type 0} → (F → Place) → List (Option Claim) → OpenLine F → Type 0
IsPlaced place claims o = (c : Claim) × (claim_at claims (index_of_line o.call o.side) ≡ Some c) × (place o.file ≡ record { file = c.file; at = o.at })
    × (o.access ≡ Writing → (c.access ≡ Writing) × (0 < o.at))

-- a line's counts; of a line past the list's end they are 0
abbrev pub line_at : List FileLine → ℕ → FileLine
line_at lines k = slice_index_or lines k (record { read = 0; written = 0; faults = 0 })

-- the line's counts are those of these octets, and haven't come to their last value
abbrev pub IsCounted : FileLine → List ℕ → List ℕ → Type 0
IsCounted l gave took = (l.read ≡ length gave) × (l.written ≡ length took) × (length gave < 2 ^ 63) × (length took < 2 ^ 63)

-- an honest folder that was `start` at first, and its lines, after they gave and took these octets
pub record Holds {D F : Type 0} {does : Operations D F} (honest : IsHonest does) (start : Disk) (given put : ℕ → Side → List ℕ) (t : TrunkFiles D F) : Type 0 where
  pub files : FilesHold start (honest.disk t.files.folder) t.files.claims given put
  pub bays : (k : ℕ) (o : OpenLine F) → in_bay t.files.bays k ≡ Some o → IsPlaced honest.place t.files.claims o
  pub counts : (call : ℕ) (side : Side) → IsCounted (line_at t.lines (index_of_line call side)) (given call side) (put call side)

-- one line's octets are more by these; the other lines' are the same
pub record Gains (old new : ℕ → Side → List ℕ) (call : ℕ) (side : Side) (more : List ℕ) : Type 0 where
  pub this : new call side ≡ old call side ++ more
  pub others : (c : ℕ) (s : Side) → (c ≡ call → s ≡ side → ⊥) → new c s ≡ old c s

-- the octets that an operation of a line moved
abbrev pub moved : Result ℕ Failed → List ℕ → List ℕ
moved (Ok n) bytes = take n bytes
moved (Err e) bytes = []

-- a trunk over an honest folder, before its first operation
abbrev pub HoldsAtFirst : {D F : Type 0} → Operations D F → D → TrunkFiles D F → Type 0
HoldsAtFirst does folder t = (honest : IsHonest does) → Holds honest (honest.disk folder) (λ _ _. []) (λ _ _. []) t

-- what is known of each line over an honest folder: to come are the octets of its file at the start but for those that
-- it gave; written are those that it took
abbrev pub contents_of : Disk → (ℕ → Side → List ℕ) → (ℕ → Side → List ℕ) → List FileLine → ℕ → Side → LineState
contents_of start given put lines call side = record {
  to_come = Some (drop (length (given call side)) (octets_if start (start.file_of (file_name call side))));
  written = Some (put call side);
  faults = (states_of lines call side).faults;
}

-- no file was written for the line
abbrev pub IsOnlyRead : List (Option Claim) → ℕ → Side → Type 0
IsOnlyRead claims call side = (c : Claim) → claim_at claims (index_of_line call side) ≡ Some c → c.access ≡ Reading

-- a read of a line keeps what an honest folder's files hold; the line has given these octets too. If the line was only
-- read, it still is, and they are its file's next; a line without a file at the start gives none
pub record ReadKeeps {D F : Type 0} {does : Operations D F} (honest : IsHonest does) (start : Disk) (given given' put : ℕ → Side → List ℕ) (old new : TrunkFiles D F)
    (call : ℕ) (side : Side) (result : Result ℕ Failed) (buf : List ℕ) : Type 0 where
  pub holds : Holds honest start given' put new
  pub only : IsOnlyRead old.files.claims call side → IsOnlyRead new.files.claims call side
  pub this : IsOnlyRead old.files.claims call side →
      Reads (contents_of start given put old.lines call side) (contents_of start given' put new.lines call side) result buf
  pub others : OthersStay (contents_of start given put old.lines) (contents_of start given' put new.lines) call side

abbrev pub ReadsHold : {D F : Type 0} → Operations D F → TrunkFiles D F → TrunkFiles D F → ℕ → Side → Result ℕ Failed → List ℕ → Type 0
ReadsHold does old new call side result buf =
    (honest : IsHonest does) (start : Disk) (given given' put : ℕ → Side → List ℕ) → Gains given given' call side (moved result buf) →
    Holds honest start given put old → ReadKeeps honest start given given' put old new call side result buf

-- the line's file was to be opened for this write, and wasn't
abbrev pub WasNotOpened : {D F : Type 0} → Operations D F → TrunkFiles D F → TrunkFiles D F → ℕ → Side → Type 0
WasNotOpened does old new call side = (fault : Fault)
    × IsNowOpened does old.files new.files.folder new.files.claims call side Writing (line_at old.lines (index_of_line call side)).written (Err fault)

-- so does a write; the line has taken these octets too, after those before. If its file was opened, it has what the
-- line took, also if that is nothing
pub record WriteKeeps {D F : Type 0} {does : Operations D F} (honest : IsHonest does) (start : Disk) (given put put' : ℕ → Side → List ℕ) (old new : TrunkFiles D F)
    (call : ℕ) (side : Side) (result : Result ℕ Failed) (bytes : List ℕ) : Type 0 where
  pub holds : Holds honest start given put' new
  pub file : WasNotOpened does old new call side
      ⊎ (octets_if (honest.disk new.files.folder) ((honest.disk new.files.folder).file_of (file_name call side)) ≡ put' call side)
  pub this : Writes (contents_of start given put old.lines call side) (contents_of start given put' new.lines call side) result bytes
  pub others : OthersStay (contents_of start given put old.lines) (contents_of start given put' new.lines) call side

abbrev pub WritesHold : {D F : Type 0} → Operations D F → TrunkFiles D F → TrunkFiles D F → ℕ → Side → Result ℕ Failed → List ℕ → Type 0
WritesHold does old new call side result bytes =
    (honest : IsHonest does) (start : Disk) (given put put' : ℕ → Side → List ℕ) → Gains put put' call side (moved result bytes) →
    Holds honest start given put old → WriteKeeps honest start given put put' old new call side result bytes

-- each line that was only read gave octets of its file as it was at the start: consecutive, from the first on; none if
-- there was no file
abbrev pub GaveTheirFiles : Disk → List (Option Claim) → (ℕ → Side → List ℕ) → Type 0
GaveTheirFiles start claims given = (call : ℕ) (side : Side) → IsOnlyRead claims call side →
    given call side ≡ take (length (given call side)) (octets_if start (start.file_of (file_name call side)))

-- the file of each line that took octets has these octets, and no others
abbrev pub HaveWhatTheyTook : Disk → (ℕ → Side → List ℕ) → Type 0
HaveWhatTheyTook now put = (call : ℕ) (side : Side) → 0 < length (put call side) → octets_if now (now.file_of (file_name call side)) ≡ put call side

-- the file of each line that has it for writing and took nothing is empty; or it is as it was at the start, since the
-- line didn't get to emptying it
abbrev pub AreEmptyOrAsBefore : Disk → Disk → List (Option Claim) → (ℕ → Side → List ℕ) → Type 0
AreEmptyOrAsBefore start now claims put = (call : ℕ) (side : Side) (c : Claim) → claim_at claims (index_of_line call side) ≡ Some c → c.access ≡ Writing →
    put call side ≡ [] → (now.octets c.file ≡ []) ⊎ (now.octets c.file ≡ start.octets c.file)

-- each file that no line has for writing has the octets that it had at the start
abbrev pub OthersHaveTheirs : Disk → Disk → List (Option Claim) → Type 0
OthersHaveTheirs start now claims = (f : FileIdentity) → IsUnwritten claims f → now.octets f ≡ start.octets f

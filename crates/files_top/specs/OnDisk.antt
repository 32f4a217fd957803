-- The run of given orders over the files of a folder, and what such a run leaves in them (this project's profile).
-- `start` are the files before it, `now` those after it.
use Rattle.std.specs.Prelude.{◌≡◌, ◌≢◌, ◌<◌, ◌⊎◌, ℕ, Bool, true, false, List, length, take, drop, Some}
use Rattle.trau_io.specs.declared.line.Side.{Side}
use Rattle.trau_io.specs.declared.line.Side.TheVariants.{Up, Pcm, Down, Out}
use Rattle.trau_io.specs.Lines.{LineState}
use Rattle.trau_orders.specs.declared.order.Order.{Order}
use Rattle.run_spec.specs.Run.{Incoming, IsOpened, Run}
use Rattle.trau_files.specs.declared.trunk.claims.FileIdentity.{FileIdentity}
use Rattle.trau_files.specs.Contents.{HasFile, IsMade, IsRecorded}
use Rattle.trau_files.specs.Disk.{Disk, KeepsNames, KeepsOctets, octets_if}
use Rattle.trau_files.specs.Files.{file_name}

-- the octets of the file that the line's name leads to; none if it leads to no file
abbrev pub octets_at : Disk → ℕ → Side → List ℕ
octets_at disk call side = octets_if disk (disk.file_of (file_name call side))

-- all of these octets; of a line that failed, the first n
abbrev pub given_by : Bool → ℕ → List ℕ → List ℕ
given_by false n octets = octets
given_by true n octets = take n octets

-- what the incoming lines of a call give: the octets of their files at the start, none if there was no file; a line
-- that failed gave only as many as `gave` says
abbrev pub incoming_of : Disk → (ℕ → Side → Bool) → (ℕ → Side → ℕ) → ℕ → Incoming
incoming_of start fails gave c = record {
  up = given_by (fails c Up) (gave c Up) (octets_at start c Up);
  pcm = given_by (fails c Pcm) (gave c Pcm) (octets_at start c Pcm);
  up_failed = fails c Up;
  pcm_failed = fails c Pcm;
}

-- the run of these orders, up to this number of periods, over these files
abbrev pub run_on : List Order → ℕ → Disk → (ℕ → Side → Bool) → (ℕ → Side → ℕ) → Run
run_on orders periods start fails gave = record { lines = incoming_of start fails gave; orders = orders; periods = periods }

-- each incoming line gave as many octets of its file at the start as `gave` says, and the others are still to come
abbrev pub AreGiven : Disk → (ℕ → Side → ℕ) → (ℕ → Side → LineState) → Type 0
AreGiven start gave after = (c : ℕ) (side : Side) → IsRecorded side → (after c side).to_come ≡ Some (drop (gave c side) (octets_at start c side))

-- If the line has any of these octets, its name leads to a file with exactly these. A line that failed has a proper
-- prefix of them.
abbrev pub HasOctets : Bool → Disk → ℕ → Side → List ℕ → Type 0
HasOctets false disk call side octets = 0 < length octets → HasFile disk call side octets
HasOctets true disk call side octets = (n : ℕ) × (n < length octets) × (0 < n → HasFile disk call side (take n octets))

-- of these octets, those that a line took: all; a line that failed took a proper prefix
abbrev pub AreTaken : Bool → List ℕ → List ℕ → Type 0
AreTaken false octets taken = taken ≡ octets
AreTaken true octets taken = (n : ℕ) × (n < length octets) × (taken ≡ take n octets)

-- the same of the line on this side of a call, by what its Out line and its Down line are to have; incoming lines take
-- none
abbrev pub AreTakenOn : Side → Bool → List ℕ → List ℕ → List ℕ → Type 0
AreTakenOn Up fails out down taken = ⊥
AreTakenOn Pcm fails out down taken = ⊥
AreTakenOn Down fails out down taken = AreTaken fails down taken
AreTakenOn Out fails out down taken = AreTaken fails out taken

-- The file is that of an outgoing line of a call that the run opens, and has exactly the octets that the line took: all
-- that it is to have, or, if it failed, a proper prefix.
pub record IsOutgoingFile (now : Disk) (fails : ℕ → Side → Bool) (r : Run) (outs downs : ℕ → List ℕ) (f : FileIdentity) : Type 0 where
  pub call : ℕ
  pub side : Side
  pub opened : IsOpened r call
  pub leads : now.file_of (file_name call side) ≡ Some f
  pub has : AreTakenOn side (fails call side) (outs call) (downs call) (now.octets f)
  -- a line that took none, and didn't fail, has opened no file
  pub used : (0 < length (now.octets f)) ⊎ (fails call side ≡ true)

-- no file's octets changed, and each name that led to a file leads to it still
abbrev pub FilesStay : Disk → Disk → Type 0
FilesStay start now = KeepsNames start now × KeepsOctets start now

-- a file that no outgoing line's name leads to now has the octets that it had
abbrev pub KeepsRecordings : Disk → Disk → Type 0
KeepsRecordings start now = (f : FileIdentity) → ((c : ℕ) (side : Side) → IsMade side → now.file_of (file_name c side) ≢ Some f) → now.octets f ≡ start.octets f

-- What a run leaves in the files, by what the Out line and the Down line of each call are to have.
pub record LeftOnDisk (start now : Disk) (fails : ℕ → Side → Bool) (r : Run) (outs downs : ℕ → List ℕ) : Type 0 where
  -- the outgoing files of each call that the run opens
  pub out_file : (c : ℕ) → IsOpened r c → HasOctets (fails c Out) now c Out (outs c)
  pub down_file : (c : ℕ) → IsOpened r c → HasOctets (fails c Down) now c Down (downs c)
  -- a file has the octets that it had, or is such an outgoing file, and has exactly its line's octets
  pub changed : (f : FileIdentity) → (now.octets f ≡ start.octets f) ⊎ IsOutgoingFile now fails r outs downs f
  -- any other file has the octets that it had, and each name that led to a file leads to it still
  pub others : (f : FileIdentity) → ((c : ℕ) (side : Side) → IsMade side → IsOpened r c → now.file_of (file_name c side) ≢ Some f) → now.octets f ≡ start.octets f
  pub names : KeepsNames start now

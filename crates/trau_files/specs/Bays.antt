-- Which bays are freed for a file that is opened (this project's profile).
use Rattle.std.specs.Prelude.{◌≡◌, ◌≢◌, ◌⊎◌, ℕ, ◌+◌, ◌-◌, min, List, Option, None, Some, Result, Ok, Err, IfOk}
use Rattle.trau_io.specs.declared.line.Side.{Side}
use Rattle.trau_files.specs.declared.trunk.claims.Claim.{Claim}
use Rattle.trau_files.specs.declared.trunk.fault.Fault.{Fault}
use Rattle.trau_files.specs.declared.trunk.bays.Access.{Access}
use Rattle.trau_files.specs.Files.{IsOpenAt, OpenFiles, OpenLine, OthersSit, in_bay}
use Rattle.trau_files.specs.Folder.{Operations}
use Rattle.trau_files.specs.Opening.{FailsToOpen, LacksDescriptor, Opens}

-- the line had no file open at this octet
abbrev pub NoneWasOpen : {F : Type 0} → List (Option (OpenLine F)) → ℕ → Side → Access → ℕ → Type 0
NoneWasOpen bays call side access at = (k : ℕ) → IsOpenAt (in_bay bays k) call side access at → ⊥

-- opening the line's file failed at first, since no descriptor was left
pub record IsShort {D F : Type 0} (does : Operations D F) (old : OpenFiles D F) (call : ℕ) (side : Side) (access : Access) (at : ℕ) : Type 0 where
  pub folder : D
  pub fault : Fault
  pub claims : List (Option Claim)
  pub failed : FailsToOpen does old.folder folder old.claims claims call side access at fault
  pub lacks : LacksDescriptor fault

-- no bay is given up; or, where no descriptor was left, the one before the next: it is freed, and is the last one that
-- is given
abbrev pub HoldsOrLessens : {D F : Type 0} → Operations D F → OpenFiles D F → OpenFiles D F → ℕ → Side → Access → ℕ → Type 0
HoldsOrLessens does old new call side access at =
    ((new.bays ≡ old.bays) × (new.next ≡ old.next) × (new.last ≡ old.last))
    ⊎ (OthersSit old.bays new.bays (old.next - 1) × (new.next ≡ old.next - 1) × (new.last ≡ old.next - 1) × IsShort does old call side access at
    × (in_bay new.bays (old.next - 1) ≡ None))

-- the next bay after an opening with this result: the one after it, up to the last, if the file was opened; else it
-- stays
abbrev pub bay_after : {F : Type 0} → ℕ → ℕ → Result F Fault → ℕ
bay_after next last (Ok file) = min last (next + 1)
bay_after next last (Err fault) = next

-- no bay but this one has an open file of the line
abbrev pub SitsHere : {F : Type 0} → List (Option (OpenLine F)) → ℕ → ℕ → Side → Type 0
SitsHere {F = F} bays bay call side = (k : ℕ) (o : OpenLine F) → k ≢ bay → in_bay bays k ≡ Some o → o.call ≡ call → o.side ≡ side → ⊥

-- opening the line's file gave this result, and left the folder in this state; only if it was opened, it got the next
-- bay, which is passed on
pub record PassesBay {D F : Type 0} (does : Operations D F) (old new : OpenFiles D F) (call : ℕ) (side : Side) (access : Access) (at : ℕ) : Type 0 where
  pub result : Result F Fault
  pub folder : D
  pub opens : Opens does old.folder folder old.claims new.claims call side access at result
  pub bay : IfOk result (λ _. SitsHere new.bays old.next call side)
  pub next : new.next ≡ bay_after old.next old.last result
  pub last : new.last ≡ old.last

-- for a file that is opened only the next bay is freed; where no descriptor was left, also the one before it
abbrev pub FreesNext : {D F : Type 0} → Operations D F → OpenFiles D F → OpenFiles D F → ℕ → Side → Access → ℕ → Type 0
FreesNext does old new call side access at =
    (OthersSit old.bays new.bays old.next × PassesBay does old new call side access at)
    ⊎ (((k : ℕ) → k ≢ old.next → k ≢ old.next - 1 → in_bay new.bays k ≡ in_bay old.bays k) × (new.next ≡ old.next - 1) × (new.last ≡ old.next - 1)
    × IsShort does old call side access at)

-- the files of other lines stay open, but for those in bays that are freed
abbrev pub OthersStayOpen : {F : Type 0} → List (Option (OpenLine F)) → List (Option (OpenLine F)) → ℕ → Side → (ℕ → Type 0) → Type 0
OthersStayOpen {F = F} old new call side freed =
    (k : ℕ) (o : OpenLine F) → in_bay old k ≡ Some o → (o.call ≡ call → o.side ≡ side → ⊥) → (freed k → ⊥) → in_bay new k ≡ Some o

-- the line's file was open: no bay of another line is freed
pub record FreesNone {D F : Type 0} (old new : OpenFiles D F) (call : ℕ) (side : Side) (access : Access) (at : ℕ) : Type 0 where
  pub bay : ℕ
  pub there : IsOpenAt (in_bay old.bays bay) call side access at
  pub others : OthersStayOpen old.bays new.bays call side (λ _. ⊥)
  pub next : new.next ≡ old.next
  pub last : new.last ≡ old.last

-- the line's file wasn't open: the next bay is freed for it, and passed on if it was opened
pub record FreesOne {D F : Type 0} (does : Operations D F) (old new : OpenFiles D F) (call : ℕ) (side : Side) (access : Access) (at : ℕ) : Type 0 where
  pub none : NoneWasOpen old.bays call side access at
  pub others : OthersStayOpen old.bays new.bays call side (λ k. k ≡ old.next)
  pub passes : PassesBay does old new call side access at

-- no descriptor was left for it: the bay before is freed too, and is the next and the last one from then on
pub record FreesTwo {D F : Type 0} (does : Operations D F) (old new : OpenFiles D F) (call : ℕ) (side : Side) (access : Access) (at : ℕ) : Type 0 where
  pub none : NoneWasOpen old.bays call side access at
  pub others : OthersStayOpen old.bays new.bays call side (λ k. (k ≡ old.next) ⊎ (k ≡ old.next - 1))
  pub next : new.next ≡ old.next - 1
  pub last : new.last ≡ old.next - 1
  pub short : IsShort does old call side access at

-- which bays are freed for a line's file
abbrev pub FreesBays : {D F : Type 0} → Operations D F → OpenFiles D F → OpenFiles D F → ℕ → Side → Access → ℕ → Type 0
FreesBays does old new call side access at =
    FreesNone old new call side access at ⊎ FreesOne does old new call side access at ⊎ FreesTwo does old new call side access at

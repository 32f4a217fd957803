-- A line's file that was found, and then moved on or closed.
use Rattle.std.proofs.Common.{◌≡◌, ℕ, List, Option, None, Some, Result, Ok, Err, IfSome, IsSomeAnd, inr, subst}
use Rattle.std.specs.declared.io.Error.{Error}
use Rattle.trau_io.specs.declared.line.Side.{Side}
use Rattle.trau_files.specs.declared.trunk.claims.Claim.{Claim}
use Rattle.trau_files.specs.declared.trunk.fault.Fault.{Fault}
use Rattle.trau_files.specs.declared.trunk.fault.Fault.TheVariants.{System}
use Rattle.trau_files.specs.declared.trunk.bays.Access.{Access}
use Rattle.trau_files.specs.declared.trunk.bays.Access.TheVariants.{Reading, Writing}
use Rattle.trau_files.specs.Files.{FileAfter, FileGives, FileTakes, OpenAfter, OpenFiles, OpenLine}
use Rattle.trau_files.specs.Folder.{Operations}
use Rattle.trau_files.specs.Opening.{LacksDescriptor, Opens, OpensOnce}
use Rattle.trau_files.specs.Trunk.{IsFound, ReadsFile, WritesFile}
use Rattle.trau_files.proofs.BayLaws.{open_twice}

-- a file that was found is the line's
pub its_line : {D F : Type 0} (does : Operations D F) (old : OpenFiles D F) (folder : D) (claims : List (Option Claim)) (call : ℕ) (side : Side)
    (access : Access) (at : ℕ) (was : Option (OpenLine F)) → IsSomeAnd was (IsFound does old folder claims call side access at) →
    IsSomeAnd was (λ o. (o.call ≡ call) × (o.side ≡ side))
its_line does old folder claims call side access at None found = absurd found
its_line does old folder claims call side access at (Some o) found = (found.stands.0, found.stands.1)

module _ {D F : Type 0} (does : Operations D F) (old new : OpenFiles D F) (mid : List (Option (OpenLine F))) (call : ℕ) (side : Side) (at : ℕ) where
  -- the file that was found stays the line's, or is closed
  still : (access : Access) (folder : D) (o : OpenLine F) (file : Option (OpenLine F)) → IsFound does old folder new.claims call side access at o →
      OpenAfter old.bays mid call side (Some o) → OpenAfter mid new.bays o.call o.side file → OpenAfter old.bays new.bays call side file
  still access folder o file found first second = open_twice old.bays mid new.bays o file call side found.stands.0 found.stands.1 first second

  pub reads_file : (was file : Option (OpenLine F)) (result : Result ℕ Fault) (buf : List ℕ) →
      IsSomeAnd was (IsFound does old new.folder new.claims call side Reading at) → OpenAfter old.bays mid call side was →
      IfSome was (λ o. FileAfter o result file) → IfSome was (λ o. FileGives does new.folder o file result buf) →
      IfSome was (λ o. OpenAfter mid new.bays o.call o.side file) → ReadsFile does old new call side at result buf
  reads_file None file result buf found first after gives second = absurd found
  reads_file (Some o) None (Ok n) buf found first after gives second = absurd after
  reads_file (Some o) (Some now) (Ok n) buf found first after gives second =
      (o, now, record { found = found; moved = after; still = still Reading new.folder o (Some now) found first second }, gives)
  reads_file (Some o) file (Err fault) buf found first after gives second =
      (subst (OpenAfter old.bays new.bays call side) after (still Reading new.folder o file found first second), inr (o, found, gives))

  pub writes_file : (folder : D) (was file : Option (OpenLine F)) (result : Result ℕ Fault) (bytes : List ℕ) →
      IsSomeAnd was (IsFound does old folder new.claims call side Writing at) → OpenAfter old.bays mid call side was →
      IfSome was (λ o. FileAfter o result file) → IfSome was (λ o. FileTakes does folder new.folder o file result bytes) →
      IfSome was (λ o. OpenAfter mid new.bays o.call o.side file) → WritesFile does old new call side at result bytes
  writes_file folder None file result bytes found first after takes second = absurd found
  writes_file folder (Some o) None (Ok n) bytes found first after takes second = absurd after
  writes_file folder (Some o) (Some now) (Ok n) bytes found first after takes second =
      (folder, o, now, record { found = found; moved = after; still = still Writing folder o (Some now) found first second }, takes)
  writes_file folder (Some o) file (Err fault) bytes found first after takes second =
      (subst (OpenAfter old.bays new.bays call side) after (still Writing folder o file found first second), inr (folder, o, found, takes))

-- a second attempt, since no descriptor was left for the first
pub opens_again : {D F : Type 0} (does : Operations D F) (old mid new : D) (old_claims mid_claims new_claims : List (Option Claim)) (call : ℕ) (side : Side)
    (access : Access) (at : ℕ) (first result : Result F Fault) (fault : Fault) (e : Error) → first ≡ Err fault → fault ≡ System e →
    OpensOnce does old mid old_claims mid_claims call side access at first → LacksDescriptor (System e) →
    OpensOnce does mid new mid_claims new_claims call side access at result → Opens does old new old_claims new_claims call side access at result
opens_again does old mid new old_claims mid_claims new_claims call side access at first result fault e failed is once lacks second = inr (record {
  folder = mid;
  claims = mid_claims;
  fault = fault;
  first = subst (OpensOnce does old mid old_claims mid_claims call side access at) failed once;
  lacks = rw is lacks;
  second = second;
})

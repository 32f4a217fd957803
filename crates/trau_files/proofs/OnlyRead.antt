-- A line whose file was only read, after one more read.
use Rattle.std.proofs.Common.{◌≡◌, ◌∙◌, ℕ, List, Option, Some, Result, Ok, Err, refl, sym, subst, inl, inr}
use Rattle.std.specs.declared.fs.attrs.Metadata.{Metadata}
use Rattle.trau_io.specs.declared.line.Failed.{Failed}
use Rattle.trau_io.specs.declared.line.Side.{Side}
use Rattle.trau_io.specs.Indices.{index_of_line}
use Rattle.trau_files.specs.declared.trunk.claims.Claim.{Claim}
use Rattle.trau_files.specs.declared.trunk.fault.Fault.{Fault}
use Rattle.trau_files.specs.declared.trunk.fault.Fault.TheVariants.{System, Shared}
use Rattle.trau_files.specs.declared.trunk.bays.Access.TheVariants.{Reading}
use Rattle.trau_files.specs.Claims.{NotesFile, claim_at}
use Rattle.trau_files.specs.Files.{FileLine, OpenFiles, OpenLine}
use Rattle.trau_files.specs.Folder.{Operations}
use Rattle.trau_files.specs.Opening.{FailsToOpen, Opens, OpensOnce}
use Rattle.trau_files.specs.Trunk.{IsFound, TrunkFiles, TrunkReads}

-- the line with this index has no file for writing
abbrev pub IsRead : List (Option Claim) → ℕ → Type 0
IsRead claims p = (c : Claim) → claim_at claims p ≡ Some c → c.access ≡ Reading

same_claims : (old new : List (Option Claim)) (p : ℕ) → new ≡ old → IsRead old p → IsRead new p
same_claims old new p same is = subst (λ (cs : List (Option Claim)). IsRead cs p) (sym same) is

noted_read : (old new : List (Option Claim)) (p : ℕ) (metadata : Metadata) (c : Claim) → c.access ≡ Reading → NotesFile old new p metadata c → IsRead old p → IsRead new p
noted_read old new p metadata c reads notes is = elim notes [
  | inl (_, inl has) ↦ same_claims old new p has.1 is
  | inl (_, inr other) ↦ λ d there. let both : Some d ≡ Some c = sym there ∙ other.1 in let one : d ≡ c = cc in cc
  | inr (_, same) ↦ same_claims old new p same is
]

module _ {D F : Type 0} (does : Operations D F) (call : ℕ) (side : Side) (at : ℕ) where
  failed_read : (old new : D) (claims claims' : List (Option Claim)) (fault : Fault) → FailsToOpen does old new claims claims' call side Reading at fault →
      IsRead claims (index_of_line call side) → IsRead claims' (index_of_line call side)
  failed_read old new claims claims' (System e) fails is = elim fails [
    | inl f ↦ same_claims claims claims' (index_of_line call side) f.0 is
    | inr (inl f) ↦ same_claims claims claims' (index_of_line call side) f.0 is
    | inr (inr f) ↦ noted_read claims claims' (index_of_line call side) f.1 _ refl f.5.noted is
  ]
  failed_read old new claims claims' (Shared other) f is = same_claims claims claims' (index_of_line call side) f.same_claims is

  once_read : (old new : D) (claims claims' : List (Option Claim)) (result : Result F Fault) → OpensOnce does old new claims claims' call side Reading at result →
      IsRead claims (index_of_line call side) → IsRead claims' (index_of_line call side)
  once_read old new claims claims' (Ok file) opens is = noted_read claims claims' (index_of_line call side) opens.metadata _ refl opens.claimed.noted is
  once_read old new claims claims' (Err fault) opens is = failed_read old new claims claims' fault opens is

  opens_read : (old new : D) (claims claims' : List (Option Claim)) (result : Result F Fault) → Opens does old new claims claims' call side Reading at result →
      IsRead claims (index_of_line call side) → IsRead claims' (index_of_line call side)
  opens_read old new claims claims' result opens is = elim opens [
    | inl once ↦ once_read old new claims claims' result once.0 is
    | inr again ↦ once_read again.folder new again.claims claims' result again.second (failed_read old again.folder claims again.claims again.fault again.first is)
  ]

  found_read : (old : OpenFiles D F) (now : D) (claims' : List (Option Claim)) (o : OpenLine F) → IsFound does old now claims' call side Reading at o →
      IsRead old.claims (index_of_line call side) → IsRead claims' (index_of_line call side)
  found_read old now claims' o found is = elim found.from [
    | inl was ↦ same_claims old.claims claims' (index_of_line call side) was.same_claims is
    | inr opened ↦ opens_read old.folder now old.claims claims' (Ok o.file) opened.opens is
  ]

pub still_read : {D F : Type 0} (does : Operations D F) (old new : TrunkFiles D F) (call : ℕ) (side : Side) (l : FileLine) (result : Result ℕ Failed) (buf : List ℕ) →
    TrunkReads does old new call side l result buf → IsRead old.files.claims (index_of_line call side) → IsRead new.files.claims (index_of_line call side)
still_read does old new call side l (Ok n) buf reads is = found_read does call side l.read old.files new.files.folder new.files.claims reads.files.0 reads.files.2.found is
still_read does old new call side l (Err e) buf reads is =
    let fails = reads.files.1 in
    elim fails.1 [
      | inl opens ↦ opens_read does call side l.read old.files.folder new.files.folder old.files.claims new.files.claims (Err reads.files.0) opens.opens is
      | inr gives ↦ found_read does call side l.read old.files new.files.folder new.files.claims gives.0 gives.1 is
    ]
